use Rattle.std.proofs.Common.{ap}
use Rattle.rje_accounts.specs.Names.{come_of, kept_of, promise_of, sent_of}
use Rattle.rje_accounts.proofs.Asked.{ok_turn}
use Rattle.rje_accounts.proofs.Sorted.{passed, taken}
use Rattle.rje_accounts.proofs.settle_names.SettleNames.push.Goals as goal

pub returns-in-Sent : goal.returns-in-Sent
returns-in-Sent c = λ all sorted. ok_turn _ _ c.add.result (λ e. record {
  sent = taken sent_of all c.args.name c.in-Sent.receipt _ _ (ap sent_of c.in-Sent.is) sorted.sent e;
  kept = passed kept_of all c.args.name _ (ap kept_of c.in-Sent.is) sorted.kept;
  promises = passed promise_of all c.args.name _ (ap promise_of c.in-Sent.is) sorted.promises;
  come = passed come_of all c.args.name _ (ap come_of c.in-Sent.is) sorted.come;
}) c.add.ensures

pub returns-in-Out : goal.returns-in-Out
returns-in-Out c = λ all sorted. ok_turn _ _ c.add-in-Out.result (λ e. record {
  sent = passed sent_of all c.args.name _ (ap sent_of c.in-Out.is) sorted.sent;
  kept = passed kept_of all c.args.name _ (ap kept_of c.in-Out.is) sorted.kept;
  promises = taken promise_of all c.args.name c.in-Out.promise _ _ (ap promise_of c.in-Out.is) sorted.promises e;
  come = passed come_of all c.args.name _ (ap come_of c.in-Out.is) sorted.come;
}) c.add-in-Out.ensures

pub returns-in-Kept : goal.returns-in-Kept
returns-in-Kept c = λ all sorted. ok_turn _ _ c.add-in-Kept.result (λ e. record {
  sent = passed sent_of all c.args.name _ (ap sent_of c.in-Kept.is) sorted.sent;
  kept = taken kept_of all c.args.name c.in-Kept.receipt _ _ (ap kept_of c.in-Kept.is) sorted.kept e;
  promises = passed promise_of all c.args.name _ (ap promise_of c.in-Kept.is) sorted.promises;
  come = passed come_of all c.args.name _ (ap come_of c.in-Kept.is) sorted.come;
}) c.add-in-Kept.ensures

pub returns-in-Come : goal.returns-in-Come
returns-in-Come c = λ all sorted. ok_turn _ _ c.add-in-Come.result (λ e. record {
  sent = passed sent_of all c.args.name _ (ap sent_of c.in-Come.is) sorted.sent;
  kept = passed kept_of all c.args.name _ (ap kept_of c.in-Come.is) sorted.kept;
  promises = passed promise_of all c.args.name _ (ap promise_of c.in-Come.is) sorted.promises;
  come = taken come_of all c.args.name c.in-Come.number _ _ (ap come_of c.in-Come.is) sorted.come e;
}) c.add-in-Come.ensures
