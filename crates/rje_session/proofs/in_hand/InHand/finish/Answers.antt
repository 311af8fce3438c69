use Rattle.std.proofs.Common.{◌≡◌, ◌∙◌, ◌++◌, ap, arith, length, List, rules, slice_get, ℕ}
use Rattle.rje_session.specs.Account.{IsSettled, SettlesRest, ended_of}
use Rattle.rje_session.specs.Keeping.{cutting}
use Rattle.rje_jobs.specs.declared.job.Job.{Job}
use Rattle.rje_session.proofs.LedgerInStep.{on_ok, rest_as, settled_none, settled_on, settled_rest}
use Rattle.rje_session.proofs.in_hand.InHand.finish.Goals.{then-counted-given+in_ok-settle_rest, else-counted-given}
use Rattle.rje_session.proofs.in_hand.InHand.finish.Goals as goal

pub returns-clause-settled : goal.returns-clause-settled
returns-clause-settled g c shows in_step =
    let held = c.args.self.now in
    let counted : c.counted-counted.result ≡ held.station.sender.counted = search rules in
    let given : length c.jobs-given.result.now ≡ length held.station.sender.jobs = search rules in
    let mid : IsSettled held (g.S.Spool.ledger c.if-counted-given.spool) =
    elim c.if-counted-given.branch [
      | then-counted-given+in_ok-settle_rest w ↦
          let rest : SettlesRest (ended_of held) held.station.sender.counted (length held.station.sender.jobs) (g.S.Spool.ledger c.args.spool.now) (g.S.Spool.ledger w.settle_rest.new.spool) =
          rest_as w.ended.result (ended_of held) c.counted-counted.result _ (length c.jobs-given.result.now) _ _ _ w.ended.ensures counted given (w.in_ok-settle_rest.ensures.settled shows) in
          rw w.spool-is (settled_rest held (g.S.Spool.ledger c.args.spool.now) (g.S.Spool.ledger w.settle_rest.new.spool) (omega arith) rest in_step)
      | else-counted-given w ↦ rw w.spool-is (settled_none held (g.S.Spool.ledger c.args.spool.now) (omega arith) in_step)
    ] in
    on_ok c.keep_cut.result _ _ (λ is. settled_on held _ (g.S.Spool.ledger c.if-counted-given.spool) (g.S.Spool.ledger c.keep_cut.new.spool) is mid) (c.keep_cut.ensures.entered shows)

pub returns-clause-cut : goal.returns-clause-cut
returns-clause-cut g c shows =
    let are : c.jobs.result.now ≡ c.args.self.now.station.receiver.jobs = search rules in
    let kept : c.self.inside.kept ≡ c.args.self.now.kept = search rules in
    on_ok c.keep_cut.result _ _
    (λ is. (
      g.S.Spool.ledger c.if-counted-given.spool,
      is ∙ ap (λ (n : ℕ). cutting (slice_get c.jobs.result.now n) ++ g.S.Spool.ledger c.if-counted-given.spool) kept
          ∙ ap (λ (l : List Job). cutting (slice_get l c.args.self.now.kept) ++ g.S.Spool.ledger c.if-counted-given.spool) are,
    ))
    (c.keep_cut.ensures.entered shows)
