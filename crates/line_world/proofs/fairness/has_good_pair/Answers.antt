-- What `any` tells of the windows of two.
use Rattle.std.proofs.Common.{arith, tests, rules}
use Rattle.std.proofs.lemmas.Iterator.{cases_from_any}
use Rattle.line_world.proofs.Windows.{AreGood, YieldsList-from_windows, pair_told}
use Rattle.line_world.proofs.fairness.has_good_pair.Goals as goal

pub returns : goal.returns
returns c =
    let turns = c.args.turns.now in
    pair_told c.any.result turns
    (cases_from_any _ _ _ AreGood (λ w. AreGood w → ⊥) c.any.ensures.ran (YieldsList-from_windows 2 turns c.windows.ensures.rest c.windows.ensures.size (omega arith)) (λ w q k. search (rules, tests)) (λ w q k. search (rules, tests)))
