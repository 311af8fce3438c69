-- What both calls of `all` tell, of the turns and of the windows of eight.
use Rattle.std.proofs.Common.{arith, tests, rules}
use Rattle.std.proofs.lemmas.Iterator.{cases_from_all, YieldsList-from_slice}
use Rattle.line_world.specs.Fairness.{HasGoodPair}
use Rattle.line_world.proofs.Windows.{IsReady, YieldsList-from_windows, fair_told}
use Rattle.line_world.proofs.fairness.is_fair.Goals as goal

pub returns-then-all : goal.returns-then-all
returns-then-all c =
    let turns = c.args.turns.now in
    fair_told c.all.result c.all-then-all.result turns _ c.if-all.true
    (cases_from_all _ _ _ IsReady (λ turn. IsReady turn → ⊥) c.all.ensures.ran (YieldsList-from_slice turns c.iter.ensures.rest) (λ turn q k. search (rules, tests)) (λ turn q k. search (rules, tests)))
    (cases_from_all _ _ _ HasGoodPair (λ w. HasGoodPair w → ⊥) c.all-then-all.ensures.ran (YieldsList-from_windows 8 turns c.windows.ensures.rest c.windows.ensures.size (omega arith)) (λ w q k. search (rules, tests)) (λ w q k. search (rules, tests)))
