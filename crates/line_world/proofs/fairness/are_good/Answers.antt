-- What `all` tells of the turns.
use Rattle.std.proofs.Common.{tests, rules}
use Rattle.std.proofs.lemmas.Iterator.{cases_from_all, YieldsList-from_slice}
use Rattle.line_world.specs.GoodTurn.{IsGood}
use Rattle.line_world.proofs.Windows.{good_told}
use Rattle.line_world.proofs.fairness.are_good.Goals as goal

pub returns : goal.returns
returns c =
    let turns = c.args.turns.now in
    good_told c.all.result turns
    (cases_from_all _ _ _ IsGood (λ turn. IsGood turn → ⊥) c.all.ensures.ran (YieldsList-from_slice turns c.iter.ensures.rest) (λ turn q k. search (rules, tests)) (λ turn q k. search (rules, tests)))
