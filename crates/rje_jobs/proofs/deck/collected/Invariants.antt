use Rattle.std.proofs.Common.{◌≡◌, ◌++◌}
use Rattle.rje_jobs.proofs.deck.collected.Given as goal

abbrev pub invariant-loop-card : goal.invariant-loop-card
invariant-loop-card l = l.records ++ l.card-iterator ≡ l.fn.cards
