use Rattle.std.proofs.Common.{◌≡◌, ◌++◌}
use Rattle.std.specs.Prelude.{replicate}
use Rattle.bsc_codes.specs.Bytes.{BLANK}
use Rattle.rje_jobs.proofs.cards.fill.Given as goal

abbrev pub invariant-loop : goal.invariant-loop
invariant-loop l = l.card.items ≡ l.fn.card.items ++ replicate l.counter BLANK
