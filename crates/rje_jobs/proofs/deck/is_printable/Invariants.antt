use Rattle.std.proofs.Common.{ℕ, ◌≤◌, ◌<◌, get_or}
use Rattle.rje_jobs.proofs.deck.is_printable.Given as goal

abbrev pub invariant-loop-character : goal.invariant-loop-character
invariant-loop-character l = (k : ℕ) → k < l.character-index → (l.least ≤ get_or l.line k 0) × (get_or l.line k 0 ≤ l.greatest)
