use Rattle.std.proofs.Common.{◌≡◌, ◌-◌, length, drop}
use Rattle.line_world.specs.MemoryLine.{ready, pieces_in}
use Rattle.line_world.proofs.memory_line.pass_empty.Given as goal

abbrev pub invariant-loop-piece : goal.invariant-loop-piece
invariant-loop-piece l =
    ready (pieces_in (λ p. p.items) l.given (drop l.piece l.pieces)) ≡ ready (pieces_in (λ p. p.items) l.fn.given (drop l.fn.piece l.pieces))

abbrev pub decreases-loop-piece : goal.decreases-loop-piece
decreases-loop-piece l = length l.pieces - l.piece
