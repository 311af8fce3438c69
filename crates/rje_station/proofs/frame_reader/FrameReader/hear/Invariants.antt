-- The bytes so far were fed, and there is room for the others of the first 8,192; nothing was transmitted.
use Rattle.std.proofs.Common.{◌≡◌, ◌≤◌}
use Rattle.rje_station.specs.Line.{Passes, Ages}
use Rattle.rje_station.proofs.Hearings.{FedSo}
use Rattle.rje_station.proofs.frame_reader.FrameReader.hear.Given as goal

abbrev pub invariant-loop-self : goal.invariant-loop-self
invariant-loop-self g l =
    (g.L.Line.failures l.fn.line ≤ g.L.Line.failures l.line)
    × Passes (g.L.Line.talk l.fn.line) (g.L.Line.talk l.line) (λ t u. FedSo l.self.listener l.room t u)
    × (g.L.Line.transmissions l.line ≡ g.L.Line.transmissions l.fn.line)
    × Ages (g.L.Line.may_fail l.fn.line) (g.L.Line.may_fail l.line)

abbrev pub decreases-loop-self : goal.decreases-loop-self
decreases-loop-self g l = l.room
