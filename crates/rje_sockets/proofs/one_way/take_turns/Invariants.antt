use Rattle.std.proofs.Common.{◌≡◌, List, length, map}
use Rattle.line_world.specs.AnyLines.{Turns, unhindered}
use Rattle.line_world.specs.declared.spoken.Spoken.{Spoken}
use Rattle.rje_sockets.specs.OverLine.{BothTurn}
use Rattle.rje_sockets.proofs.one_way.take_turns.Given as goal

abbrev pub invariant-loop : goal.invariant-loop
invariant-loop g l =
    (turns : List Spoken) × Turns (λ _. BothTurn g.W.Observer.saw_both) (l.initial.sender, l.initial.receiver, l.initial.watch) turns (l.sender, l.receiver, l.watch)
    × (length (map unhindered turns) ≡ l.counter)
