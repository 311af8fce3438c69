use Rattle.std.proofs.Common.{take}
use Rattle.std.specs.List.{flat_map}
use Rattle.std.specs.Io.KnownBytes.{Appends}
use Rattle.rje_commands.proofs.commands.output.put_lines.Given as goal

abbrev pub invariant-loop-line : goal.invariant-loop-line
invariant-loop-line g l =
    Appends (g.O.Write.contents l.fn.out) (g.O.Write.contents l.out) (flat_map (λ line. line.items) (take l.line-index l.lines))
