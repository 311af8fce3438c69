use Rattle.std.proofs.Common.{ℕ, ◌+◌, List, ◌++◌, length}
use Rattle.line_world.specs.declared.turn.Turn.{Turn}
use Rattle.rje_print.specs.Script.{IsScript, IsBadBehind}
use Rattle.rje_print.proofs.script.read_script.Given as goal

abbrev pub invariant-loop-line : goal.invariant-loop-line
invariant-loop-line l = record {
  read : (more : List Turn) → IsScript more l.rest → IsScript (l.turns.items ++ more) l.script;
  bad : (before : ℕ) → IsBadBehind before l.rest → IsBadBehind (length l.turns.items + before) l.script;
}

abbrev pub decreases-loop-line : goal.decreases-loop-line
decreases-loop-line l = length l.rest
