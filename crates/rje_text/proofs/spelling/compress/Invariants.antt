use Rattle.std.proofs.Common.{◌≡◌, ◌+◌, ◌-◌, ◌≤◌, ◌++◌, length, drop}
use Rattle.arrayvec.specs.ArrayVec.{array_vec_len}
use Rattle.rje_text.proofs.Blanks.{behind}
use Rattle.rje_text.proofs.spelling.compress.Given as goal

abbrev pub invariant-loop-i : goal.invariant-loop-i
invariant-loop-i l = record {
  within : l.i ≤ length l.bytes;
  text : l.out.items ++ behind 0 (drop l.i l.bytes) ≡ l.initial.out.items ++ behind 0 l.bytes;
  room : array_vec_len l.out ≤ array_vec_len l.initial.out + l.i;
}

abbrev pub decreases-loop-i : goal.decreases-loop-i
decreases-loop-i l = length l.bytes - l.i
