use Rattle.std.proofs.Common.{◌≡◌, ◌+◌, ◌*◌, ◌++◌}
use Rattle.arrayvec.specs.ArrayVec.{array_vec_len}
use Rattle.rje_text.specs.Spelling.{full_counts}
use Rattle.rje_text.proofs.spelling.push_blanks.Given as goal

abbrev pub invariant-loop-i : goal.invariant-loop-i
invariant-loop-i l = record {
  text : l.out.items ≡ l.initial.out.items ++ full_counts l._i;
  len : array_vec_len l.out ≡ array_vec_len l.initial.out + 2 * l._i;
}
