use Rattle.std.proofs.Common.{◌≡◌, ◌*◌, length, take}
use Rattle.rje_print.specs.BlockLines.{hex}
use Rattle.rje_print.proofs.block_lines.push_digits.Given as goal

abbrev pub invariant-loop-place : goal.invariant-loop-place
invariant-loop-place l = record {
  size : length l.digits ≡ 1024;
  hex : take (2 * l.place) l.digits ≡ hex (take l.place l.bytes);
}
