-- The pieces so far and the bytes that aren't cut yet are the bytes, and the cuts that are left lie in these.
use Rattle.std.proofs.Common.{◌≡◌, ◌≤◌, ◌++◌, length, map, drop}
use Rattle.std.specs.List.{flat_map}
use Rattle.line_world.specs.Damage.{AreCuts}
use Rattle.line_world.proofs.carrying.cut_apart.Given as goal

abbrev pub invariant-loop-cut : goal.invariant-loop-cut
invariant-loop-cut l = record {
  within : l.place ≤ length l.bytes;
  ahead : AreCuts l.place (length l.bytes) (drop l.cut-index l.cuts);
  come : flat_map (λ p. p) (map (λ p. p.items) l.pieces.items) ++ drop l.place l.bytes ≡ drop l.fn.from l.bytes;
}
