use Rattle.std.proofs.Common.{◌≡◌, ℕ, ◌-◌, ◌≤◌, List, length, drop, take}
use Rattle.rje_text.proofs.Expanding.{Stands}
use Rattle.rje_text.proofs.record_text.check_record.Given as goal

abbrev pub invariant-loop-i : goal.invariant-loop-i
invariant-loop-i l = record {
  behind : l.head ≤ l.i;
  within : l.i ≤ length l.text;
  room : l.length ≤ 144;
  stands : (ys : List ℕ) × (length ys ≡ l.length) × Stands (drop l.head (take l.i l.text)) ys;
}

abbrev pub decreases-loop-i : goal.decreases-loop-i
decreases-loop-i l = length l.text - l.i
