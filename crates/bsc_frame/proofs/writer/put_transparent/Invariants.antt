use Rattle.std.proofs.Common.{◌≡◌, ◌≤◌, ◌+◌, ◌-◌, ◌*◌, ◌++◌, true, length, drop}
use Rattle.bsc_frame.specs.Written.{text_without_fill}
use Rattle.bsc_frame.proofs.writer.put_transparent.Given as goal

-- what is written and what is left are the whole text
abbrev pub invariant-loop-place : goal.invariant-loop-place
invariant-loop-place l =
    record {
      within : l.place ≤ length l.text;
      written : l.out.items ++ text_without_fill true (drop l.place l.text) ≡ l.fn.out.items ++ text_without_fill true l.text;
      room : length l.out.items ≤ length l.fn.out.items + 2 * l.place;
    }

abbrev pub decreases-loop-place : goal.decreases-loop-place
decreases-loop-place l = length l.text - l.place
