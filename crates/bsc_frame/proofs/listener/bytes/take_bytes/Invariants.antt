use Rattle.std.proofs.Common.{◌≡◌, ◌-◌, ◌≤◌, length, drop}
use Rattle.bsc_frame.specs.Inside.Listening.Run.{run}
use Rattle.bsc_frame.specs.Inside.Listening.Stage.{so_far_of, CheckRuns}
use Rattle.bsc_frame.proofs.listener.bytes.take_bytes.Given as goal

-- what is left of the piece does what the whole piece does, and the check runs
abbrev pub invariant-loop-used : goal.invariant-loop-used
invariant-loop-used l =
    record {
      within : l.used ≤ length l.piece;
      goes_on : run (so_far_of l.now l.text.items) (drop l.used l.piece) ≡ run (so_far_of l.fn.stage l.fn.text.items) l.piece;
      runs : CheckRuns l.now l.text.items l.sum;
    }

abbrev pub decreases-loop-used : goal.decreases-loop-used
decreases-loop-used l = length l.piece - l.used
