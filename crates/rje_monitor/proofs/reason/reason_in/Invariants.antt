use Rattle.std.proofs.Common.{ℕ, List, [], length}
use Rattle.bsc_frame.specs.Inside.Listening.HeardSoFar.{Text}
use Rattle.rje_monitor.specs.Inside.Items.{IsAt}
use Rattle.rje_monitor.proofs.reason.reason_in.Given as goal

abbrev pub invariant-loop-item : goal.invariant-loop-item
invariant-loop-item l = (bytes : List ℕ) → IsAt bytes (Text l.transparent []) l.line → IsAt bytes (Text l.transparent l.text.items) l.rest

abbrev pub decreases-loop-item : goal.decreases-loop-item
decreases-loop-item l = length l.rest
