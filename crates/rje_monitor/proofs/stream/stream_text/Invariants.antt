use Rattle.std.proofs.Common.{◌≡◌, List, ℕ, ◌+◌, ◌++◌, length}
use Rattle.bsc_frame.specs.declared.heard.Heard.{Heard}
use Rattle.rje_monitor.specs.Stream.{IsTextFrom, IsStreamText}
use Rattle.rje_monitor.proofs.stream.stream_text.Given as goal

abbrev pub invariant-loop-rest : goal.invariant-loop-rest
invariant-loop-rest l = record {
  on : (more : List Heard) (lines : List ℕ) → IsTextFrom l.place l.so_far more l.rest lines → IsStreamText l.capture (l.text.items ++ lines);
  room : l.place + length l.rest ≡ length l.capture;
}

abbrev pub decreases-loop-rest : goal.decreases-loop-rest
decreases-loop-rest l = length l.rest
