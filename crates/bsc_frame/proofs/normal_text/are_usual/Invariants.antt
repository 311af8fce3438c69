use Rattle.std.proofs.Common.{◌<◌, ℕ, IsTrue, get_or}
use Rattle.bsc_frame.specs.Body.{IsNormalText}
use Rattle.bsc_frame.proofs.normal_text.are_usual.Given as goal

-- while each byte in front was usual, each is a normal text byte
abbrev pub invariant-loop-byte : goal.invariant-loop-byte
invariant-loop-byte l = IsTrue l.all → (k : ℕ) → k < l.byte-index → IsNormalText (get_or l.piece k 0)
