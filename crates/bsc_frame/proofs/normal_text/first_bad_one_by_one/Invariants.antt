use Rattle.std.proofs.Common.{◌<◌, ℕ, get_or}
use Rattle.bsc_frame.specs.Body.{IsNormalText}
use Rattle.bsc_frame.proofs.normal_text.first_bad_one_by_one.Given as goal

-- every byte in front of this one is a normal text byte
abbrev pub invariant-loop-i : goal.invariant-loop-i
invariant-loop-i l = (k : ℕ) → k < l.i → IsNormalText (get_or l.text k 0)
