-- The adapter's form of a transmission (own profile): the adapter makes and takes SYN, pads and the check itself, so what stands on its
-- connection is a body without the check. Which bytes are a body is the line's rule (GA27-3004).
use Rattle.std.specs.Prelude.{ℕ, ◌≡◌, List, [], ◌++◌}
use Rattle.std.specs.List.{AllByRecursion}
use Rattle.bsc_check.specs.Check.{check_of}
use Rattle.bsc_frame.specs.declared.frame.Frame.{Frame}
use Rattle.bsc_frame.specs.declared.frame.Frame.TheVariants as frame
use Rattle.bsc_frame.specs.Body.{Body, covered}
use Rattle.bsc_frame.specs.Heard.{IsPadOrSyn}
use Rattle.bsc_frame.specs.Written.{body_without_fill}

-- the check of a frame: that of a block; no other frame has one
abbrev pub check_bytes : Frame → List ℕ
check_bytes (frame.Block block) = check_of (covered block.text.items block.closing)
check_bytes frame.Enq = []
check_bytes frame.Ack0 = []
check_bytes frame.Ack1 = []
check_bytes frame.Nak = []
check_bytes frame.Wack = []
check_bytes frame.Rvi = []
check_bytes frame.Ttd = []
check_bytes frame.Abort = []
check_bytes frame.Eot = []

-- with the frame's check behind them these bytes are a body of it
abbrev pub IsBodyWithoutCheck : Frame → List ℕ → Type 0
IsBodyWithoutCheck f body = Body f (body ++ check_bytes f)

-- what comes of a frame: pads and SYN, if any, and then a body of it without the check
pub record AdapterForm (f : Frame) (bytes : List ℕ) : Type 0 where
  pub idle : List ℕ
  pub body : List ℕ
  pub are_idle : AllByRecursion IsPadOrSyn idle
  pub is_body : IsBodyWithoutCheck f body
  pub whole : bytes ≡ idle ++ body

-- what is said of a frame: with its check behind them these bytes are the body that is written
abbrev pub IsSaid : Frame → List ℕ → Type 0
IsSaid f bytes = bytes ++ check_bytes f ≡ body_without_fill f
