-- What is heard of all bytes that came from an adapter between two turnarounds of the line. The rule is that of `bsc_frame`, with an adapter's
-- form in place of a transmission.
use Rattle.std.specs.Prelude.{ℕ, ◌≡◌, Bool, List, ◌++◌}
use Rattle.std.specs.List.{AllByRecursion}
use Rattle.bsc_frame.specs.declared.frame.Frame.{Frame}
use Rattle.bsc_frame.specs.declared.heard.Heard.{Heard}
use Rattle.bsc_frame.specs.declared.heard.Heard.TheVariants as heard
use Rattle.bsc_frame.specs.Body.{start_of_text}
use Rattle.bsc_frame.specs.Transmission.{HasPrefix}
use Rattle.bsc_frame.specs.Heard.{IsPadOrSyn}
use Rattle.bsc_adapter.specs.Form.{AdapterForm}

-- no prefix of the bytes is an adapter's form
abbrev pub HasNoForm : List ℕ → Type 0
HasNoForm bytes = (f : Frame) → HasPrefix (AdapterForm f) bytes → ⊥

-- pads and SYN, if any, and then the start of a text
pub record IsTextStart (bytes : List ℕ) : Type 0 where
  pub idle : List ℕ
  pub transparent : Bool
  pub are_idle : AllByRecursion IsPadOrSyn idle
  pub whole : bytes ≡ idle ++ start_of_text transparent

-- a frame, where a prefix is its adapter's form; else Bad, where a text was started; else Quiet, where all bytes say nothing; else Noise
abbrev pub IsHeardFrom : List ℕ → Heard → Type 0
IsHeardFrom bytes (heard.Frame f) = HasPrefix (AdapterForm f) bytes
IsHeardFrom bytes heard.Bad = HasNoForm bytes × HasPrefix IsTextStart bytes
IsHeardFrom bytes heard.Quiet = HasNoForm bytes × (HasPrefix IsTextStart bytes → ⊥) × AllByRecursion IsPadOrSyn bytes
IsHeardFrom bytes heard.Noise = HasNoForm bytes × (HasPrefix IsTextStart bytes → ⊥) × (AllByRecursion IsPadOrSyn bytes → ⊥)
