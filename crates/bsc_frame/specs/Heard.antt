-- What is heard of all bytes between two turnarounds of the line.
use Rattle.std.specs.Prelude.{ℕ, ◌≡◌, ◌⊎◌, Bool, List, ◌++◌}
use Rattle.std.specs.List.{AllByRecursion}
use Rattle.bsc_codes.specs.Bytes.{SYN}
use Rattle.bsc_frame.specs.declared.heard.Heard.{Heard}
use Rattle.bsc_frame.specs.declared.heard.Heard.TheVariants as heard
use Rattle.bsc_frame.specs.Body.{start_of_text}
use Rattle.bsc_frame.specs.Transmission.{IsPad, SyncPattern, Transmission, HasPrefix, HasNoFrame}

-- a synchronization pattern, and then the start of a text
pub record IsTextStart (bytes : List ℕ) : Type 0 where
  pub sync : List ℕ
  pub transparent : Bool
  pub is_sync : SyncPattern sync
  pub whole : bytes ≡ sync ++ start_of_text transparent

-- a byte that says nothing
abbrev pub IsPadOrSyn : ℕ → Type 0
IsPadOrSyn byte = IsPad byte ⊎ (byte ≡ SYN)

-- a frame, where a prefix is its transmission; else Bad, where a text was started; else Quiet, where all bytes say nothing; else Noise
abbrev pub IsHeard : List ℕ → Heard → Type 0
IsHeard bytes (heard.Frame f) = HasPrefix (Transmission f) bytes
IsHeard bytes heard.Bad = HasNoFrame bytes × HasPrefix IsTextStart bytes
IsHeard bytes heard.Quiet = HasNoFrame bytes × (HasPrefix IsTextStart bytes → ⊥) × AllByRecursion IsPadOrSyn bytes
IsHeard bytes heard.Noise = HasNoFrame bytes × (HasPrefix IsTextStart bytes → ⊥) × (AllByRecursion IsPadOrSyn bytes → ⊥)
