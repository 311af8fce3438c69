-- Why a text that was started is no transmission (what a text is by GA27-3004, the reasons own profile).
use Rattle.std.specs.Prelude.{◌≡◌, ℕ, Bool, List, [], ◌∷◌, ◌++◌, length, Some, codes}
use Rattle.std.specs.Bool.{OnFalse}
use Rattle.bsc_codes.specs.declared.block.Block.{Block}
use Rattle.bsc_frame.specs.declared.frame.Frame.{Frame}
use Rattle.bsc_frame.specs.declared.heard.Heard.{Heard}
use Rattle.bsc_frame.specs.Body.{IsNormalText, IsText, on_line, start_of_text}
use Rattle.bsc_frame.specs.Heard.{IsHeard}
use Rattle.bsc_frame.specs.Transmission.{SyncPattern, Transmission}
use Rattle.rje_monitor.specs.declared.reason.Reason.{Reason}

-- some bytes more would make it a transmission
abbrev pub IsCut : List ℕ → Type 0
IsCut bytes = (f : Frame) × (more : List ℕ) × Transmission f (bytes ++ more)

-- with two other bytes, x and y, for its check a prefix would be a transmission of a block
pub record HasWrongCheck (bytes : List ℕ) : Type 0 where
  pub block : Block
  pub front : List ℕ
  pub first : ℕ
  pub second : ℕ
  pub rest : List ℕ
  pub x : ℕ
  pub y : ℕ
  pub whole : bytes ≡ front ++ (first ∷ second ∷ rest)
  pub would_be : Transmission (Frame.Block block) (front ++ (x ∷ y ∷ []))

-- it would be a text but for holding more than 512 data bytes: after a text of 512 stands one more
pub record IsTooLong (bytes : List ℕ) : Type 0 where
  pub transparent : Bool
  pub sync : List ℕ
  pub text : List ℕ
  pub line : List ℕ
  pub byte : ℕ
  pub rest : List ℕ
  pub is_sync : SyncPattern sync
  pub is_text : IsText transparent text line
  pub full : length text ≡ 512
  pub is_data : OnFalse transparent (IsNormalText byte)
  pub whole : bytes ≡ sync ++ (start_of_text transparent ++ (line ++ (on_line transparent (Some byte) ++ rest)))

-- why the bytes are no transmission, though a text was started in them
abbrev pub IsReason : List ℕ → Reason → Type 0
IsReason bytes Reason.Cut = IsCut bytes
IsReason bytes Reason.Check = HasWrongCheck bytes
IsReason bytes Reason.TooLong = IsTooLong bytes
IsReason bytes Reason.Spoiled = ¬ (IsCut bytes) × ¬ (HasWrongCheck bytes) × ¬ (IsTooLong bytes)

-- how a reason is shown
abbrev pub reason_name : Reason → List ℕ
reason_name Reason.Cut = codes "cut"
reason_name Reason.Check = codes "check"
reason_name Reason.TooLong = codes "too long"
reason_name Reason.Spoiled = codes "spoiled"

-- for bytes that are heard as bad at most one reason holds
abbrev pub OneReason : Type 0
OneReason = (bytes : List ℕ) (r s : Reason) → IsHeard bytes Heard.Bad → IsReason bytes r → IsReason bytes s → r ≡ s
