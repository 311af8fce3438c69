-- Transmissions: a synchronization pattern, and then a body (GA27-3004). Which bytes are pads, and two or more SYN, are this project's own.
use Rattle.std.specs.Prelude.{ℕ, ◌≡◌, ◌⊎◌, List, ◌∷◌, ◌++◌, replicate}
use Rattle.std.specs.List.{AllByRecursion}
use Rattle.bsc_codes.specs.Bytes.{SYN, PAD}
use Rattle.bsc_frame.specs.declared.frame.Frame.{Frame}
use Rattle.bsc_frame.specs.Bytes.{LEADING_PAD}
use Rattle.bsc_frame.specs.Body.{Body}

-- a byte that may stand in front of the first SYN
abbrev pub IsPad : ℕ → Type 0
IsPad byte = (byte ≡ PAD) ⊎ (byte ≡ LEADING_PAD)

-- any pads, and then two or more SYN
pub record SyncPattern (bytes : List ℕ) : Type 0 where
  pub pads : List ℕ
  pub are_pads : AllByRecursion IsPad pads
  pub more : ℕ
  pub whole : bytes ≡ pads ++ (SYN ∷ SYN ∷ replicate more SYN)

-- these bytes are a synchronization pattern, and then a body of the frame
pub record Transmission (f : Frame) (bytes : List ℕ) : Type 0 where
  pub sync : List ℕ
  pub body : List ℕ
  pub is_sync : SyncPattern sync
  pub is_body : Body f body
  pub whole : bytes ≡ sync ++ body

-- some prefix of the bytes has the property
pub record HasPrefix (P : List ℕ → Type 0) (bytes : List ℕ) : Type 0 where
  pub front : List ℕ
  pub rest : List ℕ
  pub holds : P front
  pub whole : bytes ≡ front ++ rest

-- no prefix of the bytes is a transmission
abbrev pub HasNoFrame : List ℕ → Type 0
HasNoFrame bytes = (f : Frame) → HasPrefix (Transmission f) bytes → ⊥
