-- Bodies of frames: control sequences, and blocks of normal or transparent text (GA27-3004). That a text holds 512 data bytes at most, and
-- which frame a text is that an ENQ ends, are this project's own.
use Rattle.std.specs.Prelude.{ℕ, ◌≡◌, ◌≢◌, ◌≤◌, ◌==◌, ◌⊎◌, Bool, true, false, if◌then◌else◌, Option, Some, None, List, [], ◌∷◌, ◌++◌, length, Contains}
use Rattle.std.specs.Bool.{OnFalse}
use Rattle.std.specs.List.{flat_map, AllByRecursion}
use Rattle.std.specs.Option.{option_to_list}
use Rattle.bsc_codes.specs.Bytes.{STX, ETX, DLE, ETB, ENQ, SYN, EOT, NAK, control_bytes}
use Rattle.bsc_codes.specs.declared.block.Block.{Block}
use Rattle.bsc_codes.specs.declared.block.Closing.{Closing}
use Rattle.bsc_codes.specs.declared.block.Closing.TheVariants.{Etb, Etx}
use Rattle.bsc_check.specs.Check.{check_of}
use Rattle.bsc_frame.specs.declared.frame.Frame.{Frame}
use Rattle.bsc_frame.specs.declared.frame.Frame.TheVariants as frame
use Rattle.bsc_frame.specs.Bytes.{ACK0, ACK1, WACK, RVI}

-- ---- Text: data bytes, and fill. A text is transparent or normal.

-- a byte that may stand in normal text
abbrev pub IsNormalText : ℕ → Type 0
IsNormalText byte = Contains control_bytes byte → ⊥

-- the bytes of the line for a data byte of transparent or normal text; for fill, where there is none
abbrev pub on_line : Bool → Option ℕ → List ℕ
on_line false None = SYN ∷ []
on_line false (Some byte) = byte ∷ []
on_line true None = DLE ∷ SYN ∷ []
on_line true (Some byte) = if byte == DLE then DLE ∷ DLE ∷ [] else byte ∷ []

-- what begins a text
abbrev pub start_of_text : Bool → List ℕ
start_of_text false = STX ∷ []
start_of_text true = DLE ∷ STX ∷ []

-- what stands in front of the byte that ends a text
abbrev pub dle : Bool → List ℕ
dle false = []
dle true = DLE ∷ []

-- the bytes `line` of the line are a text of these data bytes, 512 at most, with any fill before, among and after them; a data byte of
-- normal text is a normal text byte
pub record IsText (transparent : Bool) (text line : List ℕ) : Type 0 where
  pub items : List (Option ℕ)
  pub line_is : line ≡ flat_map (on_line transparent) items
  pub text_is : text ≡ flat_map option_to_list items
  pub normal : OnFalse transparent (AllByRecursion IsNormalText text)
  pub room : length text ≤ 512

-- the byte that ends a block
abbrev pub closing_byte : Closing → ℕ
closing_byte Etb = ETB
closing_byte Etx = ETX

-- what the check of a block covers: its data bytes, each once, and its closing byte
abbrev pub covered : List ℕ → Closing → List ℕ
covered text closing = text ++ closing_byte closing ∷ []

-- what ends a block: its closing byte, and the check
abbrev pub block_end : Bool → List ℕ → Closing → List ℕ
block_end transparent text closing = dle transparent ++ (closing_byte closing ∷ check_of (covered text closing))

-- ---- Bodies.

-- a text that an ENQ ends
pub record EndedByEnq (transparent : Bool) (text body : List ℕ) : Type 0 where
  pub line : List ℕ
  pub is_text : IsText transparent text line
  pub whole : body ≡ start_of_text transparent ++ (line ++ (dle transparent ++ ENQ ∷ []))

-- a text that a closing byte and the check end
pub record IsBlockBody (block : Block) (body : List ℕ) : Type 0 where
  pub line : List ℕ
  pub is_text : IsText block.transparent block.text.items line
  pub whole : body ≡ start_of_text block.transparent ++ (line ++ block_end block.transparent block.text.items block.closing)

-- these bytes are a body of the frame
abbrev pub Body : Frame → List ℕ → Type 0
Body frame.Enq body = body ≡ ENQ ∷ []
Body frame.Ack0 body = body ≡ DLE ∷ ACK0 ∷ []
Body frame.Ack1 body = body ≡ DLE ∷ ACK1 ∷ []
Body frame.Nak body = body ≡ NAK ∷ []
Body frame.Wack body = body ≡ DLE ∷ WACK ∷ []
Body frame.Rvi body = body ≡ DLE ∷ RVI ∷ []
Body frame.Ttd body = EndedByEnq false [] body
Body frame.Abort body = ((text : List ℕ) × (text ≢ []) × EndedByEnq false text body) ⊎ ((text : List ℕ) × EndedByEnq true text body)
Body frame.Eot body = (body ≡ EOT ∷ []) ⊎ (body ≡ DLE ∷ EOT ∷ [])
Body (frame.Block block) body = IsBlockBody block body
