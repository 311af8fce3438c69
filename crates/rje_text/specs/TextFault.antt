-- Why a block's text isn't read. A fault is reported where the text stops reading: it reads up to here, and no further.
-- Below, reads says of a text whether it reads: a record's, a block's, or a part of one.
use Rattle.std.specs.Prelude.{◌≡◌, ℕ, ◌+◌, ◌<◌, ◌≤◌, Bool, true, false, List, length, take, IsSome, IsNone, IfSome, is_some, slice_get, slice_index, ◌==◌, if◌then◌else◌, Option}
use Rattle.bsc_codes.specs.Bytes.{IGS}
use Rattle.bsc_codes.specs.declared.block.Block.{Block}
use Rattle.rje_text.specs.declared.mode.Mode.{Mode}
use Rattle.rje_text.specs.declared.text_fault.TextFault.{TextFault}
use Rattle.rje_text.specs.declared.text_fault.TextFault.TheVariants.{OutOfMemory, BadCount, RecordTooLong, CardsNot80, MixedModes}
use Rattle.rje_text.specs.Reading.{is_count, normal_reading, card_reading, reading, HasMode}

-- no count stands at p, or the text ends there
abbrev pub HasNoCount : List ℕ → ℕ → Type 0
HasNoCount text p = IfSome (slice_get text p) (λ c. is_count c ≡ false)

-- the text reads up to an IGS, and right after it, at p, no count stands
pub record LacksCount (reads : List ℕ → Bool) (text : List ℕ) (p : ℕ) : Type 0 where
  pub at : ℕ
  pub behind : p ≡ at + 1
  pub within : at < length text
  pub igs : slice_index text at ≡ IGS
  pub lacks : HasNoCount text p
  pub before : reads (take at text) ≡ true

-- how many bytes of the text stand at p for data: an IGS has its count with it
abbrev pub width_at : List ℕ → ℕ → ℕ
width_at text p = if slice_index text p == IGS then 2 else 1

-- the text reads up to p, and no longer with the byte, or the IGS and its count, that stand there
pub record PassesLimit (reads : List ℕ → Bool) (text : List ℕ) (p : ℕ) : Type 0 where
  pub within : p + width_at text p ≤ length text
  pub counted : slice_index text p ≡ IGS → is_count (slice_index text (p + 1)) ≡ true
  pub before : reads (take p text) ≡ true
  pub passes : reads (take (p + width_at text p) text) ≡ false

-- a normal text reads
abbrev pub reads_normal : Option Mode → List ℕ → Bool
reads_normal so_far text = is_some (normal_reading so_far text)

-- the fault of a block that isn't read; a text that reads is refused for its mode, and else only where memory runs out
abbrev pub IsTextFault : Block → Option Mode → TextFault → Type 0
IsTextFault block so_far (BadCount p) = (block.transparent ≡ false) × LacksCount (reads_normal so_far) block.text.items p
IsTextFault block so_far (RecordTooLong p) = (block.transparent ≡ false) × PassesLimit (reads_normal so_far) block.text.items p
IsTextFault block so_far CardsNot80 = (block.transparent ≡ true) × IsNone (card_reading block.text.items)
IsTextFault block so_far MixedModes = IsSome (reading block so_far) × (HasMode block so_far → ⊥)
IsTextFault block so_far OutOfMemory = IsSome (reading block so_far) × HasMode block so_far
