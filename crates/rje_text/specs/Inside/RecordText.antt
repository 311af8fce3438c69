-- A text taken apart: what private functions say of a record's text and of a text after its selection. No public clause cites it.
use Rattle.std.specs.Prelude.{◌≡◌, ℕ, ◌+◌, ◌≤◌, Bool, List, length, take, drop, Option, option_map, option_and_then, Some, is_some, IsSome, IsNone}
use Rattle.rje_text.specs.declared.mode.Mode.TheVariants.{Normal, Transparent}
use Rattle.rje_text.specs.declared.mode.Mode.{Mode}
use Rattle.rje_text.specs.declared.select.Select.{Select}
use Rattle.rje_text.specs.declared.action.Action.{Action}
use Rattle.rje_text.specs.declared.record.Record.{Record}
use Rattle.rje_text.specs.declared.unpacked.Unpacked.{Unpacked}
use Rattle.rje_text.specs.declared.text_fault.TextFault.{TextFault}
use Rattle.rje_text.specs.declared.text_fault.TextFault.TheVariants.{OutOfMemory, BadCount, RecordTooLong, CardsNot80, MixedModes}
use Rattle.rje_text.specs.Reading.{expanded, record_with, record_of, records_in, normal_reading, Agrees, card_reading}
use Rattle.rje_text.specs.TextFault.{LacksCount, PassesLimit, reads_normal}

-- the first n bytes of a record's text give its action: none of them, or an ESC and a code
pub record HasHead (text : List ℕ) (n : ℕ) (action : Action) : Type 0 where
  pub within : n ≤ length text
  pub reads : (k : ℕ) → n ≤ k → record_of (take k text) ≡ option_and_then (record_with action) (expanded (drop n (take k text)))

-- what a normal text with this selection stands for
abbrev pub unpacked : Select → List Record → Unpacked
unpacked select rs = record { select = select; mode = Normal; records = rs }

-- the first n bytes of a normal text make its selection: none of them, or one
pub record HasFront (so_far : Option Mode) (text : List ℕ) (n : ℕ) (select : Select) : Type 0 where
  pub within : n ≤ length text
  pub reads : (k : ℕ) → n ≤ k → normal_reading so_far (take k text) ≡ option_map (unpacked select) (records_in (drop n (take k text)))

-- the text is that of `count` records
abbrev pub HasRecords : ℕ → List ℕ → Type 0
HasRecords count text = (records : List Record) × (records_in text ≡ Some records) × (length records ≡ count)

-- a normal text that reads in its job's mode: the selection that it makes, and the text of its `count` records
pub record HasParts (so_far : Option Mode) (text : List ℕ) (select : Select) (rest : List ℕ) (count : ℕ) : Type 0 where
  pub reading : normal_reading so_far text ≡ option_map (unpacked select) (records_in rest)
  pub records : HasRecords count rest
  pub agrees : Agrees Normal so_far

abbrev pub reads_record : List ℕ → Bool
reads_record text = is_some (record_of text)

abbrev pub reads_records : List ℕ → Bool
reads_records text = is_some (records_in text)

-- the fault of a part that stands at start in its block's text
abbrev pub IsFaultFrom : (List ℕ → Bool) → ℕ → List ℕ → TextFault → Type 0
IsFaultFrom reads start text OutOfMemory = ⊥
IsFaultFrom reads start text (BadCount p) = (q : ℕ) × (p ≡ start + q) × LacksCount reads text q
IsFaultFrom reads start text (RecordTooLong p) = (q : ℕ) × (p ≡ start + q) × PassesLimit reads text q
IsFaultFrom reads start text CardsNot80 = ⊥
IsFaultFrom reads start text MixedModes = ⊥

-- the fault of a normal text
abbrev pub IsNormalFault : Option Mode → List ℕ → TextFault → Type 0
IsNormalFault so_far text (BadCount p) = LacksCount (reads_normal so_far) text p
IsNormalFault so_far text (RecordTooLong p) = PassesLimit (reads_normal so_far) text p
IsNormalFault so_far text CardsNot80 = ⊥
IsNormalFault so_far text MixedModes = IsSome (normal_reading so_far text) × (Agrees Normal so_far → ⊥)
IsNormalFault so_far text OutOfMemory = IsSome (normal_reading so_far text) × Agrees Normal so_far

-- the fault of a transparent text
abbrev pub IsCardFault : Option Mode → List ℕ → TextFault → Type 0
IsCardFault so_far text (BadCount p) = ⊥
IsCardFault so_far text (RecordTooLong p) = ⊥
IsCardFault so_far text CardsNot80 = IsNone (card_reading text)
IsCardFault so_far text MixedModes = IsSome (card_reading text) × (Agrees Transparent so_far → ⊥)
IsCardFault so_far text OutOfMemory = IsSome (card_reading text) × Agrees Transparent so_far
