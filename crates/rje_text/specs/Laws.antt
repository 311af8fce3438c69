-- What holds of spelling, cutting and reading.
use Rattle.std.specs.Prelude.{◌≡◌, ◌↔◌, ℕ, ◌≤◌, List, [], ◌∷◌, ◌++◌, length, Option, Some, None}
use Rattle.std.specs.List.{flat_map, AllByRecursion}
use Rattle.bsc_codes.specs.declared.block.Block.{Block}
use Rattle.rje_text.specs.declared.mode.Mode.{Mode}
use Rattle.rje_text.specs.declared.select.Select.{Select}
use Rattle.rje_text.specs.declared.action.Action.{Action}
use Rattle.rje_text.specs.declared.record.Record.{Record}
use Rattle.rje_text.specs.declared.unpacked.Unpacked.{Unpacked}
use Rattle.rje_text.specs.declared.text_fault.TextFault.{TextFault}
use Rattle.rje_text.specs.Action.{code_of, action_of}
use Rattle.rje_text.specs.Spelling.{spelling}
use Rattle.rje_text.specs.Reading.{IsRead}
use Rattle.rje_text.specs.TextFault.{IsTextFault}
use Rattle.rje_text.specs.PackFault.{RecordsFit}
use Rattle.rje_text.specs.Cut.{IsCut, cut}
use Rattle.rje_text.specs.Packing.{new_packing, packed}
use Rattle.rje_text.specs.NextBlock.{IsNextBlock, AreBlocksBefore, AreBlocksTo}

-- an action's code stands for that action and for no other
abbrev pub ActionCodesAreInverse : Type 0
ActionCodesAreInverse = (a : Action) (code : ℕ) → (code_of a ≡ Some code) ↔ (action_of code ≡ Some a)

-- no spelling is longer than 147 bytes: an action's two, 144 data bytes and the IRS
abbrev pub SpellingIsShort : Type 0
SpellingIsShort = (mode : Mode) (r : Record) → length r.bytes.items ≤ 144 → length (spelling mode r) ≤ 147

-- these are read from the blocks of one job, in order, each in the mode of the one before it
abbrev pub AreRead : Option Mode → List Block → List Unpacked → Type 0
AreRead so_far [] [] = Unit {0}
AreRead so_far [] (u ∷ us) = ⊥
AreRead so_far (b ∷ bs) [] = ⊥
AreRead so_far (b ∷ bs) (u ∷ us) = IsRead b so_far u × AreRead (Some u.mode) bs us

-- the selection of what was read first
abbrev pub first_select : List Unpacked → Option Select
first_select [] = None
first_select (u ∷ us) = Some u.select

-- what was read of a job's blocks is the job
pub record IsJobRead (select : Select) (mode : Mode) (records : List Record) (us : List Unpacked) : Type 0 where
  pub selected : first_select us ≡ Some select
  pub moded : AllByRecursion (λ u. u.mode ≡ mode) us
  pub all : flat_map (λ u. u.records) us ≡ records

-- the blocks of a job's canonical cut are all read, and give the job's selection, mode and records
abbrev pub CutReadsBack : Type 0
CutReadsBack =
    (select : Select) (mode : Mode) (records : List Record) → RecordsFit select mode records
    → (us : List Unpacked) × AreRead None (cut select mode records) us × IsJobRead select mode records us

-- a job that can be sent has a canonical cut
abbrev pub CutIsCut : Type 0
CutIsCut = (select : Select) (mode : Mode) (records : List Record) → RecordsFit select mode records → IsCut select mode records (cut select mode records)

-- and no other
abbrev pub CutIsTheOnlyOne : Type 0
CutIsTheOnlyOne = (select : Select) (mode : Mode) (records : List Record) (blocks : List Block) → IsCut select mode records blocks → blocks ≡ cut select mode records

-- at most one fault is reported for a block
abbrev pub OneFault : Type 0
OneFault = (b : Block) (so_far : Option Mode) (f g : TextFault) → IsTextFault b so_far f → IsTextFault b so_far g → f ≡ g

-- a new packer that is pushed a job's records gives the blocks of its canonical cut
abbrev pub PackingIsTheCut : Type 0
PackingIsTheCut = (select : Select) (mode : Mode) (records : List Record) → packed (new_packing select mode) records ≡ cut select mode records

-- no blocks are before the first record, and the block that begins after whole blocks is the cut's next one
abbrev pub BlocksAreOfTheCut : Type 0
BlocksAreOfTheCut = (select : Select) (mode : Mode) (records : List Record) → AreBlocksBefore select mode records 0 []
    × ((from to : ℕ) (before : List Block) (block : Block) → AreBlocksBefore select mode records from before
    → IsNextBlock select mode records from block to → AreBlocksTo select mode records block.closing to (before ++ block ∷ []))
