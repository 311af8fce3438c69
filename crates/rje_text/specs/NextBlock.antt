-- The blocks of a job from a record on (own profile).
use Rattle.std.specs.Prelude.{◌≡◌, ◌⊎◌, ℕ, zero, suc, ◌<◌, ◌≤◌, List, [], ◌∷◌, ◌++◌, length, drop, Contains}
use Rattle.std.specs.Bool.{OnFalse}
use Rattle.std.specs.List.{AllByRecursion}
use Rattle.bsc_codes.specs.Bytes.{control_bytes}
use Rattle.bsc_codes.specs.declared.block.Block.{Block}
use Rattle.bsc_codes.specs.declared.block.Closing.{Closing}
use Rattle.bsc_codes.specs.declared.block.Closing.TheVariants.{Etb, Etx}
use Rattle.rje_text.specs.declared.mode.Mode.{Mode}
use Rattle.rje_text.specs.declared.select.Select.{Select}
use Rattle.rje_text.specs.declared.record.Record.{Record}
use Rattle.rje_text.specs.Spelling.{selection}
use Rattle.rje_text.specs.Cut.{cut_behind, cut}

-- what stands in front of the text that begins at a record: the job's first has the selection
abbrev pub front_at : Select → Mode → ℕ → List ℕ
front_at select mode zero = selection select mode
front_at select mode (suc from) = []

-- the blocks of the records from a place on, where a block begins; from 0 on they are the cut
abbrev pub cut_from : Select → Mode → List Record → ℕ → List Block
cut_from select mode records from = cut_behind mode (front_at select mode from) (drop from records)

-- the blocks after one that ends the job, or after one that doesn't and is followed by this record
abbrev pub blocks_after : Select → Mode → List Record → Closing → ℕ → List Block
blocks_after select mode records Etx to = []
blocks_after select mode records Etb to = cut_from select mode records to

-- the place after a block's last record: the job's end where ETX closes the block, and before it otherwise
abbrev pub IsEnd : Closing → ℕ → ℕ → Type 0
IsEnd Etx to n = to ≡ n
IsEnd Etb to n = to < n

-- the first block of the cut from a record on, and the place after its last record
pub record IsNextBlock (select : Select) (mode : Mode) (records : List Record) (from : ℕ) (block : Block) (to : ℕ) : Type 0 where
  pub first : cut_from select mode records from ≡ block ∷ blocks_after select mode records block.closing to
  pub end : IsEnd block.closing to (length records)
  pub forward : (from < to) ⊎ (length records ≡ 0)

-- a block whose frame can be written: a normal text has no control byte, and no text is longer than 510 bytes
pub record IsSendable (block : Block) : Type 0 where
  pub normal : OnFalse block.transparent (AllByRecursion (λ byte. Contains control_bytes byte → ⊥) block.text.items)
  pub room : length block.text.items ≤ 510

-- the records before this place are these blocks of the cut
abbrev pub AreBlocksBefore : Select → Mode → List Record → ℕ → List Block → Type 0
AreBlocksBefore select mode records from before = cut select mode records ≡ before ++ cut_from select mode records from

-- these are all blocks of the cut where ETX closes the last of them, and else those before this record
abbrev pub AreBlocksTo : Select → Mode → List Record → Closing → ℕ → List Block → Type 0
AreBlocksTo select mode records Etx to blocks = cut select mode records ≡ blocks
AreBlocksTo select mode records Etb to blocks = AreBlocksBefore select mode records to blocks
