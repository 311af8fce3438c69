-- How a job is cut into blocks: the one canonical cut (own profile).
use Rattle.std.specs.Prelude.{◌≡◌, ◌≢◌, ◌⊎◌, ℕ, ◌<◌, ◌≤◌, Bool, true, false, List, [], ◌∷◌, ◌++◌, length, take, nat_le, if◌then◌else◌}
use Rattle.std.specs.List.{flat_map, AllByRecursion}
use Rattle.bsc_codes.specs.declared.block.Block.{Block}
use Rattle.bsc_codes.specs.declared.block.Closing.{Closing}
use Rattle.bsc_codes.specs.declared.block.Closing.TheVariants.{Etb, Etx}
use Rattle.rje_text.specs.declared.mode.Mode.{Mode}
use Rattle.rje_text.specs.declared.mode.Mode.TheVariants.{Normal, Transparent}
use Rattle.rje_text.specs.declared.select.Select.{Select}
use Rattle.rje_text.specs.declared.record.Record.{Record}
use Rattle.rje_text.specs.Spelling.{spelling, selection}

abbrev pub is_transparent : Mode → Bool
is_transparent Normal = false
is_transparent Transparent = true

-- a block of this mode
abbrev pub block : Mode → Closing → List ℕ → Block
block mode closing text = record { text = record { items = text }; closing = closing; transparent = is_transparent mode }

-- the text of a run of records, after what stands in front of it
abbrev pub text_of : Mode → List ℕ → List Record → List ℕ
text_of mode front run = front ++ flat_map (spelling mode) run

-- the texts of the runs; the front stands in the first alone
abbrev pub texts_of : Mode → List ℕ → List (List Record) → List (List ℕ)
texts_of mode front [] = []
texts_of mode front (run ∷ runs) = text_of mode front run ∷ texts_of mode [] runs

-- each text but the last would pass 510 bytes with the next record, which begins the next run
abbrev pub AreFilled : Mode → List ℕ → List (List Record) → Type 0
AreFilled mode front [] = Unit {0}
AreFilled mode front (run ∷ []) = Unit {0}
AreFilled mode front (run ∷ next ∷ runs) =
    (510 < length (text_of mode front (run ++ take 1 next))) × AreFilled mode [] (next ∷ runs)

-- the blocks of these texts: ETX ends the last, ETB the others
abbrev pub blocks_of : Mode → List (List ℕ) → List Block
blocks_of mode [] = []
blocks_of mode (text ∷ []) = block mode Etx text ∷ []
blocks_of mode (text ∷ next ∷ texts) = block mode Etb text ∷ blocks_of mode (next ∷ texts)

-- these blocks are the canonical cut of a job
pub record IsCut (select : Select) (mode : Mode) (records : List Record) (blocks : List Block) : Type 0 where
  -- the job's records in runs of whole records
  pub runs : List (List Record)
  pub whole : flat_map (λ run. run) runs ≡ records
  -- a block without a record stands only as the one block of a job without records
  pub lone : (runs ≡ [] ∷ []) ⊎ ((runs ≢ []) × AllByRecursion (λ run. run ≢ []) runs)
  -- every text is at most 510 bytes, and as long as can be
  pub within : AllByRecursion (λ text. length text ≤ 510) (texts_of mode (selection select mode) runs)
  pub filled : AreFilled mode (selection select mode) runs
  -- the blocks carry the texts of the runs, and ETX is on the last alone
  pub same : blocks ≡ blocks_of mode (texts_of mode (selection select mode) runs)

-- the blocks of the records that follow, where text is in hand
abbrev pub cut_behind : Mode → List ℕ → List Record → List Block
cut_behind mode text [] = block mode Etx text ∷ []
cut_behind mode text (r ∷ rs) =
    if nat_le (length (text ++ spelling mode r)) 510
    then cut_behind mode (text ++ spelling mode r) rs
    else block mode Etb text ∷ cut_behind mode (spelling mode r) rs

-- the canonical cut of a job: that it is the one that IsCut describes is the law cut_is_canonical
unfoldable pub cut : Select → Mode → List Record → List Block
cut select mode records = cut_behind mode (selection select mode) records
