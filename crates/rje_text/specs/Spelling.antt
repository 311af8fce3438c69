-- How a record is written in a text (3780 text; how blanks are counted and what an ESC begins is own profile).
use Rattle.std.specs.Prelude.{ℕ, zero, suc, ◌+◌, ◌/◌, ◌%◌, List, [], ◌∷◌, ◌++◌, Option, Some, None, ◌==◌, if◌then◌else◌}
use Rattle.std.specs.List.{flat_map}
use Rattle.bsc_codes.specs.Bytes.{BLANK, IGS, IRS, ESC, DC1, DC2}
use Rattle.rje_text.specs.declared.mode.Mode.{Mode}
use Rattle.rje_text.specs.declared.mode.Mode.TheVariants.{Normal, Transparent}
use Rattle.rje_text.specs.declared.select.Select.{Select}
use Rattle.rje_text.specs.declared.select.Select.TheVariants.{Unset, Printer, Punch}
use Rattle.rje_text.specs.declared.record.Record.{Record}
use Rattle.rje_text.specs.Action.{code_of}

-- what stands in front of a record's data for its action: ESC and the action's code
abbrev pub action_escape : Option ℕ → List ℕ
action_escape None = []
action_escape (Some code) = ESC ∷ code ∷ []

-- a longest run of blanks, or one byte that is no blank
pub data Run : Type 0 where
  Blanks : ℕ → Run
  Byte : ℕ → Run

-- one blank in front of the runs
abbrev pub with_blank : List Run → List Run
with_blank [] = Blanks 1 ∷ []
with_blank (Blanks m ∷ runs) = Blanks (m + 1) ∷ runs
with_blank (Byte b ∷ runs) = Blanks 1 ∷ Byte b ∷ runs

-- the data as its longest runs of blanks and the bytes between them
abbrev pub runs_of : List ℕ → List Run
runs_of [] = []
runs_of (x ∷ xs) = if x == BLANK then with_blank (runs_of xs) else Byte x ∷ runs_of xs

-- `n` full counts, each for 63 blanks
abbrev pub full_counts : ℕ → List ℕ
full_counts zero = []
full_counts (suc n) = IGS ∷ 0x7F ∷ full_counts n

-- fewer than 63 blanks
abbrev pub rest_of_blanks : ℕ → List ℕ
rest_of_blanks r = if r == 0 then [] else if r == 1 then BLANK ∷ [] else IGS ∷ (BLANK + r) ∷ []

-- how a run is written
abbrev pub written_run : Run → List ℕ
written_run (Blanks m) = full_counts (m / 63) ++ rest_of_blanks (m % 63)
written_run (Byte b) = b ∷ []

-- the data with its runs of blanks replaced by counts
unfoldable pub compressed : List ℕ → List ℕ
compressed bytes = flat_map written_run (runs_of bytes)

-- how a record stands in a text of this mode; a card stands there as it is
abbrev pub spelling : Mode → Record → List ℕ
spelling Normal r = action_escape (code_of r.action) ++ (compressed r.bytes.items ++ IRS ∷ [])
spelling Transparent r = r.bytes.items

-- what stands in front of a job's first text: DC1 for the printer, DC2 for the punch
abbrev pub selection : Select → Mode → List ℕ
selection Unset Normal = []
selection Printer Normal = DC1 ∷ []
selection Punch Normal = DC2 ∷ []
selection select Transparent = []
