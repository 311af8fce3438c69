-- What the program prints of jobs: the lines of `show`, `check`, `cards`, `take` and `mark`, and the paper of `print` (own profile).
use Rattle.std.specs.Prelude.{◌≡◌, ℕ, ◌+◌, ◌-◌, ◌==◌, ◌&&◌, Bool, true, false, if◌then◌else◌, List, [], ◌∷◌, ◌++◌, length, replicate, codes, decimal}
use Rattle.std.specs.List.{before_first, AllByRecursion}
use Rattle.rje_text.specs.declared.mode.Mode.{Mode}
use Rattle.rje_text.specs.declared.record.Record.{Record}
use Rattle.rje_text.specs.declared.select.Select.{Select}
use Rattle.rje_jobs.specs.declared.job.Job.{Job}
use Rattle.rje_jobs.specs.declared.punch.Form.{Form}
use Rattle.rje_jobs.specs.declared.punch.Form.TheVariants.{Ascii}
use Rattle.rje_jobs.specs.Fitting.{JobFits}
use Rattle.rje_jobs.specs.Listing.{listing}
use Rattle.rje_jobs.specs.Punch.{card, punched}
use Rattle.rje_files.specs.declared.entry.Entry.{Entry}
use Rattle.rje_files.specs.declared.entry.State.{State}
use Rattle.rje_requests.specs.declared.choice.Choice.{Choice}
use Rattle.rje_requests.specs.Choice.{takes}

-- how a selection is printed
abbrev pub select_name : Select → List ℕ
select_name Select.Unset = codes "unset"
select_name Select.Printer = codes "printer"
select_name Select.Punch = codes "punch"

-- how a mode is printed
abbrev pub mode_name : Mode → List ℕ
mode_name Mode.Normal = codes "normal"
mode_name Mode.Transparent = codes "transparent"

-- how a state is printed
abbrev pub state_name : State → List ℕ
state_name State.Waiting = codes "waiting"
state_name State.Sent = codes "sent"
state_name State.Whole = codes "whole"
state_name State.Cut = codes "cut"

-- a name without its blanks
abbrev pub name_letters : List ℕ → List ℕ
name_letters name = before_first (λ c. c == 0x20) name

-- how a name is printed: a blank and its letters, and nothing where it has none
abbrev pub name_text : List ℕ → List ℕ
name_text [] = []
name_text (c ∷ letters) = 0x20 ∷ c ∷ letters

-- the line of the entry of this number: its selection, its mode, its state, how many records it has, and its name
unfoldable pub entry_line : ℕ → Entry → List ℕ
entry_line number entry =
    decimal number ++ codes " " ++ select_name entry.job.select ++ codes " " ++ mode_name entry.job.mode ++ codes " " ++ state_name entry.state ++ codes " "
    ++ decimal (length entry.job.records) ++ codes " records" ++ name_text (name_letters entry.name) ++ codes "\n"

-- the line of the record of this number: the number on six columns, or more where it has more digits, a blank, and its data in ASCII
unfoldable pub record_line : ℕ → Record → List ℕ
record_line number r = replicate (6 - length (decimal number)) 0x20 ++ decimal number ++ codes " " ++ card Ascii r

-- the lines of records that are numbered from here on
abbrev pub record_lines : ℕ → List Record → List ℕ
record_lines number [] = []
record_lines number (r ∷ rs) = record_line number r ++ record_lines (number + 1) rs

-- what is shown of the entry of this number: its line, and the lines of its records where they are asked for
abbrev pub shown_entry : (records : Bool) → ℕ → Entry → List ℕ
shown_entry records number entry = entry_line number entry ++ (if records then record_lines 1 entry.job.records else [])

-- what is shown of the chosen ones of entries that are numbered from here on
abbrev pub shown_from : Choice → (records : Bool) → ℕ → List Entry → List ℕ
shown_from choice records number [] = []
shown_from choice records number (entry ∷ entries) =
    (if takes choice number entry.job.select then shown_entry records number entry else []) ++ shown_from choice records (number + 1) entries

-- the line that says how many cards a deck has
abbrev pub cards_line : ℕ → List ℕ
cards_line count = decimal count ++ codes " cards\n"

-- the line that says how many jobs can all be sent
abbrev pub good_line : ℕ → List ℕ
good_line count = codes "good " ++ decimal count ++ codes " jobs\n"

-- the line that says how many jobs were taken, and how many cards they have
abbrev pub taken_line : (jobs cards : ℕ) → List ℕ
taken_line jobs cards = codes "took " ++ decimal jobs ++ codes " jobs, " ++ decimal cards ++ codes " cards\n"

-- the line that says how many jobs were marked
abbrev pub marked_line : ℕ → List ℕ
marked_line jobs = codes "marked " ++ decimal jobs ++ codes " jobs\n"

-- the paper of a job: its cards for the punch, in this form, and else a listing
abbrev pub paper_for : Form → Select → Job → List ℕ
paper_for form Select.Punch job = punched form job
paper_for form Select.Unset job = listing job
paper_for form Select.Printer job = listing job

abbrev pub paper : Form → Job → List ℕ
paper form job = paper_for form job.select job

-- the paper of the chosen ones of jobs that are numbered from here on
abbrev pub paper_from : Choice → Form → ℕ → List Entry → List ℕ
paper_from choice form number [] = []
paper_from choice form number (entry ∷ entries) =
    (if takes choice number entry.job.select then paper form entry.job else []) ++ paper_from choice form (number + 1) entries

-- the line that reports that the job of this number is cut
abbrev pub cut_line : ℕ → List ℕ
cut_line number = codes "rje: job " ++ decimal number ++ codes " is cut\n"

-- a job in this state is cut
abbrev pub is_cut : State → Bool
is_cut State.Cut = true
is_cut _ = false

-- the lines of those of the chosen ones of entries that are cut; they are numbered from here on
abbrev pub cut_from : Choice → ℕ → List Entry → List ℕ
cut_from choice number [] = []
cut_from choice number (entry ∷ entries) =
    (if takes choice number entry.job.select && is_cut entry.state then cut_line number else []) ++ cut_from choice (number + 1) entries

-- what `show` prints of entries: of the chosen ones, with their records where they are asked for
abbrev pub IsShown : Choice → (records : Bool) → List Entry → List ℕ → Type 0
IsShown choice records entries text = text ≡ shown_from choice records 1 entries

-- what `check` prints of jobs that can all be sent
abbrev pub IsChecked : List Job → List ℕ → Type 0
IsChecked jobs text = AllByRecursion JobFits jobs × (text ≡ good_line (length jobs))

-- what `print` prints of entries: the paper of the jobs of the chosen ones, with cards in this form
abbrev pub IsPaper : Choice → Form → List Entry → List ℕ → Type 0
IsPaper choice form entries text = text ≡ paper_from choice form 1 entries

-- what `print` reports of them: which are cut
abbrev pub AreCut : Choice → List Entry → List ℕ → Type 0
AreCut choice entries text = text ≡ cut_from choice 1 entries
