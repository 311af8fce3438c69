-- The jobs of a job file that `take` and `mark` are for, and what becomes of them (own profile).
use Rattle.std.specs.Prelude.{ℕ, ◌+◌, Bool, List, [], ◌∷◌, ◌++◌, length, map, if◌then◌else◌}
use Rattle.std.specs.List.{sum_by}
use Rattle.rje_files.specs.declared.entry.Entry.{Entry}
use Rattle.rje_files.specs.declared.entry.State.{State}
use Rattle.rje_files.specs.declared.entry.State.TheVariants.{Cut, Sent, Waiting, Whole}
use Rattle.rje_requests.specs.declared.mark.Mark.{Mark}
use Rattle.rje_requests.specs.JobNumbers.{has_number}

-- whether the entry at this place of a file is for a command: its number, which counts from 1, is one of those between the commas of a text
abbrev pub is_chosen : (numbers : List ℕ) → (place : ℕ) → Bool
is_chosen numbers place = has_number numbers (place + 1)

-- the chosen ones of entries of which the first is at this place
abbrev pub chosen_from : (place : ℕ) → (numbers : List ℕ) → List Entry → List Entry
chosen_from place numbers [] = []
chosen_from place numbers (e ∷ es) = (if is_chosen numbers place then e ∷ [] else []) ++ chosen_from (place + 1) numbers es

-- the chosen ones of entries, each once and in the order of the file
abbrev pub chosen : (numbers : List ℕ) → List Entry → List Entry
chosen numbers entries = chosen_from 0 numbers entries

-- the state of a job that is taken: it waits to be sent, unless it was cut, which it stays
abbrev pub taken_state : State → State
taken_state Waiting = Waiting
taken_state Sent = Waiting
taken_state Whole = Waiting
taken_state Cut = Cut

-- an entry as it is taken: all but its state is as it was
abbrev pub taken_entry : Entry → Entry
taken_entry e = record e { state = taken_state e.state }

-- the chosen ones, as they are taken
abbrev pub taken : (numbers : List ℕ) → List Entry → List Entry
taken numbers entries = map taken_entry (chosen numbers entries)

-- how many cards the jobs of entries have
abbrev pub cards_in : List Entry → ℕ
cards_in entries = sum_by (λ e. length e.job.records) entries

-- the state of a job that has this mark
abbrev pub state_given : Mark → State
state_given Mark.Sent = Sent
state_given Mark.Waiting = Waiting

-- entries of which the first is at this place, where the chosen ones have this state, and all else is as it was
abbrev pub marked_from : (place : ℕ) → (numbers : List ℕ) → State → List Entry → List Entry
marked_from place numbers state [] = []
marked_from place numbers state (e ∷ es) =
    (if is_chosen numbers place then record e { state = state } else e) ∷ marked_from (place + 1) numbers state es

-- so are the entries of a file
abbrev pub marked : (numbers : List ℕ) → State → List Entry → List Entry
marked numbers state entries = marked_from 0 numbers state entries
