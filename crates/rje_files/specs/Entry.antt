-- A job in a job file, with its name and its state (own profile).
use Rattle.std.specs.Prelude.{◌≡◌, ℕ, ◌+◌, ◌-◌, ◌<◌, ◌≤◌, Bool, true, false, not, ◌&&◌, ◌||◌, ◌==◌, nat_le, List, [], ◌∷◌, ◌++◌, length, map, replicate, Option, Some, None, if◌then◌else◌}
use Rattle.std.specs.List.{list_all}
use Rattle.rje_text.specs.declared.mode.Mode.{Mode}
use Rattle.rje_text.specs.declared.select.Select.{Select}
use Rattle.rje_text.specs.declared.record.Record.{Record}
use Rattle.rje_jobs.specs.declared.job.Job.{Job}
use Rattle.rje_jobs.specs.Deck.{job_of_cards}
use Rattle.rje_files.specs.declared.entry.State.{State}
use Rattle.rje_files.specs.declared.entry.State.TheVariants.{Waiting, Sent, Whole, Cut}
use Rattle.rje_files.specs.declared.entry.Entry.{Entry}

-- A to Z and 0 to 9 in ASCII
abbrev pub is_name_character : ℕ → Bool
is_name_character c = (nat_le 0x41 c && nat_le c 0x5A) || (nat_le 0x30 c && nat_le c 0x39)

-- a byte may stand in a name: a blank anywhere, and a character where the name has not ended
abbrev pub may_stand : Bool → ℕ → Bool
may_stand ended c = c == 0x20 || (not ended && is_name_character c)

-- these bytes may stand in a name from some place on; it has ended after a blank
abbrev pub is_name_from : Bool → List ℕ → Bool
is_name_from ended [] = true
is_name_from ended (c ∷ cs) = may_stand ended c && is_name_from (c == 0x20) cs

-- a name: characters, and then blanks
abbrev pub is_job_name : List ℕ → Bool
is_job_name name = is_name_from false name

-- the name of a job that has none
abbrev pub blank_name : List ℕ
blank_name = replicate 8 0x20

-- a text of these characters alone
abbrev pub is_name_text : List ℕ → Bool
is_name_text text = list_all is_name_character text

-- a text followed by blanks, up to eight bytes
abbrev pub padded : List ℕ → List ℕ
padded text = text ++ replicate (8 - length text) 0x20

-- the name of this text, which has one to eight characters, is these eight bytes; none for any other text
abbrev pub IsNameOf : List ℕ → Option (List ℕ) → Type 0
IsNameOf text (Some name) = (0 < length text) × (length text ≤ 8) × (is_name_text text ≡ true) × (name ≡ padded text)
IsNameOf text None = 0 < length text → length text ≤ 8 → is_name_text text ≡ true → ⊥

-- whether a job in this state is whole
abbrev pub whole_of : State → Bool
whole_of Waiting = true
whole_of Sent = true
whole_of Whole = true
whole_of Cut = false

-- a job that is whole, or not, can have this state
abbrev pub agrees : State → Bool → Bool
agrees state whole = if whole_of state then whole else not whole

-- an entry has a name, and a state that its job can have
abbrev pub is_entry : Entry → Bool
is_entry e = is_job_name e.name && agrees e.state e.job.whole

-- such an entry, with the eight bytes of its name
abbrev pub IsEntry : Entry → Type 0
IsEntry e = (length e.name ≡ 8) × (is_entry e ≡ true)

-- the entry of these three
abbrev pub entry_with : List ℕ → State → Job → Entry
entry_with name state job = record { name = name; state = state; job = job }

-- the entry of the job of a deck's cards, of this name, which waits to be sent
abbrev pub entry_of_cards : (name : List ℕ) → Select → Mode → List Record → Entry
entry_of_cards name select mode cards = entry_with name Waiting (job_of_cards select mode cards)

-- the entry of a job that has no name and no state of its own
abbrev pub entry_of : Job → Entry
entry_of job = record { name = blank_name; state = if job.whole then Whole else Cut; job = job }

-- the jobs of entries
abbrev pub jobs_in : List Entry → List Job
jobs_in entries = map (λ e. e.job) entries

-- the number of the first that is no entry, where they are numbered from here on
abbrev pub bad_entry_from : ℕ → List Entry → Option ℕ
bad_entry_from number [] = None
bad_entry_from number (e ∷ es) = if is_entry e then bad_entry_from (number + 1) es else Some number

-- the number of the first that is no entry
abbrev pub bad_entry : List Entry → Option ℕ
bad_entry entries = bad_entry_from 1 entries
