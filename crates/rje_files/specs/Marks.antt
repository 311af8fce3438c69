-- Where in a job file the next job is marked Sent (own profile).
use Rattle.std.specs.Prelude.{◌≡◌, ℕ, ◌+◌, ◌<◌, false, List, ◌∷◌, ◌++◌, length, set, Some}
use Rattle.std.specs.List.{slice_get}
use Rattle.rje_files.specs.declared.entry.Entry.{Entry}
use Rattle.rje_files.specs.declared.job_file.version.FileVersion.TheVariants.{Second}
use Rattle.rje_files.specs.JobFile.{file_of}
use Rattle.rje_files.specs.Unsent.{IsSentFile, is_sent, unsent}

-- these places are those of the marks of this file: where the first n of the entries that were not sent are Sent, a 1 at the next place
-- makes the next of them Sent too, and nothing else
abbrev pub AreMarks : (file places : List ℕ) → Type 0
AreMarks file places =
    (n place : ℕ) (bytes : List ℕ) → slice_get places n ≡ Some place → IsSentFile file n bytes
    → (place < length bytes) × IsSentFile file (n + 1) (set bytes place 1)

-- each entry that was not sent has its place among these, in order: that of its state, which stands
-- after the eight bytes of its name, and these where the version 2 file of the entries before it ends
abbrev pub AreStatePlaces : List Entry → List ℕ → Type 0
AreStatePlaces entries places =
    (before after : List Entry) (e : Entry) → entries ≡ before ++ e ∷ after → is_sent e.state ≡ false
    → slice_get places (length (unsent before)) ≡ Some (length (file_of Second before) + 8)
