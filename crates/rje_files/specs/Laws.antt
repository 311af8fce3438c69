-- What holds of job files beyond the calls that write and read them.
use Rattle.std.specs.Prelude.{◌≡◌, ◌≤◌, ◌↔◌, ℕ, true, List, length, map}
use Rattle.rje_jobs.specs.declared.job.Job.{Job}
use Rattle.rje_jobs.specs.declared.file_fault.FileFault.{FileFault}
use Rattle.rje_files.specs.declared.entry.Entry.{Entry}
use Rattle.rje_files.specs.declared.job_file.version.FileVersion.{FileVersion}
use Rattle.rje_files.specs.declared.job_file.version.FileVersion.TheVariants.{First}
use Rattle.rje_files.specs.Entry.{entry_of, is_job_name, is_name_text, padded}
use Rattle.rje_files.specs.JobFile.{IsFileOf, IsEntryFileOf, IsJobFile, IsEntryFile}
use Rattle.rje_files.specs.FileFault.{IsFileFault, IsEntryFault}

-- bytes are the file of one list of jobs at most
abbrev pub FileIsOfOneList : Type 0
FileIsOfOneList = (bytes : List ℕ) (jobs others : List Job) → IsFileOf jobs bytes → IsFileOf others bytes → jobs ≡ others

-- bytes are the file of one list of entries at most, and of one version
abbrev pub EntriesAreOfOneList : Type 0
EntriesAreOfOneList = (bytes : List ℕ) (v w : FileVersion) (entries others : List Entry) → IsEntryFileOf v entries bytes → IsEntryFileOf w others bytes
    → (v ≡ w) × (entries ≡ others)

-- the entries of a file of jobs are those of the jobs
abbrev pub ReadAlike : Type 0
ReadAlike = (bytes : List ℕ) (jobs : List Job) (v : FileVersion) (entries : List Entry) → IsFileOf jobs bytes → IsEntryFileOf v entries bytes
    → (v ≡ First) × (entries ≡ map entry_of jobs)

-- at most one fault is reported for bytes that are read as entries
abbrev pub OneEntryFault : Type 0
OneEntryFault = (bytes : List ℕ) (f g : FileFault) → IsFileFault IsEntryFile bytes f → IsFileFault IsEntryFile bytes g → f ≡ g

-- at most one fault is reported for entries
abbrev pub OneRefusal : Type 0
OneRefusal = (entries : List Entry) (f g : FileFault) → IsEntryFault entries f → IsEntryFault entries g → f ≡ g

-- at most one fault is reported for bytes
abbrev pub OneFileFault : Type 0
OneFileFault = (bytes : List ℕ) (f g : FileFault) → IsFileFault IsJobFile bytes f → IsFileFault IsJobFile bytes g → f ≡ g

-- eight bytes are a name exactly where they are some text of at most eight characters followed by blanks
abbrev pub NamesArePadded : Type 0
NamesArePadded = (name : List ℕ) → length name ≡ 8 → (is_job_name name ≡ true)
    ↔ ((text : List ℕ) × (length text ≤ 8) × (is_name_text text ≡ true) × (name ≡ padded text))
