-- What stands behind the ledger of a station's spool: what is entered as kept was put on disk (own profile).
use Rattle.std.specs.Prelude.{◌≡◌, ℕ, zero, suc, Option, Some, None, List, [], ◌∷◌, ◌++◌, ⊤}
use Rattle.rje_day.specs.declared.disposition.Disposition.TheVariants.{InDoubt}
use Rattle.rje_folder.specs.declared.folder.Folder.{Folder}
use Rattle.rje_folder.specs.Keeping.{WasMade, WasNamed}
use Rattle.rje_jobs.specs.declared.job.Job.{Job}
use Rattle.rje_session.specs.Ledger.{Entry, Settled, Kept, KeptCut}
use Rattle.rje_store.specs.Disk.{Asked}
use Rattle.rje_spool.specs.declared.given_file.GivenFile.{GivenFile}
use Rattle.rje_spool.specs.Keeping.{IsKeptIn}

-- what contracts see of the spool of a station's folder
pub record Spooled : Type 0 where
  -- the path of the folder
  pub station : List ℕ
  -- what is entered, the newest first
  pub entries : List Entry
  -- the files that the last transmission was given
  pub files : List GivenFile
  -- how many jobs they have
  pub given : ℕ
  -- the job of that transmission whose last block went out last, if one did: those before it went out too
  pub out : Option ℕ
  -- what its disk was asked, the newest first
  pub asked : List Asked

-- more was asked of a disk, or nothing
abbrev pub GoesOn : (before after : List Asked) → Type 0
GoesOn before after = (calls : List Asked) × (after ≡ calls ++ before)

-- the job was put into a folder of the station after the calls that came before: as a file that was made after them, under a name that no file had,
-- whole and on disk
abbrev pub WasPut : (station : List ℕ) → Folder → Job → (before asked : List Asked) → Type 0
WasPut station folder job before asked = (path : List ℕ) × (after : List Asked) × GoesOn after asked × WasMade path before after × WasNamed path before after × IsKeptIn station folder job path after

-- Something stands behind each entry: a job that is entered as kept was put into in/, and one that was cut into cut/, each after those that are entered
-- before it.
abbrev pub AreBacked : (station : List ℕ) → List Entry → List Asked → Type 0
AreBacked station [] asked = ⊤
AreBacked station (Kept job ∷ past) asked = (before : List Asked) × WasPut station Folder.In job before asked × AreBacked station past before
AreBacked station (KeptCut job ∷ past) asked = (before : List Asked) × WasPut station Folder.Cut job before asked × AreBacked station past before
AreBacked station (_ ∷ past) asked = AreBacked station past asked

-- each of the first so many jobs is entered as in doubt, one after another
abbrev pub with_first_doubted : ℕ → List Entry → List Entry
with_first_doubted zero entries = entries
with_first_doubted (suc n) entries = Settled n InDoubt ∷ with_first_doubted n entries

-- each job up to the one that went out last is entered as in doubt; none where none went out
abbrev pub with_doubted : (out : Option ℕ) → List Entry → List Entry
with_doubted None entries = entries
with_doubted (Some last) entries = with_first_doubted (suc last) entries
