-- What a sender has marked in its file of the jobs that it has counted (own profile).
use Rattle.std.specs.Prelude.{◌⊎◌, ℕ, List, Option}
use Rattle.bsc_history.specs.History.{History}
use Rattle.rje_files.specs.declared.entry.Entry.{Entry}
use Rattle.rje_files.specs.Entry.{jobs_in}
use Rattle.rje_files.specs.JobFile.{HasEntries}
use Rattle.rje_files.specs.Unsent.{unsent}
use Rattle.rje_station.specs.Sending.{Sending, first_sending}
use Rattle.line_world.specs.AnyLines.{SenderTook}
use Rattle.rje_commands.specs.Commands.{OfFile}
use Rattle.rje_sockets.specs.Ending.{MarksSent}
use Rattle.rje_store.specs.Store.{FileMap, Discloses, IsSame}

-- a new station for what was left of this file took some turns, and the jobs that it counted by then are Sent in the file of this name
pub record MarksItsCount (name file : List ℕ) (files made : Option FileMap) : Type 0 where
  pub entries : List Entry
  pub history : History
  pub station : Sending
  pub file_is : HasEntries entries file
  pub took : SenderTook (first_sending (jobs_in (unsent entries))) history station
  pub marks : MarksSent file station.counted name files made

-- Whatever ended the transmission: nothing was said, and no file changed; or just what was counted is marked in the file of this name.
abbrev pub MarksNoMore : (Unsaid : Type 0) → (name : List ℕ) → (files made : Option FileMap) → Type 0
MarksNoMore Unsaid name files made = (Unsaid × Discloses files made IsSame) ⊎ OfFile name files (λ file. MarksItsCount name file files made)
