-- What a station that sends and receives leaves in its two files, whatever ends its transmissions (own profile).
use Rattle.std.specs.Prelude.{◌⊎◌, ℕ, List, Option}
use Rattle.bsc_link.specs.declared.rank.Rank.{Rank}
use Rattle.rje_files.specs.declared.entry.Entry.{Entry}
use Rattle.rje_files.specs.Entry.{jobs_in}
use Rattle.rje_files.specs.JobFile.{HasEntries}
use Rattle.rje_files.specs.Unsent.{unsent}
use Rattle.rje_station.specs.Station.{Contending, first_contending}
use Rattle.rje_commands.specs.Commands.{OfFile}
use Rattle.rje_requests.specs.declared.order.Destination.{Destination}
use Rattle.rje_sockets.specs.declared.transfer_error.TransferError.{TransferError}
use Rattle.rje_sockets.specs.Answering.{HasWhole}
use Rattle.rje_sockets.specs.BothWays.{Fails, LeavesFrom, StationTurn, Took}
use Rattle.rje_sockets.specs.Ending.{MarksSent}
use Rattle.rje_store.specs.Store.{FileMap, Discloses, IsSame}

-- it took some turns, and then it left, or failed in one more
abbrev pub CameTo : Contending → Contending → Type 0
CameTo s s' =
    (turns : List StationTurn) × (near : Contending) × Took s.contender.rank s turns near
    × (LeavesFrom near s' ⊎ ((broken : TransferError) × Fails near s' broken))

-- the file of this name became that of the same entries as this file's, in which just so many of those that were not Sent are Sent as it had
-- counted, and no other file changed
abbrev pub MarksAlone : Contending → (file name : List ℕ) → (files made : Option FileMap) → Type 0
MarksAlone s file name files made = (last : Contending) × CameTo s last × MarksSent file last.sender.counted name files made

-- just what it had counted is marked in the file of the one name; in that of the destination all in front is kept of what had come whole, after
-- the entries that stay, and there may be more of what had come; and no other file changed
pub record LeavesBoth (s : Contending) (file send : List ℕ) (into : Destination) (files made : Option FileMap) : Type 0 where
  pub marked : Option FileMap
  pub marks : MarksAlone s file send files marked
  pub last : Contending
  pub came : CameTo s last
  pub kept : HasWhole last.receiver.jobs into marked made

-- nothing was said, and no file changed; or a new station of this rank, for what was left of the job file of the one name, left the files so
abbrev pub LeavesExchange : (Unsaid : Type 0) → Rank → (send : List ℕ) → (into : Destination) → (files made : Option FileMap) → Type 0
LeavesExchange Unsaid rank send into files made =
    (Unsaid × Discloses files made IsSame)
    ⊎ OfFile send files (λ file. (entries : List Entry) × HasEntries entries file
    × LeavesBoth (first_contending rank (jobs_in (unsent entries))) file send into files made)
