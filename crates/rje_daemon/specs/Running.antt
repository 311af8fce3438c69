-- How a run of the program as a station ends (own profile).
use Rattle.std.specs.Prelude.{◌≡◌, ◌⊎◌, ℕ, Bool, true, false}
use Rattle.std.specs.IoError.{error_kind}
use Rattle.std.specs.declared.io.ErrorKind.{ErrorKind}
use Rattle.rje_folder.specs.declared.folder_fault.FolderFault.{FolderFault}
use Rattle.rje_requests.specs.declared.station.Partner.{Partner}
use Rattle.rje_settling.specs.declared.settling_fault.SettlingFault.{SettlingFault}
use Rattle.rje_daemon.specs.declared.running.StationEnd.{StationEnd}

-- the status of the program, as a station: it was drained, or its one connection is over; the words ask for none; its folder can't be used, or it can't
-- listen; there is no memory; or nobody reads the help that was asked for
abbrev pub IsStationStatus : ℕ → Type 0
IsStationStatus status = (status ≡ 0) ⊎ (status ≡ 2) ⊎ (status ≡ 3) ⊎ (status ≡ 5) ⊎ (status ≡ 141)

-- there is no memory
abbrev pub is_of_memory : ErrorKind → Bool
is_of_memory ErrorKind.OutOfMemory = true
is_of_memory _ = false

-- the station ends for that
abbrev pub is_want_of_memory : StationEnd → Bool
is_want_of_memory (StationEnd.Folder FolderFault.OutOfMemory) = true
is_want_of_memory (StationEnd.Folder _) = false
is_want_of_memory (StationEnd.Open openness) = false
is_want_of_memory (StationEnd.Settling SettlingFault.OutOfMemory) = true
is_want_of_memory (StationEnd.Settling _) = false
is_want_of_memory (StationEnd.Log error) = is_of_memory (error_kind error)
is_want_of_memory (StationEnd.Listener address error) = is_of_memory (error_kind error)

-- it calls the other end, and isn't called
abbrev pub calls : Partner → Bool
calls (Partner.Calls address) = true
calls (Partner.Listens address callers) = false
