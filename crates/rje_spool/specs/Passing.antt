-- Why a file of out/ is passed over, and for how long (own profile).
use Rattle.std.specs.Prelude.{◌≡◌, ◌⊎◌, Bool, true, false}
use Rattle.std.specs.declared.io.ErrorKind.{ErrorKind}
use Rattle.rje_folder.specs.declared.settled.OutName.{OutName}

-- there is no room for it now: the disk is full, or what its user may have of it is used up
abbrev pub IsNoRoom : ErrorKind → Type 0
IsNoRoom kind = (kind ≡ ErrorKind.StorageFull) ⊎ (kind ≡ ErrorKind.QuotaExceeded)

-- a file that got no second name for this gets none later either
abbrev pub is_lasting : ErrorKind → Bool
is_lasting ErrorKind.PermissionDenied = true
is_lasting ErrorKind.CrossesDevices = true
is_lasting ErrorKind.TooManyLinks = true
is_lasting ErrorKind.InvalidFilename = true
is_lasting ErrorKind.Unsupported = true
is_lasting kind = false

-- another file may have been hidden, and not been given its name back, where this became of a name in out/
abbrev pub may_be_hidden : OutName → Bool
may_be_hidden OutName.Missing = true
may_be_hidden OutName.OfAnother = true
may_be_hidden (OutName.Left kind) = true
may_be_hidden out = false
