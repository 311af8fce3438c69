-- What `status` reports of the folder of a station (own profile).
use Rattle.std.specs.Prelude.{◌≡◌, ◌⊎◌, ℕ, List, length, Bool, ◌||◌, not, nat_lt, true, false}
use Rattle.rje_folder.specs.declared.folder.Folder.{Folder}
use Rattle.rje_status.specs.declared.folders.Folders.{Folders}

-- something asks for the operator: no station has the folder, or something is in doubt, or refused
abbrev pub asks_for_operator : (running : Bool) → Folders → Bool
asks_for_operator running folders = not running || (nat_lt 0 (length folders.doubt.items) || nat_lt 0 (length folders.refused.items))

-- it is the folder of what can't be sent
abbrev pub is_refused : Folder → Bool
is_refused Folder.Refused = true
is_refused _ = false

-- the exit statuses of `status`
abbrev pub IsStatusStatus : ℕ → Type 0
IsStatusStatus status = (status ≡ 0) ⊎ (status ≡ 1) ⊎ (status ≡ 2) ⊎ (status ≡ 3) ⊎ (status ≡ 5) ⊎ (status ≡ 141)
