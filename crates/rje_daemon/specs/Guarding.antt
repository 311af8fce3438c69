-- Who may write to a part of a station's folder, and whose it is (own profile).
use Rattle.std.specs.Prelude.{ℕ, Bool, ◌==◌, ◌&&◌, ◌||◌, not, bit_and, false, Option, Some, None}
use Rattle.rje_store.specs.declared.disk.FileAccess.{FileAccess}

-- others than its owner may write to it: all may, or its group may; of a folder with an ACL the mode shows as the group's what that lets others do
abbrev pub may_others_write : FileAccess → Bool
may_others_write access = not (bit_and access.mode 18 == 0)

-- its owner is neither this user, where that is known, nor root
abbrev pub belongs_to_another : FileAccess → (user : Option ℕ) → Bool
belongs_to_another access (Some user) = not (access.owner == 0) && not (access.owner == user)
belongs_to_another access None = false
