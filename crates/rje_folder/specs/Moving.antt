-- How a file gets another name, and loses the one that it had, so that it has one on disk at each moment.
use Rattle.std.specs.Prelude.{◌≡◌, ◌≢◌, ◌⊎◌, ℕ, List, None, true}
use Rattle.rje_store.specs.Disk.{Asked, Call, Link, Remove, SyncFolder, standing, has_synced_name}

-- A name can be taken away, and its file isn't lost: the disk has just said that it is the file of another name too, and that name is on disk.
-- The disk says it by a relation of its own.
abbrev pub IsSpare : (List Asked → List ℕ → List ℕ → Type 0) → (kept name : List ℕ) → List Asked → Type 0
IsSpare are_one kept name before = (kept ≢ name) × are_one before kept name × (has_synced_name kept before ≡ true)

-- what may be asked to give the file of a name another one, of some names
abbrev pub MayLink : (from : List ℕ) → (IsNew : List ℕ → Type 0) → Call → List Asked → Type 0
MayLink from IsNew call before = (name : List ℕ) × IsNew name × (call ≡ Link from name)

-- what may be asked to take a name away, of which the file has another one: to put the other one on disk, to take the name away once it can be
-- spared, and to have that on disk too
abbrev pub MayDrop : (List Asked → List ℕ → List ℕ → Type 0) → (kept name : List ℕ) → Call → List Asked → Type 0
MayDrop are_one kept name call before = (call ≡ SyncFolder kept) ⊎ (call ≡ SyncFolder name) ⊎ ((call ≡ Remove name) × IsSpare are_one kept name before)

-- What may be asked to move a file: to give it one of some names, which no file has, and then to take away the one that it had. So nothing is
-- renamed, no file is written, and no name is touched but these.
abbrev pub MayMove : (List Asked → List ℕ → List ℕ → Type 0) → (from : List ℕ) → (IsNew : List ℕ → Type 0) → Call → List Asked → Type 0
MayMove are_one from IsNew call before = MayLink from IsNew call before ⊎ ((name : List ℕ) × IsNew name × MayDrop are_one name from call before)

-- What may be asked to give a file a second name: to give it one of some names, which no file has, to put that on disk, and, where that can't be,
-- to take it away again.
abbrev pub MayAdd : (List Asked → List ℕ → List ℕ → Type 0) → (name : List ℕ) → (IsNew : List ℕ → Type 0) → Call → List Asked → Type 0
MayAdd are_one name IsNew call before = MayLink name IsNew call before ⊎ ((second : List ℕ) × IsNew second × MayDrop are_one name second call before)

-- a name stands for the file that another one stood for, which stands for it still, and it is on disk
abbrev pub IsSecond : (name second : List ℕ) → List Asked → List Asked → Type 0
IsSecond name second before after = (standing second after ≡ standing name before) × (standing name after ≡ standing name before) × (has_synced_name second after ≡ true)

-- nothing stands under a name, and that is on disk
abbrev pub IsGone : List ℕ → List Asked → Type 0
IsGone name after = (standing name after ≡ None) × (has_synced_name name after ≡ true)

-- the file that stood under one name stands under another, on disk, and nothing under the first
abbrev pub IsMoved : (from to : List ℕ) → List Asked → List Asked → Type 0
IsMoved from to before after = (standing to after ≡ standing from before) × (has_synced_name to after ≡ true) × IsGone from after
