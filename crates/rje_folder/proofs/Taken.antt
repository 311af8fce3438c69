-- Calls that take a name away from a file.
use Rattle.std.proofs.Common.{◌≡◌, ◌≢◌, ℕ, inl, inr, List, [], ◌∷◌, ◌++◌, None, Bool, true, false, if◌then◌else◌, refl, sym, ◌∙◌, ap, subst}
use Rattle.std.specs.Prelude.{bytes_eq}
use Rattle.std.proofs.lemmas.Slice.Eq.{bytes_eq-Decides}
use Rattle.std.proofs.lemmas.Bool.{false_from_ne_true}
use Rattle.rje_store.specs.Disk.{Asked, Call, Done, Refused, Failed, Remove, SyncFolder, call_of, standing, has_synced_name}
use Rattle.rje_store.specs.Replacing.{Adds, Each}
use Rattle.rje_store.specs.Inside.Filling.{AddsSync}
use Rattle.rje_store.proofs.Replacing.{same_name, synced_keeps, whatever_came}
use Rattle.rje_folder.specs.Moving.{IsGone, MayDrop}
use Rattle.rje_folder.specs.Inside.Calls.{HasRemoved, HasTaken}

-- names that differ
pub other_name : (name other : List ℕ) → name ≢ other → bytes_eq name other ≡ false
other_name name other differ = false_from_ne_true (bytes_eq name other) (λ h. differ ((bytes_eq-Decides name other).0 h))

-- names that differ, as a test says
pub differs : (name other : List ℕ) → bytes_eq name other ≡ false → name ≢ other
differs name other tested same = let also : bytes_eq name other ≡ true = (bytes_eq-Decides name other).1 same in cc

-- putting names on disk leaves no name that is on disk
chosen : (b x : Bool) → x ≡ true → (if b then true else x) ≡ true
chosen true x h = refl
chosen false x h = h

sync_leaves : (path name : List ℕ) (before : List Asked) (call : Call) → call ≡ SyncFolder path → has_synced_name name before ≡ true
    → (has_synced_name name (Done call ∷ before) ≡ true) × (has_synced_name name (Refused call ∷ before) ≡ true) × (has_synced_name name (Failed call ∷ before) ≡ true)
sync_leaves path name before call is h =
    let Leaves : Call → Type 0 = λ c. (has_synced_name name (Done c ∷ before) ≡ true) × (has_synced_name name (Refused c ∷ before) ≡ true) × (has_synced_name name (Failed c ∷ before) ≡ true) in
    subst Leaves (sym is) (chosen (bytes_eq name path) (has_synced_name name before) h, chosen (bytes_eq name path) (has_synced_name name before) h, h)

pub sync_keeps_names : (path name : List ℕ) (a b : List Asked) → AddsSync path a b → has_synced_name name a ≡ true → has_synced_name name b ≡ true
sync_keeps_names path name a b (asked, made, call) h =
    let parts : (has_synced_name name (Done (call_of asked) ∷ a) ≡ true) × (has_synced_name name (Refused (call_of asked) ∷ a) ≡ true) × (has_synced_name name (Failed (call_of asked) ∷ a) ≡ true) = sync_leaves path name a (call_of asked) call h in
    ap (has_synced_name name) made ∙ whatever_came (λ x. has_synced_name name (x ∷ a) ≡ true) asked parts.0 parts.1 parts.2

-- and what stands under each name
pub sync_keeps_standing : (path name : List ℕ) (a b : List Asked) → AddsSync path a b → standing name b ≡ standing name a
sync_keeps_standing path name a b (asked, made, call) = ap (standing name) made ∙ (synced_keeps path name 0 asked a call).0

-- the folders of both names may be put on disk
pub sync_kept : (are_one : List Asked → List ℕ → List ℕ → Type 0) (kept name : List ℕ) (a b : List Asked) → AddsSync kept a b → Adds (MayDrop are_one kept name) a b
sync_kept are_one kept name a b (asked, made, call) = (asked ∷ [], made, (inl call, tt))

pub sync_dropped : (are_one : List Asked → List ℕ → List ℕ → Type 0) (kept name : List ℕ) (a b : List Asked) → AddsSync name a b → Adds (MayDrop are_one kept name) a b
sync_dropped are_one kept name a b (asked, made, call) = (asked ∷ [], made, (inr (inl call), tt))

-- a name that was taken away stands for nothing; the other one is on disk as it was, and stands for what it stood for
pub removed_gone : (kept name : List ℕ) (a b : List Asked) → HasRemoved kept name a b → standing name b ≡ None
removed_gone kept name a b (differ, made) = ap (standing name) made ∙ rw (same_name name) refl

pub removed_kept : (kept name : List ℕ) (a b : List Asked) → HasRemoved kept name a b → has_synced_name kept a ≡ true → has_synced_name kept b ≡ true
removed_kept kept name a b (differ, made) h = ap (has_synced_name kept) made ∙ rw (other_name kept name differ) h

pub removed_standing : (kept name : List ℕ) (a b : List Asked) → HasRemoved kept name a b → standing kept b ≡ standing kept a
removed_standing kept name a b (differ, made) = ap (standing kept) made ∙ rw (other_name kept name differ) refl

-- a name that was taken away is gone; the other one is on disk as it was
pub taken_gone : (kept name : List ℕ) (a b : List Asked) → HasTaken kept name a b → IsGone name b
taken_gone kept name a b (differ, sync, synced) =
    (sync_keeps_standing name name (Done (Remove name) ∷ a) b sync ∙ rw (same_name name) refl, synced)

pub taken_kept : (kept name : List ℕ) (a b : List Asked) → HasTaken kept name a b → has_synced_name kept a ≡ true → has_synced_name kept b ≡ true
taken_kept kept name a b (differ, sync, synced) h =
    sync_keeps_names name kept (Done (Remove name) ∷ a) b sync (rw (other_name kept name differ) h)

-- what stands under the other one is what stood there
pub taken_standing : (kept name : List ℕ) (a b : List Asked) → HasTaken kept name a b → standing kept b ≡ standing kept a
taken_standing kept name a b (differ, sync, synced) =
    sync_keeps_standing name kept (Done (Remove name) ∷ a) b sync ∙ rw (other_name kept name differ) refl

-- whatever is asked to take a name away leaves the other one on disk
drop_leaves : (are_one : List Asked → List ℕ → List ℕ → Type 0) (kept name : List ℕ) (call : Call) (before : List Asked) → MayDrop are_one kept name call before → has_synced_name kept before ≡ true
    → (has_synced_name kept (Done call ∷ before) ≡ true) × (has_synced_name kept (Refused call ∷ before) ≡ true) × (has_synced_name kept (Failed call ∷ before) ≡ true)
drop_leaves are_one kept name call before (inl e) h = sync_leaves kept kept before call e h
drop_leaves are_one kept name call before (inr (inl e)) h = sync_leaves name kept before call e h
drop_leaves are_one kept name call before (inr (inr (e, (differ, one, synced)))) h =
    let tested : bytes_eq kept name ≡ false = other_name kept name differ in
    let Leaves : Call → Type 0 = λ c. (has_synced_name kept (Done c ∷ before) ≡ true) × (has_synced_name kept (Refused c ∷ before) ≡ true) × (has_synced_name kept (Failed c ∷ before) ≡ true) in
    subst Leaves (sym e) (rw tested h, rw tested h, rw tested h)

drops_leave : (are_one : List Asked → List ℕ → List ℕ → Type 0) (kept name : List ℕ) (calls before : List Asked) → Each (MayDrop are_one kept name) calls before → has_synced_name kept before ≡ true → has_synced_name kept (calls ++ before) ≡ true
drops_leave are_one kept name [] before each h = h
drops_leave are_one kept name (asked ∷ calls) before (one, each) h =
    let all = calls ++ before in
    let parts : (has_synced_name kept (Done (call_of asked) ∷ all) ≡ true) × (has_synced_name kept (Refused (call_of asked) ∷ all) ≡ true) × (has_synced_name kept (Failed (call_of asked) ∷ all) ≡ true)
    = drop_leaves are_one kept name (call_of asked) all one (drops_leave are_one kept name calls before each h) in
    whatever_came (λ x. has_synced_name kept (x ∷ all) ≡ true) asked parts.0 parts.1 parts.2

pub drop_stays : (are_one : List Asked → List ℕ → List ℕ → Type 0) (kept name : List ℕ) (a b : List Asked) → Adds (MayDrop are_one kept name) a b → has_synced_name kept a ≡ true → has_synced_name kept b ≡ true
drop_stays are_one kept name a b (calls, e, each) h = ap (has_synced_name kept) e ∙ drops_leave are_one kept name calls a each h

-- nor does it change what stands under the other one
drop_keeps : (are_one : List Asked → List ℕ → List ℕ → Type 0) (kept name : List ℕ) (call : Call) (before : List Asked) → MayDrop are_one kept name call before
    → (standing kept (Done call ∷ before) ≡ standing kept before) × (standing kept (Refused call ∷ before) ≡ standing kept before) × (standing kept (Failed call ∷ before) ≡ standing kept before)
drop_keeps are_one kept name call before may = first may where
  Keeps : Call → Type 0
  Keeps c = (standing kept (Done c ∷ before) ≡ standing kept before) × (standing kept (Refused c ∷ before) ≡ standing kept before) × (standing kept (Failed c ∷ before) ≡ standing kept before)

  first : MayDrop are_one kept name call before → Keeps call
  first (inl e) = subst Keeps (sym e) (refl, refl, refl)
  first (inr (inl e)) = subst Keeps (sym e) (refl, refl, refl)
  first (inr (inr (e, (differ, one, synced)))) = let tested : bytes_eq kept name ≡ false = other_name kept name differ in subst Keeps (sym e) (rw tested refl, rw tested refl, rw tested refl)

drops_keep : (are_one : List Asked → List ℕ → List ℕ → Type 0) (kept name : List ℕ) (calls before : List Asked) → Each (MayDrop are_one kept name) calls before → standing kept (calls ++ before) ≡ standing kept before
drops_keep are_one kept name [] before each = refl
drops_keep are_one kept name (asked ∷ calls) before (one, each) =
    let all = calls ++ before in
    let parts : (standing kept (Done (call_of asked) ∷ all) ≡ standing kept all) × (standing kept (Refused (call_of asked) ∷ all) ≡ standing kept all) × (standing kept (Failed (call_of asked) ∷ all) ≡ standing kept all)
    = drop_keeps are_one kept name (call_of asked) all one in
    whatever_came (λ x. standing kept (x ∷ all) ≡ standing kept all) asked parts.0 parts.1 parts.2 ∙ drops_keep are_one kept name calls before each

pub drop_standing : (are_one : List Asked → List ℕ → List ℕ → Type 0) (kept name : List ℕ) (a b : List Asked) → Adds (MayDrop are_one kept name) a b → standing kept b ≡ standing kept a
drop_standing are_one kept name a b (calls, e, each) = ap (standing kept) e ∙ drops_keep are_one kept name calls a each
