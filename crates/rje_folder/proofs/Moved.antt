-- How a file is moved, and how it gets a second name: call after call.
use Rattle.std.proofs.Common.{◌≡◌, ℕ, inl, inr, List, Option, Bool, true, false, if◌then◌else◌, refl, ◌∙◌, ap}
use Rattle.std.specs.Prelude.{bytes_eq}
use Rattle.rje_store.specs.Disk.{Asked, standing, has_synced_name}
use Rattle.rje_store.specs.Replacing.{Adds}
use Rattle.rje_store.specs.Inside.Filling.{AddsSync}
use Rattle.rje_store.proofs.Replacing.{added_twice, added_weaker}
use Rattle.rje_folder.specs.Moving.{IsMoved, IsSecond, MayAdd, MayDrop, MayLink, MayMove}
use Rattle.rje_folder.specs.Inside.Calls.{HasLinked, HasRemoved, IsChanged}
use Rattle.rje_folder.proofs.Linked.{linked_stands}
use Rattle.rje_folder.proofs.Taken.{removed_gone, removed_kept, removed_standing, sync_dropped, sync_kept, sync_keeps_names, sync_keeps_standing}

-- what is asked to move a file: a link, and the old name is taken away
pub link_moves : (are_one : List Asked → List ℕ → List ℕ → Type 0) (from : List ℕ) (IsNew : List ℕ → Type 0) (a b : List Asked) → Adds (MayLink from IsNew) a b → Adds (MayMove are_one from IsNew) a b
link_moves are_one from IsNew a b adds = added_weaker (MayLink from IsNew) (MayMove are_one from IsNew) (λ call before may. inl may) a b adds

pub drop_moves : (are_one : List Asked → List ℕ → List ℕ → Type 0) (from to : List ℕ) (IsNew : List ℕ → Type 0) (a b : List Asked) → IsNew to → Adds (MayDrop are_one to from) a b → Adds (MayMove are_one from IsNew) a b
drop_moves are_one from to IsNew a b named adds = added_weaker (MayDrop are_one to from) (MayMove are_one from IsNew) (λ call before may. inr (to, named, may)) a b adds

pub sync_moves : (are_one : List Asked → List ℕ → List ℕ → Type 0) (from to : List ℕ) (IsNew : List ℕ → Type 0) (a b : List Asked) → IsNew to → AddsSync to a b → Adds (MayMove are_one from IsNew) a b
sync_moves are_one from to IsNew a b named sync = drop_moves are_one from to IsNew a b named (sync_kept are_one to from a b sync)

pub link_sync_moves : (are_one : List Asked → List ℕ → List ℕ → Type 0) (from to : List ℕ) (IsNew : List ℕ → Type 0) (a b c : List Asked) → IsNew to → Adds (MayLink from IsNew) a b → AddsSync to b c → Adds (MayMove are_one from IsNew) a c
link_sync_moves are_one from to IsNew a b c named adds sync =
    added_twice (MayMove are_one from IsNew) a b c (link_moves are_one from IsNew a b adds) (sync_moves are_one from to IsNew b c named sync)

pub all_moves : (are_one : List Asked → List ℕ → List ℕ → Type 0) (from to : List ℕ) (IsNew : List ℕ → Type 0) (a b c d : List Asked) → IsNew to → Adds (MayLink from IsNew) a b → AddsSync to b c → Adds (MayDrop are_one to from) c d
    → Adds (MayMove are_one from IsNew) a d
all_moves are_one from to IsNew a b c d named adds sync drops =
    added_twice (MayMove are_one from IsNew) a c d (link_sync_moves are_one from to IsNew a b c named adds sync) (drop_moves are_one from to IsNew c d named drops)

-- what is asked to give a file a second name: a link, and that name is taken away
pub link_adds : (are_one : List Asked → List ℕ → List ℕ → Type 0) (name : List ℕ) (IsNew : List ℕ → Type 0) (a b : List Asked) → Adds (MayLink name IsNew) a b → Adds (MayAdd are_one name IsNew) a b
link_adds are_one name IsNew a b adds = added_weaker (MayLink name IsNew) (MayAdd are_one name IsNew) (λ call before may. inl may) a b adds

pub drop_adds : (are_one : List Asked → List ℕ → List ℕ → Type 0) (name second : List ℕ) (IsNew : List ℕ → Type 0) (a b : List Asked) → IsNew second → Adds (MayDrop are_one name second) a b → Adds (MayAdd are_one name IsNew) a b
drop_adds are_one name second IsNew a b named adds = added_weaker (MayDrop are_one name second) (MayAdd are_one name IsNew) (λ call before may. inr (second, named, may)) a b adds

pub sync_adds : (are_one : List Asked → List ℕ → List ℕ → Type 0) (name second : List ℕ) (IsNew : List ℕ → Type 0) (a b : List Asked) → IsNew second → AddsSync second a b → Adds (MayAdd are_one name IsNew) a b
sync_adds are_one name second IsNew a b named sync = drop_adds are_one name second IsNew a b named (sync_dropped are_one name second a b sync)

pub link_sync_adds : (are_one : List Asked → List ℕ → List ℕ → Type 0) (name second : List ℕ) (IsNew : List ℕ → Type 0) (a b c : List Asked) → IsNew second → Adds (MayLink name IsNew) a b → AddsSync second b c → Adds (MayAdd are_one name IsNew) a c
link_sync_adds are_one name second IsNew a b c named adds sync =
    added_twice (MayAdd are_one name IsNew) a b c (link_adds are_one name IsNew a b adds) (sync_adds are_one name second IsNew b c named sync)

pub all_adds : (are_one : List Asked → List ℕ → List ℕ → Type 0) (name second : List ℕ) (IsNew : List ℕ → Type 0) (a b c d : List Asked) → IsNew second → Adds (MayLink name IsNew) a b → AddsSync second b c → Adds (MayDrop are_one name second) c d
    → Adds (MayAdd are_one name IsNew) a d
all_adds are_one name second IsNew a b c d named adds sync drops =
    added_twice (MayAdd are_one name IsNew) a c d (link_sync_adds are_one name second IsNew a b c named adds sync) (drop_adds are_one name second IsNew c d named drops)

-- a file that has another name
pub changed_is : (from to : List ℕ) (a b c d : List Asked) → HasLinked from to a b → AddsSync to b c → has_synced_name to c ≡ true → HasRemoved to from c d → IsChanged from to a d
changed_is from to a b c d linked sync synced removed = (
  removed_standing to from c d removed ∙ sync_keeps_standing to to b c sync ∙ linked_stands from to a b linked,
  removed_kept to from c d removed synced,
  removed_gone to from c d removed,
)

-- once that the old one is gone is on disk too
pub moved_is : (from to : List ℕ) (a b c : List Asked) → IsChanged from to a b → AddsSync from b c → has_synced_name from c ≡ true → IsMoved from to a c
moved_is from to a b c (stands, named, none) sync synced =
    (sync_keeps_standing from to b c sync ∙ stands, sync_keeps_names from to b c sync named, (sync_keeps_standing from from b c sync ∙ none, synced))

-- what was asked for that
pub change_sync_moves : (are_one : List Asked → List ℕ → List ℕ → Type 0) (from to : List ℕ) (IsNew : List ℕ → Type 0) (a b c : List Asked) → IsNew to → Adds (MayMove are_one from IsNew) a b → AddsSync from b c → Adds (MayMove are_one from IsNew) a c
change_sync_moves are_one from to IsNew a b c named moves sync =
    added_twice (MayMove are_one from IsNew) a b c moves (drop_moves are_one from to IsNew b c named (sync_dropped are_one to from b c sync))

either_way : (b : Bool) (x : Option ℕ) → (if b then x else x) ≡ x
either_way true x = refl
either_way false x = refl

-- a file that has a second name
pub second_is : (name second : List ℕ) (a b c : List Asked) → HasLinked name second a b → AddsSync second b c → has_synced_name second c ≡ true → IsSecond name second a c
second_is name second a b c (between, made, keeps, free) sync synced = (
  sync_keeps_standing second second b c sync ∙ linked_stands name second a b (between, made, keeps, free),
  sync_keeps_standing second name b c sync ∙ ap (standing name) made ∙ either_way (bytes_eq name second) (standing name between) ∙ keeps.stands name,
  synced,
)
