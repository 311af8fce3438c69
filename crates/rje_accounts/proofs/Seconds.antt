-- A file that gets a second name, and a name that is taken away: call after call.
use Rattle.std.proofs.Common.{◌≡◌, ◌≢◌, ℕ, List, ◌∷◌, None, Result, true, get_or, arith, refl, sym, ◌∙◌, ap, subst}
use Rattle.std.proofs.lemmas.List.{append_cancel_left}
use Rattle.std.specs.declared.io.Error.{Error}
use Rattle.rje_store.specs.Disk.{Asked, Call, Done, Refused, Failed, Link, Remove, Rename, call_of, came_to, standing, has_synced_name}
use Rattle.rje_store.specs.Inside.Filling.{AddsSync}
use Rattle.rje_store.proofs.Replacing.{call_came, same_name, whatever_came}
use Rattle.rje_folder.specs.Moving.{IsGone, IsSecond}
use Rattle.rje_folder.specs.declared.folder.Folder.{Folder}
use Rattle.rje_folder.specs.Folder.{path_in}
use Rattle.rje_folder.proofs.Taken.{other_name, sync_keeps_standing}
use Rattle.rje_settle.specs.declared.settle_name.SettleName.{SettleName}
use Rattle.rje_accounts.specs.Inside.Calls.{IsNamed}
use Rattle.rje_accounts.specs.Paths.{settle_path, tried_path}

-- a file that was tried, and then has a second name, on disk
pub tried_is : (name tried second : List ℕ) (a b c : List Asked) → name ≢ tried → name ≢ second → b ≡ Done (Link name tried) ∷ a → IsNamed tried second b c → IsSecond name second a c
tried_is name tried second a b c apart also made (sync, synced) =
    let renamed = Done (Rename tried second) ∷ b in (
      sync_keeps_standing second second renamed c sync ∙ rw (same_name second) refl ∙ ap (standing tried) made ∙ rw (same_name tried) refl,
      sync_keeps_standing second name renamed c sync ∙ rw (other_name name second also) (rw (other_name name tried apart) refl) ∙ ap (standing name) made ∙ rw (other_name name tried apart) refl,
      synced,
    )

-- to take this name away was asked
abbrev pub IsRemoval : List ℕ → Call → List Asked → Type 0
IsRemoval name call before = call ≡ Remove name

-- a name that was to be taken away leaves the others as they are, whatever came of it
pub removed_others : {A : Type 0} (result : Result A Error) (name other : List ℕ) (a b : List Asked) → name ≢ other → b ≡ came_to result (Remove other) ∷ a → standing name b ≡ standing name a
removed_others result name other a b apart made =
    let asked = came_to result (Remove other) in
    let Stays : Call → Type 0 = λ c. (standing name (Done c ∷ a) ≡ standing name a) × (standing name (Refused c ∷ a) ≡ standing name a) × (standing name (Failed c ∷ a) ≡ standing name a) in
    let parts : Stays (call_of asked) = subst Stays (sym (call_came result (Remove other))) (rw (other_name name other apart) refl, rw (other_name name other apart) refl, rw (other_name name other apart) refl) in
    ap (standing name) made ∙ whatever_came (λ x. standing name (x ∷ a) ≡ standing name a) asked parts.0 parts.1 parts.2

-- what stood under a name before that
pub second_since : (name second : List ℕ) (a b c : List Asked) → standing name b ≡ standing name a → IsSecond name second b c → IsSecond name second a c
second_since name second a b c same (second_is, stays, synced) = (second_is ∙ same, stays ∙ same, synced)

-- a name in out/ is none in settle/
pub out_is_not_settle : (station name : List ℕ) (s : SettleName) → path_in station Folder.Out name ≢ settle_path station s
out_is_not_settle station name s e =
    let g : 111 ≡ 115 = ap (λ (l : List ℕ). get_or l 1 0) (append_cancel_left station _ _ e) in
    omega (arith, g)

pub out_is_not_tried : (station name : List ℕ) → path_in station Folder.Out name ≢ tried_path station
out_is_not_tried station name e =
    let g : 111 ≡ 115 = ap (λ (l : List ℕ). get_or l 1 0) (append_cancel_left station _ _ e) in
    omega (arith, g)

-- a name that was to be taken away stands for nothing, whatever came of it
pub removed_none : {A : Type 0} (result : Result A Error) (name : List ℕ) (a b : List Asked) → b ≡ came_to result (Remove name) ∷ a → standing name b ≡ None
removed_none result name a b made =
    let asked = came_to result (Remove name) in
    let None_after : Call → Type 0 = λ c. (standing name (Done c ∷ a) ≡ None) × (standing name (Refused c ∷ a) ≡ None) × (standing name (Failed c ∷ a) ≡ None) in
    let parts : None_after (call_of asked) = subst None_after (sym (call_came result (Remove name))) (rw (same_name name) refl, rw (same_name name) refl, rw (same_name name) refl) in
    ap (standing name) made ∙ whatever_came (λ x. standing name (x ∷ a) ≡ None) asked parts.0 parts.1 parts.2

pub removed_gone : {A : Type 0} (result : Result A Error) (name : List ℕ) (a b c : List Asked) → b ≡ came_to result (Remove name) ∷ a → AddsSync name b c → has_synced_name name c ≡ true → IsGone name c
removed_gone result name a b c made sync synced = (sync_keeps_standing name name b c sync ∙ removed_none result name a b made, synced)
