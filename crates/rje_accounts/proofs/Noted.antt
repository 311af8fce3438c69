-- A count that is noted: call after call.
use Rattle.std.proofs.Common.{◌≡◌, ◌≢◌, inl, inr, ℕ, List, [], ◌∷◌, length, Some, Result, true, false, refl, sym, ◌∙◌, ap, subst}
use Rattle.std.specs.Prelude.{bytes_eq}
use Rattle.std.specs.declared.io.Error.{Error}
use Rattle.rje_store.specs.declared.new_access.NewAccess.{NewAccess}
use Rattle.rje_store.specs.Disk.{Asked, Call, Done, Refused, Failed, Create, Open, call_of, standing, has_synced_name, seen_as, IsOpened}
use Rattle.rje_store.specs.Replacing.{Adds}
use Rattle.rje_store.specs.Inside.Filling.{AddsSync}
use Rattle.rje_store.proofs.Replacing.{added_call, added_none, new_name, same_name, whatever_came}
use Rattle.rje_folder.proofs.Taken.{other_name, sync_keeps_standing}
use Rattle.rje_settle.specs.declared.settle_name.SettleName.{SettleName}
use Rattle.rje_accounts.specs.Inside.Calls.{IsRemovalBeside}
use Rattle.rje_accounts.specs.Noting.{IsNoted, MayDropOlder, MayMakeAgain, is_older}
use Rattle.rje_accounts.specs.Paths.{settle_path}

-- a file that was made, or opened, and whose name was put on disk
pub made_noted : (path : List ℕ) (a b c : List Asked) → b ≡ Done (Create NewAccess.Private path) ∷ a → AddsSync path b c → has_synced_name path c ≡ true → IsNoted path c
made_noted path a b c made sync synced =
    ((length a, sync_keeps_standing path path b c sync ∙ ap (standing path) made ∙ new_name NewAccess.Private path a), synced)

pub opened_noted : (path bytes : List ℕ) (a b c : List Asked) → b ≡ Done (Open path bytes) ∷ a → AddsSync path b c → has_synced_name path c ≡ true → IsNoted path c
opened_noted path bytes a b c made sync synced =
    ((seen_as path a, sync_keeps_standing path path b c sync ∙ ap (standing path) made ∙ rw (same_name path) refl), synced)

-- to take another name away leaves it so
pub removal_keeps : (name kept : List ℕ) (a b : List Asked) → IsRemovalBeside name kept a b → IsNoted kept a → IsNoted kept b
removal_keeps name kept a b (inl e) noted = subst (IsNoted kept) (sym e) noted
removal_keeps name kept a b (inr (differ, (asked, made, call))) ((number, stands), synced) =
    let no : bytes_eq kept name ≡ false = other_name kept name differ in
    let Keeps : Call → Type 0 = λ c. IsNoted kept (Done c ∷ a) × IsNoted kept (Refused c ∷ a) × IsNoted kept (Failed c ∷ a) in
    let parts : Keeps (call_of asked) = subst Keeps (sym call) (((number, rw no stands), rw no synced), ((number, rw no stands), rw no synced), ((number, rw no stands), rw no synced)) in
    subst (IsNoted kept) (sym made) (whatever_came (λ x. IsNoted kept (x ∷ a)) asked parts.0 parts.1 parts.2)

-- and is what may be asked after that, where it tells fewer jobs
pub removal_drops : (station : List ℕ) (older noted : SettleName) (a b : List Asked) → is_older older noted ≡ true → IsNoted (settle_path station noted) a
    → IsRemovalBeside (settle_path station older) (settle_path station noted) a b → Adds (MayDropOlder station noted) a b
removal_drops station older noted a b old is (inl e) = subst (λ (l : List Asked). Adds (MayDropOlder station noted) a l) (sym e) (added_none (MayDropOlder station noted) a)
removal_drops station older noted a b old is (inr (differ, (asked, made, call))) = (asked ∷ [], made, ((older, old, call, is), tt))

-- a file that is there is opened
pub opened_again : {A : Type 0} (result : Result A Error) (path : List ℕ) (a b : List Asked) → IsOpened result path a b → Adds (MayMakeAgain path) a b
opened_again result path a b (bytes, e, had) = added_call (MayMakeAgain path) a a b result (Open path bytes) (added_none (MayMakeAgain path) a) e (inr (bytes, refl))
