-- A job that is brought in: call after call.
use Rattle.std.proofs.Common.{◌≡◌, ◌≢◌, inl, inr, ℕ, List, ◌∷◌, ◌++◌, get_or, true, refl, ◌∙◌, ap, arith}
use Rattle.std.specs.Prelude.{codes}
use Rattle.std.proofs.lemmas.List.{append_cancel_left}
use Rattle.rje_store.specs.Disk.{Asked, Done, Rename, standing, has_synced_name}
use Rattle.rje_store.specs.Inside.Filling.{AddsSync}
use Rattle.rje_store.proofs.Replacing.{same_name}
use Rattle.rje_folder.specs.Moving.{IsMoved}
use Rattle.rje_folder.proofs.Taken.{other_name, sync_keeps_names, sync_keeps_standing}
use Rattle.rje_settle.specs.declared.settle_name.SettleName.{SettleName}
use Rattle.rje_accounts.specs.Paths.{in_path, settle_path}

-- a file that was renamed, and both names put on disk
pub renamed_is : (from to : List ℕ) (a b c d : List Asked) → from ≢ to → b ≡ Done (Rename from to) ∷ a → AddsSync to b c → has_synced_name to c ≡ true → AddsSync from c d → has_synced_name from d ≡ true
    → IsMoved from to a d
renamed_is from to a b c d differ made first first_synced second second_synced = (
  sync_keeps_standing from to c d second ∙ sync_keeps_standing to to b c first ∙ ap (standing to) made ∙ rw (same_name to) refl,
  sync_keeps_names from to c d second first_synced,
  (sync_keeps_standing from from c d second ∙ sync_keeps_standing to from b c first ∙ ap (standing from) made ∙ rw (other_name from to differ) (rw (same_name from) refl), second_synced),
)

-- a name in settle/ is none in in/
pub settle_is_not_in : (station stamp : List ℕ) (number : ℕ) (name : SettleName) → settle_path station name ≢ in_path station stamp number
settle_is_not_in station stamp number name e =
    let g : 115 ≡ 105 = ap (λ (l : List ℕ). get_or l 1 0) (append_cancel_left station _ _ e) in
    omega (arith, g)
