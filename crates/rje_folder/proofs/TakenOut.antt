-- A name in out/ that is taken away by way of a hidden one: the file keeps its other name, which stands for what it stood for and is on disk.
use Rattle.std.proofs.Common.{◌≡◌, ◌≢◌, ◌<◌, length, ℕ, inl, inr, List, [], ◌∷◌, ◌++◌, Bool, true, false, if◌then◌else◌, refl, sym, ◌∙◌, ap, subst}
use Rattle.std.specs.Prelude.{bytes_eq}
use Rattle.rje_store.specs.Disk.{Asked, Call, Done, Refused, Failed, Rename, Link, Remove, SyncFolder, call_of, standing, has_synced_name}
use Rattle.rje_store.specs.Replacing.{Adds, Each}
use Rattle.rje_store.specs.Inside.Filling.{AddsSync}
use Rattle.rje_store.proofs.Replacing.{added_twice, added_weaker, whatever_came}
use Rattle.rje_folder.specs.declared.file_identity.FileIdentity.{FileIdentity}
use Rattle.rje_folder.specs.declared.folder.Folder.{Folder}
use Rattle.rje_folder.specs.Folder.{path_in, path_of}
use Rattle.rje_folder.specs.Trying.{MayAddOf}
use Rattle.rje_folder.specs.FileNames.{IsNumbered}
use Rattle.rje_folder.specs.Moving.{IsGone, IsMoved, IsSecond, MayDrop, MayMove}
use Rattle.rje_folder.specs.Promising.{MayPutAside, OutFile}
use Rattle.rje_folder.specs.TakenName.{IsTakenName}
use Rattle.rje_folder.specs.TakingOut.{MayTakeBy, MayTakeOut}
use Rattle.rje_folder.proofs.Moved.{sync_moves}
use Rattle.rje_folder.proofs.Taken.{other_name}

-- a call leaves a name that is on disk there, and what stands under it, whatever comes of the call
abbrev pub Spares : (kept : List ℕ) → (before : List Asked) → Call → Type 0
Spares kept before c = (has_synced_name kept before ≡ true → (has_synced_name kept (Done c ∷ before) ≡ true) × (has_synced_name kept (Refused c ∷ before) ≡ true) × (has_synced_name kept (Failed c ∷ before) ≡ true))
    × (standing kept (Done c ∷ before) ≡ standing kept before) × (standing kept (Refused c ∷ before) ≡ standing kept before) × (standing kept (Failed c ∷ before) ≡ standing kept before)

chosen : (b x : Bool) → x ≡ true → (if b then true else x) ≡ true
chosen true x h = refl
chosen false x h = h

sync_spares : (kept path : List ℕ) (before : List Asked) → Spares kept before (SyncFolder path)
sync_spares kept path before = (λ h. (chosen (bytes_eq kept path) (has_synced_name kept before) h, chosen (bytes_eq kept path) (has_synced_name kept before) h, h), refl, refl, refl)

remove_spares : (kept name : List ℕ) (before : List Asked) → kept ≢ name → Spares kept before (Remove name)
remove_spares kept name before differ =
    let tested : bytes_eq kept name ≡ false = other_name kept name differ in
    (λ h. (rw tested h, rw tested h, rw tested h), rw tested refl, rw tested refl, rw tested refl)

link_spares : (kept from to : List ℕ) (before : List Asked) → kept ≢ to → Spares kept before (Link from to)
link_spares kept from to before differ =
    let tested : bytes_eq kept to ≡ false = other_name kept to differ in
    (λ h. (rw tested h, rw tested h, rw tested h), rw tested refl, refl, refl)

rename_spares : (kept from to : List ℕ) (before : List Asked) → kept ≢ from → kept ≢ to → Spares kept before (Rename from to)
rename_spares kept from to before differ also =
    let one : bytes_eq kept from ≡ false = other_name kept from differ in
    let two : bytes_eq kept to ≡ false = other_name kept to also in
    (λ h. (rw (one, two) h, rw (one, two) h, rw (one, two) h), rw (one, two) refl, rw (one, two) refl, rw (one, two) refl)

-- so does each call by way of a hidden name
drop_spares : (are_one : List Asked → List ℕ → List ℕ → Type 0) (kept other name : List ℕ) (call : Call) (before : List Asked) → kept ≢ name → MayDrop are_one other name call before → Spares kept before call
drop_spares are_one kept other name call before differ (inl e) = subst (Spares kept before) (sym e) (sync_spares kept other before)
drop_spares are_one kept other name call before differ (inr (inl e)) = subst (Spares kept before) (sym e) (sync_spares kept name before)
drop_spares are_one kept other name call before differ (inr (inr (e, spare))) = subst (Spares kept before) (sym e) (remove_spares kept name before differ)

spare_spares : (are_one : List Asked → List ℕ → List ℕ → Type 0) (kept name : List ℕ) (call : Call) (before : List Asked) → MayDrop are_one kept name call before → Spares kept before call
spare_spares are_one kept name call before (inl e) = subst (Spares kept before) (sym e) (sync_spares kept kept before)
spare_spares are_one kept name call before (inr (inl e)) = subst (Spares kept before) (sym e) (sync_spares kept name before)
spare_spares are_one kept name call before (inr (inr (e, (differ, one, synced)))) = subst (Spares kept before) (sym e) (remove_spares kept name before differ)

give_spares : (are_one : List Asked → List ℕ → List ℕ → Type 0) (kept shown hidden : List ℕ) (call : Call) (before : List Asked) → kept ≢ shown → kept ≢ hidden → MayMove are_one hidden (λ name. name ≡ shown) call before → Spares kept before call
give_spares are_one kept shown hidden call before differ also (inl (name, is, e)) =
    subst (Spares kept before) (sym e) (link_spares kept hidden name before (λ same. differ (same ∙ is)))
give_spares are_one kept shown hidden call before differ also (inr (name, is, may)) = drop_spares are_one kept name hidden call before also may

pub take_spares : (are_one : List Asked → List ℕ → List ℕ → Type 0) (shown hidden kept : List ℕ) (call : Call) (before : List Asked) → MayTakeBy are_one shown hidden kept call before → Spares kept before call
take_spares are_one shown hidden kept call before (differ, also, inl e) = subst (Spares kept before) (sym e) (rename_spares kept shown hidden before differ also)
take_spares are_one shown hidden kept call before (differ, also, inr (inl may)) = drop_spares are_one kept kept hidden call before also may
take_spares are_one shown hidden kept call before (differ, also, inr (inr may)) = give_spares are_one kept shown hidden call before differ also may

out_spares : (are_one : List Asked → List ℕ → List ℕ → Type 0) (station name kept : List ℕ) (call : Call) (before : List Asked) → MayTakeOut are_one station name kept call before → Spares kept before call
out_spares are_one station name kept call before (inl e) = subst (Spares kept before) (sym e) (sync_spares kept kept before)
out_spares are_one station name kept call before (inr (inl (hidden, taken, may))) = take_spares are_one (path_in station Folder.Out name) hidden kept call before may
out_spares are_one station name kept call before (inr (inr (long, may))) = spare_spares are_one kept (path_in station Folder.Out name) call before may

outs_leave : (are_one : List Asked → List ℕ → List ℕ → Type 0) (station name kept : List ℕ) (calls before : List Asked) → Each (MayTakeOut are_one station name kept) calls before → has_synced_name kept before ≡ true → has_synced_name kept (calls ++ before) ≡ true
outs_leave are_one station name kept [] before each h = h
outs_leave are_one station name kept (asked ∷ calls) before (one, each) h =
    let all = calls ++ before in
    let spares = out_spares are_one station name kept (call_of asked) all one in
    let parts = spares.0 (outs_leave are_one station name kept calls before each h) in
    whatever_came (λ x. has_synced_name kept (x ∷ all) ≡ true) asked parts.0 parts.1 parts.2

pub out_stays : (are_one : List Asked → List ℕ → List ℕ → Type 0) (station name kept : List ℕ) (a b : List Asked) → Adds (MayTakeOut are_one station name kept) a b → has_synced_name kept a ≡ true → has_synced_name kept b ≡ true
out_stays are_one station name kept a b (calls, e, each) h = ap (has_synced_name kept) e ∙ outs_leave are_one station name kept calls a each h

outs_keep : (are_one : List Asked → List ℕ → List ℕ → Type 0) (station name kept : List ℕ) (calls before : List Asked) → Each (MayTakeOut are_one station name kept) calls before → standing kept (calls ++ before) ≡ standing kept before
outs_keep are_one station name kept [] before each = refl
outs_keep are_one station name kept (asked ∷ calls) before (one, each) =
    let all = calls ++ before in
    let spares = out_spares are_one station name kept (call_of asked) all one in
    whatever_came (λ x. standing kept (x ∷ all) ≡ standing kept all) asked spares.1 spares.2 spares.3 ∙ outs_keep are_one station name kept calls before each

pub out_standing : (are_one : List Asked → List ℕ → List ℕ → Type 0) (station name kept : List ℕ) (a b : List Asked) → Adds (MayTakeOut are_one station name kept) a b → standing kept b ≡ standing kept a
out_standing are_one station name kept a b (calls, e, each) = ap (standing kept) e ∙ outs_keep are_one station name kept calls a each

-- what is asked by way of a hidden name, step by step
pub spare_takes : (are_one : List Asked → List ℕ → List ℕ → Type 0) (shown hidden kept : List ℕ) (a b : List Asked) → kept ≢ shown → kept ≢ hidden → Adds (MayDrop are_one kept hidden) a b → Adds (MayTakeBy are_one shown hidden kept) a b
spare_takes are_one shown hidden kept a b differ also adds =
    added_weaker (MayDrop are_one kept hidden) (MayTakeBy are_one shown hidden kept) (λ call before may. (differ, also, inr (inl may))) a b adds

pub give_takes : (are_one : List Asked → List ℕ → List ℕ → Type 0) (shown hidden kept : List ℕ) (a b : List Asked) → kept ≢ shown → kept ≢ hidden → Adds (MayMove are_one hidden (λ name. name ≡ shown)) a b → Adds (MayTakeBy are_one shown hidden kept) a b
give_takes are_one shown hidden kept a b differ also adds =
    added_weaker (MayMove are_one hidden (λ name. name ≡ shown)) (MayTakeBy are_one shown hidden kept) (λ call before may. (differ, also, inr (inr may))) a b adds

pub sync_takes : (are_one : List Asked → List ℕ → List ℕ → Type 0) (shown hidden kept : List ℕ) (a b : List Asked) → kept ≢ shown → kept ≢ hidden → AddsSync shown a b → Adds (MayTakeBy are_one shown hidden kept) a b
sync_takes are_one shown hidden kept a b differ also sync =
    give_takes are_one shown hidden kept a b differ also (sync_moves are_one hidden shown (λ name. name ≡ shown) a b refl sync)

-- and of a name in out/
pub takes_out : (are_one : List Asked → List ℕ → List ℕ → Type 0) (station name hidden kept : List ℕ) (a b : List Asked) → IsTakenName name hidden
    → Adds (MayTakeBy are_one (path_in station Folder.Out name) (path_in station Folder.Out hidden) kept) a b → Adds (MayTakeOut are_one station name kept) a b
takes_out are_one station name hidden kept a b named adds =
    let path = path_in station Folder.Out hidden in
    added_weaker (MayTakeBy are_one (path_in station Folder.Out name) path kept) (MayTakeOut are_one station name kept) (λ call before may. inr (inl (path, (hidden, named, refl), may))) a b adds

pub long_takes_out : (are_one : List Asked → List ℕ → List ℕ → Type 0) (station name kept : List ℕ) (a b : List Asked) → 237 < length name → Adds (MayDrop are_one kept (path_in station Folder.Out name)) a b → Adds (MayTakeOut are_one station name kept) a b
long_takes_out are_one station name kept a b long adds =
    added_weaker (MayDrop are_one kept (path_in station Folder.Out name)) (MayTakeOut are_one station name kept) (λ call before may. inr (inr (long, may))) a b adds

pub sync_takes_out : (are_one : List Asked → List ℕ → List ℕ → Type 0) (station name kept : List ℕ) (a b : List Asked) → AddsSync kept a b → Adds (MayTakeOut are_one station name kept) a b
sync_takes_out are_one station name kept a b (asked, made, call) = (asked ∷ [], made, (inl call, tt))

-- what is asked to put a file aside; and it is moved then
pub adds_aside : (is_file : List Asked → List ℕ → FileIdentity → Type 0) (are_one : List Asked → List ℕ → List ℕ → Type 0) (station : List ℕ) (out : OutFile) (a b : List Asked)
    → Adds (MayAddOf is_file are_one (record { folder = path_of station Folder.Refused; name = path_in station Folder.Out out.name; file = out.file }) (IsNumbered (path_in station Folder.Refused out.name))) a b
    → Adds (MayPutAside is_file are_one station out) a b
adds_aside is_file are_one station out a b adds = added_weaker
    (MayAddOf is_file are_one (record { folder = path_of station Folder.Refused; name = path_in station Folder.Out out.name; file = out.file }) (IsNumbered (path_in station Folder.Refused out.name)))
    (MayPutAside is_file are_one station out) (λ call before may. inl may) a b adds

pub takes_aside : (is_file : List Asked → List ℕ → FileIdentity → Type 0) (are_one : List Asked → List ℕ → List ℕ → Type 0) (station : List ℕ) (out : OutFile) (refused : List ℕ) (a b c : List Asked)
    → Adds (MayAddOf is_file are_one (record { folder = path_of station Folder.Refused; name = path_in station Folder.Out out.name; file = out.file }) (IsNumbered (path_in station Folder.Refused out.name))) a b
    → IsNumbered (path_in station Folder.Refused out.name) refused → Adds (MayTakeOut are_one station out.name refused) b c → Adds (MayPutAside is_file are_one station out) a c
takes_aside is_file are_one station out refused a b c adds named takes = added_twice (MayPutAside is_file are_one station out) a b c (adds_aside is_file are_one station out a b adds)
    (added_weaker (MayTakeOut are_one station out.name refused) (MayPutAside is_file are_one station out) (λ call before may. inr (refused, named, may)) b c takes)

pub aside_is : (are_one : List Asked → List ℕ → List ℕ → Type 0) (station name refused : List ℕ) (a b c : List Asked) → IsSecond (path_in station Folder.Out name) refused a b → Adds (MayTakeOut are_one station name refused) b c
    → IsGone (path_in station Folder.Out name) c → IsMoved (path_in station Folder.Out name) refused a c
aside_is are_one station name refused a b c second takes gone = (
  out_standing are_one station name refused b c takes ∙ second.0,
  out_stays are_one station name refused b c takes second.2,
  gone,
)
