-- What is asked to have the folder of a station: call after call.
use Rattle.std.proofs.Common.{◌≡◌, ℕ, inl, inr, List, [], ◌∷◌, true}
use Rattle.rje_store.specs.Disk.{Asked, Call, has_synced_name}
use Rattle.rje_store.specs.Replacing.{Adds}
use Rattle.rje_store.specs.Inside.Filling.{AddsSync}
use Rattle.rje_store.proofs.Replacing.{added_weaker}
use Rattle.rje_folder.specs.declared.folder.Folder.{Folder}
use Rattle.rje_folder.specs.Folder.{path_of}
use Rattle.rje_folder.specs.Promising.{MayClear, MayOpen, MayTidy, WasOnDisk}

-- the names of its folders are put on disk
pub sync_opens : (are_one : List Asked → List ℕ → List ℕ → Type 0) (station : List ℕ) (a b : List Asked) → AddsSync (path_of station Folder.Out) a b → Adds (MayOpen are_one station) a b
sync_opens are_one station a b (asked, made, call) = (asked ∷ [], made, (inr (inr (inr call)), tt))

-- they are cleared, and tidied up
pub clear_opens : (are_one : List Asked → List ℕ → List ℕ → Type 0) (station : List ℕ) (a b : List Asked) → Adds (MayClear station) a b → Adds (MayOpen are_one station) a b
clear_opens are_one station a b adds = added_weaker (MayClear station) (MayOpen are_one station) (λ call before clear. inr (inl clear)) a b adds

pub tidy_opens : (are_one : List Asked → List ℕ → List ℕ → Type 0) (station : List ℕ) (a b : List Asked) → Adds (MayTidy are_one station) a b → Adds (MayOpen are_one station) a b
tidy_opens are_one station a b adds = added_weaker (MayTidy are_one station) (MayOpen are_one station) (λ call before tidy. inr (inr (inl tidy))) a b adds

-- what is on disk was so, whatever is asked after that
pub was_on_disk : (P : Call → List Asked → Type 0) (name : List ℕ) (a b : List Asked) → has_synced_name name a ≡ true → Adds P a b → WasOnDisk name b
was_on_disk P name a b synced (calls, made, each) = (a, calls, made, synced)
