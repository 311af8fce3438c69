-- What is asked to put the file of a job in sent/.
use Rattle.std.proofs.Common.{ℕ, inl, inr, List, ◌∙◌}
use Rattle.rje_day.specs.declared.disposition.Disposition.{Disposition}
use Rattle.rje_store.specs.Disk.{Asked}
use Rattle.rje_store.specs.Replacing.{Adds}
use Rattle.rje_store.proofs.Replacing.{added_twice, added_weaker}
use Rattle.rje_folder.specs.declared.folder.Folder.{Folder}
use Rattle.rje_folder.specs.FileNames.{IsNumbered}
use Rattle.rje_folder.specs.Folder.{path_in}
use Rattle.rje_folder.specs.Moving.{MayMove}
use Rattle.rje_folder.specs.Promising.{IsSent, MaySettle}
use Rattle.rje_folder.specs.TakingOut.{MayTakeOut}
use Rattle.rje_folder.specs.Inside.Calls.{IsChanged}
use Rattle.rje_folder.proofs.TakenOut.{out_standing, out_stays}

pub move_settles : (are_one : List Asked → List ℕ → List ℕ → Type 0) (station name doubt : List ℕ) (a b : List Asked) → Adds (MayMove are_one doubt (IsNumbered (path_in station Folder.Sent name))) a b
    → Adds (MaySettle are_one station name doubt Disposition.Sent) a b
move_settles are_one station name doubt a b adds =
    added_weaker (MayMove are_one doubt (IsNumbered (path_in station Folder.Sent name))) (MaySettle are_one station name doubt Disposition.Sent) (λ call before may. inl may) a b adds

pub drop_settles : (are_one : List Asked → List ℕ → List ℕ → Type 0) (station name doubt sent : List ℕ) (a b c : List Asked) → Adds (MayMove are_one doubt (IsNumbered (path_in station Folder.Sent name))) a b
    → IsNumbered (path_in station Folder.Sent name) sent → Adds (MayTakeOut are_one station name sent) b c → Adds (MaySettle are_one station name doubt Disposition.Sent) a c
drop_settles are_one station name doubt sent a b c moves named drops = added_twice (MaySettle are_one station name doubt Disposition.Sent) a b c (move_settles are_one station name doubt a b moves)
    (added_weaker (MayTakeOut are_one station name sent) (MaySettle are_one station name doubt Disposition.Sent) (λ call before may. inr (sent, named, may)) b c drops)

-- the file is in sent/ then
pub sent_is : (are_one : List Asked → List ℕ → List ℕ → Type 0) (station name doubt sent : List ℕ) (a b c : List Asked) → IsChanged doubt sent a b → IsNumbered (path_in station Folder.Sent name) sent → Adds (MayTakeOut are_one station name sent) b c
    → IsSent station name doubt sent a c
sent_is are_one station name doubt sent a b c changed named drops = (
  named,
  out_standing are_one station name sent b c drops ∙ changed.0,
  out_stays are_one station name sent b c drops changed.1,
)
