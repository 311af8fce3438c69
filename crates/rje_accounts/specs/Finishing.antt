-- What becomes of a job that came, when a station begins (own profile).
use Rattle.std.specs.Prelude.{◌⊎◌, ◌<◌, ◌≤◌, ℕ, List}
use Rattle.rje_store.specs.Disk.{Asked, Call}
use Rattle.rje_settle.specs.declared.receipt.Receipt.{Receipt}
use Rattle.rje_settle.specs.declared.settle_name.SettleName.{SettleName}
use Rattle.rje_accounts.specs.BringingIn.{MayBringIn}
use Rattle.rje_accounts.specs.Paths.{settle_path}
use Rattle.rje_accounts.specs.Promising.{MayTakeAway}

-- what may be asked of the job of a number, where so much is kept: to bring it in, if it was kept, and else to take it away
abbrev pub MayFinish : (List Asked → List ℕ → List ℕ → Type 0) → (station stamp : List ℕ) → Receipt → (number : ℕ) → Call → List Asked → Type 0
MayFinish are_one station stamp kept number call before = ((number ≤ kept.kept) × MayBringIn are_one station number stamp call before)
    ⊎ ((kept.kept < number) × MayTakeAway (settle_path station (SettleName.Come number)) call before)
