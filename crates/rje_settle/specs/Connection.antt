-- The receipts of one connection (own profile).
use Rattle.std.specs.Prelude.{◌≡◌, ◌≢◌, ◌⊎◌, Bool, true, false, if◌then◌else◌}
use Rattle.rje_settle.specs.declared.came.Came.{Came}
use Rattle.rje_settle.specs.declared.verdict.Verdict.{Verdict}

-- whether the station calls; what came first of the other end's; whether its last receipt agreed; whether its own is still to be said
pub record ConnectionState : Type 0 where
  pub calls : Bool
  pub came : Came
  pub agrees : Bool
  pub is_due : Bool

-- nothing came yet, and its own receipt is to be said
abbrev pub first_state : Bool → ConnectionState
first_state calls = record { calls = calls; came = Came.Nothing; agrees = false; is_due = true }

-- its own receipt is next: where it calls at once, else after one of the other end's
abbrev pub MustSay : ConnectionState → Type 0
MustSay c = (c.is_due ≡ true) × ((c.calls ≡ true) ⊎ (c.came ≡ Came.Receipt))

-- jobs are sent once a receipt came and agreed, and while its own isn't due
abbrev pub MaySend : ConnectionState → Type 0
MaySend c = (c.came ≡ Came.Receipt) × (c.agrees ≡ true) × (c.is_due ≡ false)

-- jobs count that come after a receipt
abbrev pub MayCount : ConnectionState → Type 0
MayCount c = c.came ≡ Came.Receipt

-- receipts are looked for where no job came first
abbrev pub MayLook : ConnectionState → Type 0
MayLook c = c.came ≢ Came.Job

abbrev pub after_saying : ConnectionState → ConnectionState
after_saying c = record c { is_due = false }

-- a verdict under which jobs may be sent
abbrev pub is_good : Verdict → Bool
is_good Verdict.DoesNotAgree = false
is_good _ = true

abbrev pub is_receipt : Came → Bool
is_receipt Came.Receipt = true
is_receipt _ = false

abbrev pub is_job : Came → Bool
is_job Came.Job = true
is_job _ = false

-- where a job came first, receipts aren't looked for
abbrev pub after_receipt : Verdict → ConnectionState → ConnectionState
after_receipt verdict c = if is_job c.came then c else record c { came = Came.Receipt; agrees = is_good verdict }

-- what is kept after a receipt is to be told; where a job came first, nothing counts on this connection
abbrev pub after_job : ConnectionState → ConnectionState
after_job c = if is_receipt c.came then record c { is_due = true } else record c { came = Came.Job }
