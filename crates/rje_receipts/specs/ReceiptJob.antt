-- The job that says a receipt (own profile).
use Rattle.std.specs.Prelude.{◌≡◌, ℕ, List, [], ◌∷◌, true}
use Rattle.rje_jobs.specs.Ascii.{ascii}
use Rattle.rje_jobs.specs.declared.job.Job.{Job}
use Rattle.rje_settle.specs.Receipt.{IsReceiptCard}
use Rattle.rje_settle.specs.declared.receipt.Receipt.{Receipt}
use Rattle.rje_text.specs.Records.{record_of_data}
use Rattle.rje_text.specs.declared.action.Action.TheVariants.{Plain}
use Rattle.rje_text.specs.declared.mode.Mode.TheVariants.{Normal}
use Rattle.rje_text.specs.declared.record.Record.{Record}
use Rattle.rje_text.specs.declared.select.Select.TheVariants.{Unset}

-- these records are one card, without carriage control, whose characters are those of the receipt's
abbrev pub IsReceiptRecord : List Record → Receipt → Type 0
IsReceiptRecord records r = (card : List ℕ) × (records ≡ record_of_data Plain card ∷ []) × IsReceiptCard (ascii card) r

-- the job says the receipt: it is whole, of its card alone, for no device, in normal text
pub record IsReceiptJob (job : Job) (r : Receipt) : Type 0 where
  pub whole : job.whole ≡ true
  pub device : job.select ≡ Unset
  pub mode : job.mode ≡ Normal
  pub card : IsReceiptRecord job.records r
