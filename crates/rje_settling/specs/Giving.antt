-- What a transmission is given where doubt is settled by receipts (own profile).
use Rattle.std.specs.Prelude.{◌≡◌, ◌⊎◌, List, [], ◌∷◌}
use Rattle.rje_jobs.specs.declared.job.Job.{Job}
use Rattle.rje_receipts.specs.ReceiptJob.{IsReceiptJob}
use Rattle.rje_settle.specs.declared.receipt.Receipt.{Receipt}
use Rattle.rje_settle.specs.Connection.{ConnectionState, MaySend, MustSay}

-- the one job that says a receipt
abbrev pub IsJustReceipt : Receipt → List Job → Type 0
IsJustReceipt receipt jobs = (job : Job) × (jobs ≡ job ∷ []) × IsReceiptJob job receipt

-- A transmission is given the station's own receipt alone where that is next; jobs of files only where the other end's receipt came on this connection and
-- agreed; and else nothing.
abbrev pub IsGivenBy : ConnectionState → Receipt → List Job → Type 0
IsGivenBy c receipt jobs = (MustSay c → IsJustReceipt receipt jobs) × ((MustSay c → ⊥) → MaySend c ⊎ (jobs ≡ []))
