-- Which jobs can be sent (own profile).
use Rattle.std.specs.Prelude.{◌≡◌, ◌≤◌, true, List, length, None}
use Rattle.std.specs.List.{AllByRecursion}
use Rattle.rje_text.specs.declared.mode.Mode.{Mode}
use Rattle.rje_text.specs.declared.select.Select.{Select}
use Rattle.rje_text.specs.declared.record.Record.{Record}
use Rattle.rje_text.specs.PackFault.{pack_fault, RecordsFit}
use Rattle.rje_jobs.specs.declared.job.Job.{Job}

-- a job can be sent: it is whole, and its records can be sent in its selection and mode
pub record JobFits (job : Job) : Type 0 where
  pub whole : job.whole ≡ true
  pub records : RecordsFit job.select job.mode job.records

-- each of these records has room and can be sent; a private function's contract cites it
abbrev pub AreSent : Select → Mode → List Record → Type 0
AreSent select mode records =
    AllByRecursion (λ r. length r.bytes.items ≤ 144) records × AllByRecursion (λ r. pack_fault select mode r ≡ None) records
