use Rattle.std.proofs.Common.{◌≡◌, ◌<◌, ℕ, Some, if◌then◌else◌, nat_lt}
use Rattle.rje_day.specs.Ended.{disposition_of}
use Rattle.rje_session.specs.Account.{became}
use Rattle.rje_session.specs.Staying.{AreSettled, out_of_step}
use Rattle.rje_session.proofs.connection.doubt.Given as goal

abbrev pub invariant-loop-job : goal.invariant-loop-job
invariant-loop-job g l =
    g.S.Spool.discloses → AreSettled l.given l.ended (g.S.Spool.ledger l.initial.spool) → (job : ℕ) → job < l.given
    → became (g.S.Spool.ledger l.spool) job ≡ Some (if nat_lt job l.job then out_of_step (disposition_of l.ended job) else disposition_of l.ended job)
