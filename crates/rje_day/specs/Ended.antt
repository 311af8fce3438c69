-- What becomes of the jobs of a transmission, by how it ended (own profile).
use Rattle.std.specs.Prelude.{ℕ, ◌==◌, Bool, true, false, nat_lt, if◌then◌else◌}
use Rattle.rje_day.specs.declared.disposition.Disposition.{Disposition}
use Rattle.rje_day.specs.declared.ended.Ended.{Ended}

-- The first jobs, as many as were counted, are sent; where it ended in doubt the next one is in doubt; the others lie ready still. Jobs are
-- numbered from 0.
abbrev pub disposition_of : Ended → (job : ℕ) → Disposition
disposition_of Ended.Done job = Disposition.Sent
disposition_of (Ended.Early counted) job = if nat_lt job counted then Disposition.Sent else Disposition.Ready
disposition_of (Ended.InDoubt counted) job =
    if nat_lt job counted then Disposition.Sent else (if job == counted then Disposition.InDoubt else Disposition.Ready)

-- whatever was counted, or is in doubt, the other end had answered
abbrev pub was_answered : Ended → Bool
was_answered Ended.Done = true
was_answered (Ended.Early counted) = nat_lt 0 counted
was_answered (Ended.InDoubt counted) = true

abbrev pub all_counted : Ended → Bool
all_counted Ended.Done = true
all_counted _ = false
