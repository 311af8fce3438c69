-- How a receiving station broke off, and what is reported of it (own profile); no promise rests on it.
use Rattle.rje_store.specs.Store.{FileMap}
use Rattle.rje_sockets.specs.declared.job_writer.JobWriter.{JobWriter}
use Rattle.std.specs.Prelude.{Option, ℕ, Bool, ◌≡◌, ◌⊎◌}
use Rattle.rje_sockets.specs.declared.transfer_error.TransferError.{TransferError}
use Rattle.bsc_frame.specs.declared.heard.Heard.{Heard}
use Rattle.rje_station.specs.Receiving.{MayRefuse, Receiving, after_abandon, after_receiving, after_refusal}
use Rattle.bsc_link.specs.declared.wish.Wish.{Wish}
use Rattle.rje_station.specs.JoinedJobs.{begun_in}
use Rattle.rje_station.specs.Line.{one_more}
use Rattle.rje_sockets.specs.Answering.{Answered}
use Rattle.rje_sockets.specs.Inside.Keeping.{GoesOnKeeping}
use Rattle.rje_commands.specs.declared.command_fault.CommandFault.{CommandFault}
use Rattle.rje_commands.specs.CommandFault.{of_station}

-- what a receiving station changes beside itself: what its keeper keeps, how many transmissions its line has begun, and the files
abbrev pub KeptSoFar : Type 0
KeptSoFar = JobWriter × ℕ × Option FileMap

-- It broke off in this turn. A job couldn't be kept, or the line failed as it listened: it replied to nothing, and no more is kept. Or the line
-- failed as it replied, and what came is kept.
abbrev pub BreaksOffNow : (r r' : Receiving) → (was is : KeptSoFar) → TransferError → Type 0
BreaksOffNow r r' (k, sent, f) (k', sent', g) (TransferError.File fault) =
    (what : Heard) × (refused : Bool) × MayRefuse what (begun_in r.jobs) refused × (r' ≡ after_abandon (after_receiving r what refused Wish.Go))
    × (sent' ≡ sent) × GoesOnKeeping k k' r.jobs r.jobs f g
BreaksOffNow r r' (k, sent, f) (k', sent', g) (TransferError.Line fault) =
    ((r' ≡ after_refusal fault r) × (sent' ≡ sent) × GoesOnKeeping k k' r.jobs r.jobs f g)
    ⊎ ((what : Heard) × (refused : Bool) × MayRefuse what (begun_in r.jobs) refused × (r' ≡ after_refusal fault (after_receiving r what refused Wish.Go))
    × (sent' ≡ one_more sent) × GoesOnKeeping k k' r.jobs r'.jobs f g)

-- it took some turns, in which what came whole was kept, and then it broke off
pub record BreaksOff (r r' : Receiving) (was is : KeptSoFar) (broken : TransferError) : Type 0 where
  pub far : Receiving
  pub mid : KeptSoFar
  pub answered : Answered r far was.1 mid.1
  pub kept : GoesOnKeeping was.0 mid.0 r.jobs far.jobs was.2 mid.2
  pub breaks : BreaksOffNow far r' mid is broken

-- the fault of the line, or of the file
abbrev pub of_broken_off : TransferError → CommandFault
of_broken_off (TransferError.Line fault) = of_station fault
of_broken_off (TransferError.File fault) = fault
