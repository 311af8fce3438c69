-- What the fields of a transmission in hand mean.
use Rattle.std.specs.Prelude.{◌≡◌, false}
use Rattle.rje_session.specs.declared.in_hand.InHand.TheInside.{Inside}
use Rattle.rje_session.specs.Keeping.{AreKept}
use Rattle.rje_session.specs.Outstanding.{BeginsAt}
use Rattle.rje_session.specs.Turns.{Carried}

-- what they stand for
abbrev pub carried_in : Inside → Carried
carried_in a = record { station = a.station; may_have_come = a.may_have_come; kept = a.kept; answered = a.answered; broken = a.broken }

-- the outstanding block begins at the place kept, and as long as the station hears the other one, all jobs that came whole are kept
pub record IsInHand (a : Inside) : Type 0 where
  pub begins : BeginsAt a.station.sender a.from
  pub kept : a.station.receiver.over ≡ false → AreKept a.kept a.station.receiver.jobs
