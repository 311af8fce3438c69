-- The headline over a connection: what its two ends go through is what faithful turns make of them. Own profile.
use Rattle.std.specs.Prelude.{◌≡◌, ℕ, Bool, false, List, []}
use Rattle.std.specs.List.{AllByRecursion}
use Rattle.bsc_history.specs.History.{History}
use Rattle.rje_answers.specs.Awaiting.{has_answer}
use Rattle.rje_answers.specs.Law.{kept_of}
use Rattle.rje_jobs.specs.declared.job.Job.{Job}
use Rattle.rje_jobs.specs.Fitting.{JobFits}
use Rattle.rje_station.specs.Receiving.{Receiving, first_receiving}
use Rattle.rje_station.specs.Sending.{Sending, first_sending}
use Rattle.line_world.specs.AnyLines.{AreFaithful, ReceiverTook, SenderTook}
use Rattle.connection_world.specs.Connection.{AtReceiver, AtSender, IsOverConnection, told}

-- a sending station, but for what it has noted of its steps
abbrev pub but_for_notes : Sending → Sending
but_for_notes s = record s { trace = [] }

-- Turns of two new stations, in each of which the line keeps the headline's premises, that leave the sending one where s stands (but
-- for what it notes; while it awaits an answer, only with as many jobs counted), and the receiving one where r does.
pub record FaithfulTurns (jobs : List Job) (awaits : Bool) (s : Sending) (r : Receiving) : Type 0 where
  pub turns : History
  pub near : Sending
  pub far : Receiving
  pub sent : SenderTook (first_sending jobs) turns near
  pub received : ReceiverTook first_receiving turns far
  pub faithful : AreFaithful (first_sending jobs) near first_receiving far turns sent received
  pub sending : awaits ≡ false → but_for_notes near ≡ but_for_notes s
  pub counted : near.counted ≡ s.counted
  pub receiving : far.core ≡ r.core
  pub jobs_are : far.jobs ≡ r.jobs

-- over a connection there are such turns at each moment
abbrev pub TakeFaithfulTurns : Type 0
TakeFaithfulTurns =
    (jobs : List Job) (gives_way : Bool) (near : List AtSender) (s : Sending) (far : List AtReceiver) (r : Receiving)
    → IsOverConnection jobs gives_way near s far r → FaithfulTurns jobs (has_answer (kept_of gives_way (told near)).said) s r

-- a connection over which two new stations come to stand so
pub record OneConnection (jobs : List Job) (gives_way : Bool) (s : Sending) (r : Receiving) : Type 0 where
  pub near : List AtSender
  pub far : List AtReceiver
  pub connected : IsOverConnection jobs gives_way near s far r

-- and whatever faithful turns do, a connection may do too
abbrev pub MayBeConnections : Type 0
MayBeConnections =
    (jobs : List Job) (gives_way : Bool) (h : History) (s : Sending) (r : Receiving) (sent : SenderTook (first_sending jobs) h s) (received : ReceiverTook first_receiving h r)
    → AreFaithful (first_sending jobs) s first_receiving r h sent received → OneConnection jobs gives_way s r

-- the headline over a connection: of jobs that can be sent the sending station counts the first n, and these the receiving one hands out
abbrev pub OverConnections : (ℕ → List Job → List Job → Type 0) → Type 0
OverConnections Holds =
    (jobs : List Job) (gives_way : Bool) (near : List AtSender) (s : Sending) (far : List AtReceiver) (r : Receiving)
    → AllByRecursion JobFits jobs → IsOverConnection jobs gives_way near s far r → Holds s.counted jobs r.jobs
