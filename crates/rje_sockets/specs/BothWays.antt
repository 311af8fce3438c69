-- A station that sends and receives over one line, whatever that does: turn by turn, and how it ends (own profile).
use Rattle.std.specs.Prelude.{◌≡◌, ◌⊎◌, ◌+◌, ℕ, Bool, true, false, List, [], ◌∷◌, length, Option}
use Rattle.bsc_frame.specs.declared.heard.Heard.{Heard}
use Rattle.bsc_link.specs.declared.rank.Rank.{Rank}
use Rattle.bsc_link.specs.declared.reply.Reply.{Reply}
use Rattle.bsc_link.specs.declared.say.Say.{Say}
use Rattle.bsc_link.specs.declared.sound.Sound.{Sound}
use Rattle.bsc_link.specs.declared.wish.Wish.{Wish}
use Rattle.line_world.specs.AnyLines.{Turns}
use Rattle.rje_station.specs.declared.arrival.Arrival.{Arrival}
use Rattle.rje_station.specs.JoinedJobs.{begun_in}
use Rattle.rje_station.specs.Receiving.{MayRefuse}
use Rattle.rje_station.specs.Station.{Contending, due_at, is_receiving, after_other, after_other_ended, after_other_refusal}
use Rattle.rje_station.specs.declared.line_fault.LineFault.TheVariants.{Closed}
use Rattle.rje_station.specs.declared.station_fault.StationFault.TheVariants as fault
use Rattle.rje_session.specs.Stations.{FailsInOwn, HeardAndReplied, LineTells, SpokeAndHeard, TakesOthers, TakesOwn}
use Rattle.rje_sockets.specs.declared.transfer_error.TransferError.{TransferError}
use Rattle.rje_sockets.specs.declared.receive_end.ReceiveEnd.{ReceiveEnd}
use Rattle.rje_sockets.specs.Watching.{NobodySawReceiver, NobodySawSender, SawReceiver, SawSender}

-- a turn: its own, of what it said and heard; or the other's, of what came and what it replied
pub data StationTurn : Type 0 where
  Own : Say → Sound → StationTurn
  Others : Arrival → Option Reply → StationTurn

abbrev pub Takes : Contending → Contending → StationTurn → Type 0
Takes s s' (Own said heard) = TakesOwn s s' said heard
Takes s s' (Others arrival reply) = TakesOthers s s' arrival reply

-- whether it has listened since it spoke: a primary needn't
abbrev pub has_listened : Rank → List StationTurn → Bool
has_listened Rank.Primary past = true
has_listened Rank.Secondary [] = false
has_listened Rank.Secondary (Own said heard ∷ past) = false
has_listened Rank.Secondary (Others arrival reply ∷ past) = true

-- Who is next: the station speaks where something is due, but that it bids only where it has listened, or where there is nothing to hear any
-- more; else it listens.
abbrev pub IsNext : Rank → List StationTurn → Contending → StationTurn → Type 0
IsNext rank past s (Own said heard) = due_at s ≡ Say.Bid → (has_listened rank past ≡ true) ⊎ (s.receiver.over ≡ true)
IsNext rank past s (Others arrival reply) = (due_at s ≡ Say.Nothing) ⊎ ((due_at s ≡ Say.Bid) × (has_listened rank past ≡ false))

-- it was to take this turn next, and took it
abbrev pub NextTurn : Rank → List StationTurn → Contending → Contending → StationTurn → Type 0
NextTurn rank past s s' t = IsNext rank past s t × Takes s s' t

-- it took these turns, the newest first
abbrev pub Took : Rank → Contending → List StationTurn → Contending → Type 0
Took rank = Turns (NextTurn rank)

-- how many of the last turns were the other's and brought nothing, without a break
abbrev pub quiet_in_a_row : List StationTurn → ℕ
quiet_in_a_row [] = 0
quiet_in_a_row (Own said heard ∷ past) = 0
quiet_in_a_row (Others arrival reply ∷ past) = elim arrival.sound [ Sound.Quiet ↦ quiet_in_a_row past + 1 | _ ↦ 0 ]

-- both transmissions are over
pub record AreOver (s : Contending) : Type 0 where
  pub own : due_at s ≡ Say.Nothing
  pub others : s.receiver.over ≡ true

-- it waits: nothing is due of its own, and the other has begun nothing that isn't over
pub record Waits (s : Contending) : Type 0 where
  pub own : due_at s ≡ Say.Nothing
  pub others : is_receiving s.contender.place ≡ false

-- what the line did in a turn: it sent what was said and replied, and gave what was heard
abbrev pub PassedIn : (s s' : Contending) → (t : StationTurn) → Takes s s' t → (was is : LineTells) → Type 0
PassedIn s s' (Own said heard) takes was is = SpokeAndHeard s.sender.rest was is said heard
PassedIn s s' (Others arrival reply) takes was is = HeardAndReplied takes.what was is reply

-- what a watch saw of it
abbrev pub SawTurn : {W : Type 0} → SawSender W → SawReceiver W → (was is : W) → StationTurn → Type 0
SawTurn Sent Came was is (Own said heard) = Sent was is said heard
SawTurn Sent Came was is (Others arrival reply) = Came was is arrival reply

-- it took a turn; the line did so, and the watch saw just that
abbrev pub TurnOver : {W : Type 0} → SawSender W → SawReceiver W → Contending × LineTells × W → Contending × LineTells × W → StationTurn → Type 0
TurnOver Sent Came (s, t, w) (s', u, w') x = (takes : Takes s s' x) × PassedIn s s' x takes t u × SawTurn Sent Came w w' x

-- it took these turns so, each in its order, the newest first
abbrev pub TookOver : {W : Type 0} → SawSender W → SawReceiver W → Contending × LineTells × W → List StationTurn → Contending × LineTells × W → Type 0
TookOver Sent Came was = Turns (λ past a b x. IsNext was.0.contender.rank past a.0 x × TurnOver Sent Came a b x) was

-- it took some turns so, until both transmissions were over, or the other hung up for which it waited; or until so many of the other's turns
-- in a row brought nothing, or a billion turns were taken in all
abbrev pub TakesTurnsTo : {W : Type 0} → (most : ℕ) → SawSender W → SawReceiver W → ReceiveEnd → Contending × LineTells × W → Contending × LineTells × W → Type 0
TakesTurnsTo most Sent Came ReceiveEnd.Ended was (s', u, w') =
    (turns : List StationTurn) × (near : Contending) × (mid : LineTells) × TookOver Sent Came was turns (near, mid, w')
    × ((AreOver near × (s' ≡ near) × (u ≡ mid)) ⊎ (Waits near × (s' ≡ after_other_refusal (fault.Line Closed) near)))
TakesTurnsTo most Sent Came ReceiveEnd.Abandoned was (s', u, w') =
    (turns : List StationTurn) × (near : Contending) × TookOver Sent Came was turns (near, u, w')
    × (((quiet_in_a_row turns ≡ most) × (s' ≡ after_other_ended near)) ⊎ ((length turns ≡ 1000000000) × (s' ≡ near)))

-- over a line that nobody watches
abbrev pub ExchangesTo : (most : ℕ) → ReceiveEnd → Contending → LineTells → Contending → LineTells → Type 0
ExchangesTo most left s t s' u = TakesTurnsTo most NobodySawSender NobodySawReceiver left (s, t, tt) (s', u, tt)

-- a fault ended the other's turn: one of the line, as it listened, or as it replied; or a job couldn't be kept, and it left without a reply
abbrev pub FailsInOthers : Contending → Contending → TransferError → Type 0
FailsInOthers s s' (TransferError.Line fault) =
    (s' ≡ after_other_refusal fault s)
    ⊎ ((what : Heard) × (refused : Bool) × MayRefuse what (begun_in s.receiver.jobs) refused × (s' ≡ after_other_refusal fault (after_other s what refused Wish.Go)))
FailsInOthers s s' (TransferError.File fault) =
    (what : Heard) × (refused : Bool) × MayRefuse what (begun_in s.receiver.jobs) refused × (s' ≡ after_other_ended (after_other s what refused Wish.Go))

-- either
abbrev pub Fails : Contending → Contending → TransferError → Type 0
Fails s s' (TransferError.Line fault) = FailsInOwn s s' fault ⊎ FailsInOthers s s' (TransferError.Line fault)
Fails s s' (TransferError.File fault) = FailsInOthers s s' (TransferError.File fault)

-- it left as it was, after it gave up the other's transmission, or when the other hung up
abbrev pub LeavesFrom : Contending → Contending → Type 0
LeavesFrom near s = (s ≡ near) ⊎ ((s ≡ after_other_ended near) ⊎ (s ≡ after_other_refusal (fault.Line Closed) near))
