-- What passes over a line that tells its bytes, in a station's turn and in all of them, and what a watch beside it sees: each turn that was
-- taken, once and in order, and nothing else (own profile). Of a line that doesn't tell its bytes nothing is said here.
use Rattle.std.specs.Prelude.{◌≡◌, false, ℕ, List, Option, Some, None, map}
use Rattle.bsc_history.specs.History.{History}
use Rattle.bsc_history.specs.declared.spoken_turn.SpokenTurn.{SpokenTurn}
use Rattle.bsc_link.specs.declared.wish.Wish.{Wish}
use Rattle.line_world.specs.AnyLines.{BothTake, IsThrough, ReceiverTakes, SenderTakes, Turns, unhindered}
use Rattle.line_world.specs.declared.spoken.Spoken.{Spoken}
use Rattle.rje_station.specs.Receiving.{Receiving}
use Rattle.rje_station.specs.Sending.{Sending}
use Rattle.rje_session.specs.Stations.{HeardAndReplied, LineTells, SpokeAndHeard}
use Rattle.rje_store.specs.Store.{FileMap}
use Rattle.rje_sockets.specs.Watching.{NobodySawSender, SawBoth, SawEnd, SawReceiver, SawSender}

-- what a command over a line changes: what the line tells, the files, and what is printed
abbrev pub Outside : Type 0
Outside = LineTells × Option FileMap × Option (List ℕ)

-- a sending station took a turn, in which it didn't ask to wait; the line sent and gave so, and the watch saw just that
abbrev pub SenderTurn : {W : Type 0} → SawSender W → Sending × LineTells × W → Sending × LineTells × W → SpokenTurn → Type 0
SenderTurn Saw (s, t, w) (s', u, w') x =
    SenderTakes s s' x × (x.pause ≡ false) × SpokeAndHeard s.rest t u x.said x.heard × Saw w w' x.said x.heard

-- it took some turns to its end
abbrev pub Sends : {W : Type 0} → SawSender W → Sending × LineTells × W → Sending × LineTells × W → Type 0
Sends Saw was is = (h : History) × Turns (λ _. SenderTurn Saw) was h is × IsThrough is.0 h

-- and then the watch saw that it was the end
pub record SendsOut {W : Type 0} (Saw : SawSender W) (End : SawEnd W) (was is : Sending × LineTells × W) : Type 0 where
  pub seen : W
  pub sends : Sends Saw was (is.0, is.1, seen)
  pub end : End seen is.2

-- over a line that nobody watches
abbrev pub SendsOver : Sending → LineTells → Sending → LineTells → Type 0
SendsOver s t s' u = Sends NobodySawSender (s, t, tt) (s', u, tt)

-- a receiving station took a turn, in which it didn't ask to wait; the line gave and sent so, and the watch saw just that
abbrev pub ReceiverTurn : {W : Type 0} → SawReceiver W → Receiving × LineTells × W → Receiving × LineTells × W → SpokenTurn → Type 0
ReceiverTurn Saw (r, t, w) (r', u, w') x =
    (takes : ReceiverTakes r r' x) × (x.wish ≡ Wish.Go) × HeardAndReplied takes.what t u x.reply × Saw w w' (record { sound = x.arrived; refused = x.refused }) x.reply

-- both took a turn, and the watch saw just that
abbrev pub BothTurn : {W : Type 0} → SawBoth W → Sending × Receiving × W → Sending × Receiving × W → Spoken → Type 0
BothTurn Saw (s, r, w) (s', r', w') x = BothTake (Some x) s s' r r' × Saw w w' x

-- both took the same turns to the end
abbrev pub BothTook : {W : Type 0} → SawBoth W → Sending × Receiving × W → Sending × Receiving × W → Type 0
BothTook Saw was is = (turns : List Spoken) × Turns (λ _. BothTurn Saw) was turns is × IsThrough is.0 (map unhindered turns)

-- and then the watch saw that it was the end
pub record BothTookOut {W : Type 0} (Saw : SawBoth W) (End : SawEnd W) (was is : Sending × Receiving × W) : Type 0 where
  pub seen : W
  pub took : BothTook Saw was (is.0, is.1, seen)
  pub end : End seen is.2

-- over a new connection, which tells no bytes, and on which nothing was transmitted before
abbrev pub OverConnection : (LineTells → LineTells → Type 0) → Type 0
OverConnection Holds = (n : ℕ) × Holds (None, 0) (None, n)
