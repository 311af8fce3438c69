-- How a receiving station left a transmission over a line: after an end that it heard, or when its patience ended, after so many quiet hearings
-- in a row (own profile).
use Rattle.std.specs.Prelude.{◌≡◌, ◌==◌, ◌⊎◌, ◌<◌, ◌+◌, ℕ, Bool, true, false, if◌then◌else◌, [], ◌∷◌, length, Option, Some, None}
use Rattle.bsc_link.specs.declared.sound.Sound.{Sound}
use Rattle.bsc_history.specs.History.{History}
use Rattle.line_world.specs.AnyLines.{Turns}
use Rattle.rje_station.specs.declared.arrival.Arrival.{Arrival}
use Rattle.rje_station.specs.Receiving.{Receiving, after_abandon}
use Rattle.rje_session.specs.Stations.{LineTells}
use Rattle.rje_sockets.specs.declared.receive_end.ReceiveEnd.{ReceiveEnd}
use Rattle.rje_sockets.specs.OverLine.{ReceiverTurn}
use Rattle.rje_sockets.specs.Watching.{NobodySawReceiver, SawReceiver}

-- after how many quiet hearings in a row a station leaves that was told this number: with 0 after as many as it takes at all
abbrev pub most_quiet : ℕ → ℕ
most_quiet told = if told == 0 then 1000000000 else told

-- how many of the last turns brought nothing, without a break
abbrev pub quiet_turns : History → ℕ
quiet_turns [] = 0
quiet_turns (t ∷ past) = elim t.arrived [ Sound.Quiet ↦ quiet_turns past + 1 | _ ↦ 0 ]

-- the last hearing brought nothing
abbrev pub was_quiet : Option Arrival → Bool
was_quiet None = false
was_quiet (Some arrival) = elim arrival.sound [ Sound.Quiet ↦ true | _ ↦ false ]

-- it went on only as long as these were fewer than so many
abbrev pub WentOn : (most : ℕ) → History → Type 0
WentOn most [] = Unit {0}
WentOn most (t ∷ past) = (quiet_turns past < most) × WentOn most past

-- the station took some turns; and then the sender ended it, or so many quiet turns had come one after another, or a billion turns in all
abbrev pub HearsOut : {W : Type 0} → (most : ℕ) → SawReceiver W → ReceiveEnd → Receiving × LineTells × W → Receiving × LineTells × W → Type 0
HearsOut most Saw ReceiveEnd.Ended was is = (h : History) × WentOn most h × Turns (λ _. ReceiverTurn Saw) was h is × (is.0.over ≡ true)
HearsOut most Saw ReceiveEnd.Abandoned was is =
    (h : History) × WentOn most h × Turns (λ _. ReceiverTurn Saw) was h is × ((quiet_turns h ≡ most) ⊎ (length h ≡ 1000000000))

-- so, and in the second case the station was told to end
abbrev pub Leaves : {W : Type 0} → (most : ℕ) → SawReceiver W → ReceiveEnd → Receiving × LineTells × W → Receiving × LineTells × W → Type 0
Leaves most Saw ReceiveEnd.Ended was is = HearsOut most Saw ReceiveEnd.Ended was is
Leaves most Saw ReceiveEnd.Abandoned was (r', u, w) = (far : Receiving) × HearsOut most Saw ReceiveEnd.Abandoned was (far, u, w) × (r' ≡ after_abandon far)

-- over a line that nobody watches
abbrev pub LeavesSo : (most : ℕ) → ReceiveEnd → Receiving → LineTells → Receiving → LineTells → Type 0
LeavesSo most left r t r' u = Leaves most NobodySawReceiver left (r, t, tt) (r', u, tt)
