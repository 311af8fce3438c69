-- All turns of a sending station over a line that tells its bytes, and when a station still listens or owes a reply.
use Rattle.std.proofs.Common.{◌≡◌, inl, inr, ℕ, ◌+◌, ◌-◌, ◌^◌, Bool, true, false, ◌∷◌, length, None, Result, Ok, Err, IfOk, ap, sym, ◌∙◌, arith, subst}
use Rattle.bsc_frame.specs.declared.heard.Heard.{Heard}
use Rattle.bsc_history.specs.declared.spoken_turn.SpokenTurn.{SpokenTurn}
use Rattle.bsc_history.specs.History.{History}
use Rattle.bsc_link.specs.declared.say.Say.{Say}
use Rattle.bsc_link.specs.declared.wish.Wish.{Wish}
use Rattle.bsc_link.specs.Sender.{say_in}
use Rattle.line_world.specs.AnyLines.{SenderFails, SenderTook, SendsToFault, Turns}
use Rattle.line_world.proofs.Calm.{ended_owes}
use Rattle.rje_station.specs.declared.station_fault.StationFault.{StationFault}
use Rattle.rje_station.specs.Receiving.{Receiving, after_receiving, sound_taken}
use Rattle.rje_station.specs.Sending.{Sending, after_speaking, is_end}
use Rattle.rje_session.specs.Stations.{LineTells}
use Rattle.rje_sockets.specs.OverLine.{OverConnection, SenderTurn, Sends}
use Rattle.rje_sockets.specs.Watching.{SawSender}
use Rattle.rje_sockets.proofs.Watched.{sender_took}

-- a station that listens after it spoke didn't say EOT
pub said_more : (s near : Sending) (said : Say) → said ≡ say_in s.core.place → near ≡ after_speaking s → near.over ≡ false → is_end said ≡ false
said_more s near said is spoke listens = ap is_end is ∙ sym (ap (λ (x : Sending). x.over) spoke) ∙ listens

-- a receiving station that is over after what it heard owes no reply
pub over_owes : (r heard : Receiving) (what : Heard) (refused : Bool) → heard ≡ after_receiving r what refused Wish.Go → heard.over ≡ true → heard.due ≡ None
over_owes r heard what refused is over =
    ap (λ (x : Receiving). x.due) is ∙ ended_owes r.core (sound_taken what refused) Wish.Go (sym (ap (λ (x : Receiving). x.over) is) ∙ over)

-- ALL TURNS of a sending station

-- it took so many
abbrev pub SendsSoFar : {W : Type 0} → SawSender W → Sending × LineTells × W → ℕ → Sending × LineTells × W → Type 0
SendsSoFar Saw was n is = (h : History) × Turns (λ _. SenderTurn Saw) was h is × (length h ≡ n)

module _ {W : Type 0} (Saw : SawSender W) (was : Sending × LineTells × W) (n : ℕ) (near : Sending × LineTells × W) (p : SendsSoFar Saw was n near) where
  pub so_far_took : (h : History) × SenderTook was.0 h near.0
  so_far_took = (p.0, sender_took Saw was near p.0 p.1)

  -- one more
  pub sends_on : (is : Sending × LineTells × W) → ((x : SpokenTurn) × SenderTurn Saw near is x) → SendsSoFar Saw was (n + 1) is
  sends_on is (x, turn) = (x ∷ p.0, (near, p.1, turn), omega (arith, p.2))

  pub sends_over : near.0.over ≡ true → Sends Saw was near
  sends_over over = (p.0, p.1, inl over)

  pub sends_long : n ≡ 2 ^ 64 - 1 → Sends Saw was near
  sends_long e = (p.0, p.1, inr (p.2 ∙ e))

  pub sends_fault : (s' : Sending) (fault : StationFault) → SenderFails near.0 s' fault → SendsToFault was.0 s' fault
  sends_fault s' fault fails = (p.0, near.0, sender_took Saw was near p.0 p.1, fails)

-- over a connection
pub over_connection : {X E : Type 0} (r : Result X E) (Holds : LineTells → LineTells → X → Type 0) (m n : ℕ) → m ≡ 0 → IfOk r (Holds (None, m) (None, n)) → IfOk r (λ x. OverConnection (λ t u. Holds t u x))
over_connection (Ok x) Holds m n new holds = (n, subst (λ (k : ℕ). Holds (None, k) (None, n) x) new holds)
over_connection (Err e) Holds m n new holds = tt
