-- A receiving station that goes on as long as its patience lasts.
use Rattle.std.proofs.Common.{◌≡◌, inl, inr, ℕ, ◌+◌, ◌<◌, Bool, true, false, [], ◌∷◌, length, Some, if◌then◌else◌, refl, ap, sym, ◌∙◌, arith}
use Rattle.bsc_link.specs.declared.sound.Sound.{Sound}
use Rattle.rje_station.specs.Receiving.{Receiving}
use Rattle.bsc_history.specs.declared.spoken_turn.SpokenTurn.{SpokenTurn}
use Rattle.bsc_history.specs.History.{History}
use Rattle.line_world.specs.AnyLines.{Turns}
use Rattle.line_world.proofs.TurnsOverLines.{arrival_is}
use Rattle.rje_session.specs.Stations.{LineTells}
use Rattle.rje_sockets.specs.declared.receive_end.ReceiveEnd.{ReceiveEnd}
use Rattle.rje_sockets.specs.OverLine.{ReceiverTurn}
use Rattle.rje_sockets.specs.Patience.{was_quiet, quiet_turns, WentOn, HearsOut}
use Rattle.rje_sockets.specs.Watching.{SawReceiver}

pub quiet_on : (sound : Sound) (n : ℕ) → elim sound [ Sound.Quiet ↦ n + 1 | _ ↦ 0 ] ≡ (if (elim sound [ Sound.Quiet ↦ true | _ ↦ false ]) then n + 1 else 0)
quiet_on Sound.Quiet n = refl
quiet_on _ n = refl

-- fewer than so many and one more, but not so many
pub below_most : (most now quiet : ℕ) (b : Bool) → now ≡ (if b then quiet + 1 else 0) → quiet < most → (now ≡ most → ⊥) → now < most
below_most most now quiet true e l n = omega (arith, e, l, n)
below_most most now quiet false e l n = omega (arith, e, l)

module _ {W : Type 0} (most : ℕ) (Saw : SawReceiver W) (was : Receiving × LineTells × W) where
  -- it took so many turns over a line, so many of the last of them quiet
  pub record HearsSoFar (n quiet : ℕ) (is : Receiving × LineTells × W) : Type 0 where
    pub history : History
    pub took : Turns (λ _. ReceiverTurn Saw) was history is
    pub long : length history ≡ n
    pub quiet_is : quiet_turns history ≡ quiet
    pub few : quiet < most
    pub went_on : WentOn most history

  pub hears_first : 0 < most → HearsSoFar 0 0 was
  hears_first some = record { history = []; took = refl; long = refl; quiet_is = refl; few = some; went_on = tt }

  module _ (n quiet : ℕ) (near : Receiving × LineTells × W) (p : HearsSoFar n quiet near) where
    pub hears_long : n ≡ 1000000000 → HearsOut most Saw ReceiveEnd.Abandoned was near
    hears_long e = (p.history, p.went_on, p.took, inr (p.long ∙ e))

    -- one more
    module _ (is : Receiving × LineTells × W) (x : (turn : SpokenTurn) × ReceiverTurn Saw near is turn) where
      abbrev history : History
      history = x.0 ∷ p.history

      one_more : Turns (λ _. ReceiverTurn Saw) was history is
      one_more = (near, p.took, x.1)

      quiet_now : quiet_turns history ≡ (if was_quiet is.0.arrival then quiet + 1 else 0)
      quiet_now =
          quiet_on x.0.arrived (quiet_turns p.history) ∙ ap (λ m. if was_quiet (Some (record { sound = x.0.arrived; refused = x.0.refused })) then m + 1 else 0) p.quiet_is
          ∙ ap (λ a. if was_quiet a then quiet + 1 else 0) (sym (arrival_is near.0 is.0 x.0 x.1.0))

      went_on : WentOn most history
      went_on = (omega (arith, p.quiet_is, p.few), p.went_on)

      pub hears_end : is.0.over ≡ true → HearsOut most Saw ReceiveEnd.Ended was is
      hears_end over = (history, went_on, one_more, over)

      pub hears_quiet : (now : ℕ) → now ≡ (if was_quiet is.0.arrival then quiet + 1 else 0) → now ≡ most → HearsOut most Saw ReceiveEnd.Abandoned was is
      hears_quiet now is_now all = (history, went_on, one_more, inl (quiet_now ∙ sym is_now ∙ all))

      pub hears_on : (now : ℕ) → now ≡ (if was_quiet is.0.arrival then quiet + 1 else 0) → (now ≡ most → ⊥) → HearsSoFar (n + 1) now is
      hears_on now is_now less = record {
        history = history;
        took = one_more;
        long = omega (arith, p.long);
        quiet_is = quiet_now ∙ sym is_now;
        few = below_most most now quiet (was_quiet is.0.arrival) is_now p.few less;
        went_on = went_on;
      }
