-- The turns so far of a station that sends and receives go on by each turn.
use Rattle.std.proofs.Common.{◌≡◌, ◌⊎◌, inl, inr, ℕ, ◌+◌, ◌<◌, Bool, true, false, [], ◌∷◌, List, length, Option, Some, Result, Ok, Err, IfErr, if◌then◌else◌, refl, ap, sym, subst, ◌∙◌, arith}
use Rattle.std.specs.Result.{IsErrAnd}
use Rattle.line_world.proofs.TurnsOverLines.{turns_as}
use Rattle.rje_session.specs.Stations.{HeardAndReplied, LineTells, SpokeAndHeard, TakesOthers, TakesOwn}
use Rattle.rje_sockets.proofs.Patience.{below_most, quiet_on}
use Rattle.bsc_link.specs.declared.rank.Rank.{Rank}
use Rattle.bsc_link.specs.declared.reply.Reply.{Reply}
use Rattle.bsc_link.specs.declared.say.Say.{Say}
use Rattle.bsc_link.specs.declared.sound.Sound.{Sound}
use Rattle.rje_station.specs.declared.arrival.Arrival.{Arrival}
use Rattle.rje_station.specs.Station.{Contending, due_at, after_other_ended, after_other_refusal}
use Rattle.rje_station.specs.declared.line_fault.LineFault.TheVariants.{Closed}
use Rattle.rje_station.specs.declared.station_fault.StationFault.TheVariants as fault
use Rattle.rje_sockets.specs.declared.transfer_error.TransferError.{TransferError}
use Rattle.rje_sockets.specs.declared.receive_end.ReceiveEnd.{ReceiveEnd}
use Rattle.rje_sockets.specs.BothWays.{AreOver, ExchangesTo, Fails, FailsInOthers, IsNext, NextTurn, Others, Own, StationTurn, TakesTurnsTo, Took, TookOver, TurnOver, Waits, has_listened, quiet_in_a_row}
use Rattle.rje_sockets.specs.Patience.{was_quiet}
use Rattle.rje_sockets.specs.Watching.{NobodySawReceiver, NobodySawSender, SawReceiver, SawSender}

-- THE TURNS SO FAR

-- after its own turn it is as at first, and after the other's it has listened
own_listened : (rank : Rank) (said : Say) (heard : Sound) (past : List StationTurn) → has_listened rank [] ≡ has_listened rank (Own said heard ∷ past)
own_listened Rank.Primary said heard past = refl
own_listened Rank.Secondary said heard past = refl

others_listened : (rank : Rank) (arrival : Arrival) (reply : Option Reply) (past : List StationTurn) → true ≡ has_listened rank (Others arrival reply ∷ past)
others_listened Rank.Primary arrival reply past = refl
others_listened Rank.Secondary arrival reply past = refl

module _ {W : Type 0} (most : ℕ) (Sent : SawSender W) (Came : SawReceiver W) (was : Contending × LineTells × W) where
  -- whoever watches, these turns were taken
  pub took_turns : (turns : List StationTurn) (is : Contending × LineTells × W) → TookOver Sent Came was turns is → Took was.0.contender.rank was.0 turns is.0
  took_turns turns is took =
      turns_as _ (NextTurn was.0.contender.rank) (λ a. a.0) (λ past a b x turn. (turn.0, turn.1.0)) was turns is took

  -- it took so many turns, so many of the last of them the other's and quiet; and whether it has listened since
  pub record SoFar (n quiet : ℕ) (listened : Bool) (is : Contending × LineTells × W) : Type 0 where
    pub turns : List StationTurn
    pub took : TookOver Sent Came was turns is
    pub long : length turns ≡ n
    pub quiet_is : quiet_in_a_row turns ≡ quiet
    pub few : quiet < most
    pub listened_is : listened ≡ has_listened was.0.contender.rank turns

  pub so_first : 0 < most → (listened : Bool) → listened ≡ has_listened was.0.contender.rank [] → SoFar 0 0 listened was
  so_first some listened is = record { turns = []; took = refl; long = refl; quiet_is = refl; few = some; listened_is = is }

  module _ (n quiet : ℕ) (listened : Bool) (near : Contending × LineTells × W) (p : SoFar n quiet listened near) where
    pub took : Took was.0.contender.rank was.0 p.turns near.0
    took = took_turns p.turns near p.took

    pub so_own : (is : Contending × LineTells × W) (now : Bool) → now ≡ has_listened was.0.contender.rank [] → (due_at near.0 ≡ Say.Bid → (listened ≡ true) ⊎ (near.0.receiver.over ≡ true))
        → ((said : Say) × (heard : Sound) × TakesOwn near.0 is.0 said heard × SpokeAndHeard near.0.sender.rest near.1 is.1 said heard × Sent near.2 is.2 said heard) → SoFar (n + 1) 0 now is
    so_own is now first bids (said, heard, takes, passed, saw) = record {
      turns = Own said heard ∷ p.turns;
      took = (near, p.took, (subst (λ (b : Bool). due_at near.0 ≡ Say.Bid → (b ≡ true) ⊎ (near.0.receiver.over ≡ true)) p.listened_is bids, (takes, passed, saw)));
      long = omega (arith, p.long);
      quiet_is = refl;
      few = omega (arith, p.few);
      listened_is = first ∙ own_listened was.0.contender.rank said heard p.turns;
    }

    -- the other's turn
    module _ (is : Contending × LineTells × W) where
      abbrev CameNow : Type 0
      CameNow = (arrival : Arrival) × (reply : Option Reply) × (takes : TakesOthers near.0 is.0 arrival reply) × HeardAndReplied takes.what near.1 is.1 reply × Came near.2 is.2 arrival reply
          × (is.0.receiver.arrival ≡ Some arrival)

      abbrev Listens : Bool → Type 0
      Listens b = (due_at near.0 ≡ Say.Nothing) ⊎ ((due_at near.0 ≡ Say.Bid) × (b ≡ false))

      abbrev with_others : CameNow → List StationTurn
      with_others (arrival, reply, takes, passed, saw, came) = Others arrival reply ∷ p.turns

      others_took : Listens listened → (c : CameNow) → TookOver Sent Came was (with_others c) is
      others_took next (arrival, reply, takes, passed, saw, came) = (near, p.took, (subst Listens p.listened_is next, (takes, passed, saw)))

      others_quiet : (c : CameNow) → quiet_in_a_row (with_others c) ≡ (if was_quiet is.0.receiver.arrival then quiet + 1 else 0)
      others_quiet (arrival, reply, takes, passed, saw, came) =
          quiet_on arrival.sound (quiet_in_a_row p.turns) ∙ ap (λ (m : ℕ). if was_quiet (Some arrival) then m + 1 else 0) p.quiet_is
          ∙ ap (λ (a : Option Arrival). if was_quiet a then quiet + 1 else 0) (sym came)

      others_long : (c : CameNow) → length (with_others c) ≡ n + 1
      others_long (arrival, reply, takes, passed, saw, came) = omega (arith, p.long)

      others_heard : (c : CameNow) → true ≡ has_listened was.0.contender.rank (with_others c)
      others_heard (arrival, reply, takes, passed, saw, came) = others_listened was.0.contender.rank arrival reply p.turns

      pub so_others : (now : ℕ) → Listens listened → CameNow → now ≡ (if was_quiet is.0.receiver.arrival then quiet + 1 else 0) → (now ≡ most → ⊥) → SoFar (n + 1) now true is
      so_others now next c is_now not = record {
        turns = with_others c;
        took = others_took next c;
        long = others_long c;
        quiet_is = others_quiet c ∙ sym is_now;
        few = below_most most now quiet (was_quiet is.0.receiver.arrival) is_now p.few not;
        listened_is = others_heard c;
      }

      -- it gave up hope
      pub all_quiet : (now : ℕ) (left : Contending) → Listens listened → CameNow → now ≡ (if was_quiet is.0.receiver.arrival then quiet + 1 else 0) → now ≡ most → left ≡ after_other_ended is.0
          → TakesTurnsTo most Sent Came ReceiveEnd.Abandoned was (left, is.1, is.2)
      all_quiet now left next c is_now all ended = (with_others c, is.0, others_took next c, inl (others_quiet c ∙ sym is_now ∙ all, ended))

    -- HOW IT ENDS

    pub ends_over : AreOver near.0 → TakesTurnsTo most Sent Came ReceiveEnd.Ended was near
    ends_over over = (p.turns, near.0, near.1, p.took, inl (over, refl, refl))

    pub ends_hung_up : (s' : Contending) (u : LineTells) (w' : W) → w' ≡ near.2 → Waits near.0 → s' ≡ after_other_refusal (fault.Line Closed) near.0
        → TakesTurnsTo most Sent Came ReceiveEnd.Ended was (s', u, w')
    ends_hung_up s' u w' same waits is =
        (p.turns, near.0, near.1, subst (λ (w : W). TookOver Sent Came was p.turns (near.0, near.1, w)) (sym same) p.took, inr (waits, is))

    pub ends_long : n ≡ 1000000000 → TakesTurnsTo most Sent Came ReceiveEnd.Abandoned was near
    ends_long e = (p.turns, near.0, p.took, inr (p.long ∙ e, refl))

-- whoever watches, they end so
turns_unseen : {W : Type 0} (Sent : SawSender W) (Came : SawReceiver W) (s s' : Contending) (t u : LineTells) (w w' : W) (turns : List StationTurn)
    → TookOver Sent Came (s, t, w) turns (s', u, w') → TookOver NobodySawSender NobodySawReceiver (s, t, tt) turns (s', u, tt)
turns_unseen Sent Came s s' t u w w' turns took =
    turns_as _ _ (λ a. (a.0, a.1, tt)) unseen (s, t, w) turns (s', u, w') took where
      unseen : (past : List StationTurn) (a b : Contending × LineTells × _) (x : StationTurn) → IsNext s.contender.rank past a.0 x × TurnOver Sent Came a b x
          → IsNext s.contender.rank past a.0 x × TurnOver NobodySawSender NobodySawReceiver (a.0, a.1, tt) (b.0, b.1, tt) x
      unseen past a b (Own said heard) (next, (takes, passed, saw)) = (next, (takes, passed, tt))
      unseen past a b (Others arrival reply) (next, (takes, passed, saw)) = (next, (takes, passed, tt))

pub exchanges_unseen : {W : Type 0} (most : ℕ) (Sent : SawSender W) (Came : SawReceiver W) (left : ReceiveEnd) (s s' : Contending) (t u : LineTells) (w w' : W)
    → TakesTurnsTo most Sent Came left (s, t, w) (s', u, w') → ExchangesTo most left s t s' u
exchanges_unseen most Sent Came ReceiveEnd.Ended s s' t u w w' (turns, near, mid, took, ends) = (turns, near, mid, turns_unseen Sent Came s near t mid w w' turns took, ends)
exchanges_unseen most Sent Came ReceiveEnd.Abandoned s s' t u w w' (turns, near, took, ends) = (turns, near, turns_unseen Sent Came s near t u w w' turns took, ends)

pub fails_as : {X : Type 0} (r : Result X TransferError) (broken : TransferError) (P : TransferError → Type 0) → IsErrAnd r (λ b. b ≡ broken) → P broken → IfErr r P
fails_as (Err b) broken P is holds = subst P (sym is) holds
fails_as (Ok x) broken P is holds = absurd is

pub others_fail : (near s' : Contending) (broken : TransferError) → FailsInOthers near s' broken → Fails near s' broken
others_fail near s' (TransferError.Line fault) fails = inr fails
others_fail near s' (TransferError.File fault) fails = fails
