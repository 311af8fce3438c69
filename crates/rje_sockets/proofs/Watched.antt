-- What a station's calls did is a turn that its watch saw; and whoever watches, the turns are the same.
use Rattle.std.proofs.Common.{◌≡◌, inl, ℕ, Bool, true, false, List, [], ◌∷◌, map, Option, Some, refl, ap, sym, ◌∙◌, subst}
use Rattle.bsc_frame.specs.declared.heard.Heard.{Heard}
use Rattle.bsc_link.specs.declared.reply.Reply.{Reply}
use Rattle.bsc_link.specs.declared.say.Say.{Say}
use Rattle.bsc_link.specs.declared.sound.Sound.{Sound}
use Rattle.bsc_link.specs.declared.wish.Wish.{Wish}
use Rattle.bsc_link.specs.Sender.{say_in}
use Rattle.bsc_history.specs.declared.spoken_turn.SpokenTurn.{SpokenTurn}
use Rattle.bsc_history.specs.History.{History}
use Rattle.rje_station.specs.declared.arrival.Arrival.{Arrival}
use Rattle.rje_station.specs.declared.station_fault.StationFault.{StationFault}
use Rattle.rje_station.specs.Hearing.{sound_heard}
use Rattle.rje_station.specs.JoinedJobs.{begun_in}
use Rattle.rje_station.specs.Receiving.{Receiving, MayRefuse, after_receiving, after_replying}
use Rattle.rje_station.specs.Sending.{Sending, after_speaking, after_hearing, is_end}
use Rattle.line_world.specs.AnyLines.{BothFail, BothToEnd, BothToFault, ReceiverTakes, ReceiverTook, SenderTakes, SenderTook, Turns, unhindered}
use Rattle.line_world.specs.declared.spoken.Spoken.{Spoken}
use Rattle.line_world.proofs.TurnsOverLines.{arrived_turn, heard_turn, hears, no_end, turns_as}
use Rattle.rje_session.specs.Stations.{HeardAndReplied, LineTells, SpokeAndHeard}
use Rattle.rje_sockets.specs.declared.receive_end.ReceiveEnd.{ReceiveEnd}
use Rattle.rje_sockets.specs.OverLine.{BothTook, BothTookOut, BothTurn, ReceiverTurn, SenderTurn, Sends, SendsOut, SendsOver}
use Rattle.rje_sockets.specs.Patience.{Leaves, LeavesSo}
use Rattle.rje_sockets.specs.Watching.{NobodySawReceiver, NobodySawSender, SawBoth, SawEnd, SawReceiver, SawSender}

-- it said EOT
pub end_turn : {W : Type 0} (Saw : SawSender W) (s s' : Sending) (t u : LineTells) (w w' : W) → s.over ≡ false → say_in s.core.place ≡ Say.End → s' ≡ after_speaking s
    → SpokeAndHeard s.rest t u Say.End Sound.Quiet → Saw w w' Say.End Sound.Quiet → (x : SpokenTurn) × SenderTurn Saw (s, t, w) (s', u, w') x
end_turn Saw s s' t u w w' live end e passed saw =
    (heard_turn Say.End Sound.Quiet, (record { live = live; said = sym end; done = λ x. refl; state = e }, refl, passed, saw))

-- it said something else, and heard this
pub more_turn : {W : Type 0} (Saw : SawSender W) (s near s' : Sending) (t u : LineTells) (w w' : W) (said : Say) (heard : Sound) → said ≡ say_in s.core.place → s.over ≡ false
    → near ≡ after_speaking s → near.over ≡ false → s' ≡ after_hearing near heard false → SpokeAndHeard s.rest t u said heard → Saw w w' said heard
    → (x : SpokenTurn) × SenderTurn Saw (s, t, w) (s', u, w') x
more_turn Saw s near s' t u w w' said heard is live spoke listens e passed saw =
    let say = say_in s.core.place in
    let more : is_end say ≡ false = sym (ap (λ x. x.over) spoke) ∙ listens in (
      heard_turn say heard,
      (
        record { live = live; said = refl; done = λ end. absurd (no_end say more end); state = e ∙ ap (λ x. after_hearing x heard false) spoke ∙ sym (hears say s heard more) },
        refl,
        subst (λ x. SpokeAndHeard s.rest t u x heard) is passed,
        subst (λ x. Saw w w' x heard) is saw,
      ),
    )

-- what a receiving station says of a hearing is what came
seen_as : {W : Type 0} (Saw : SawReceiver W) (r heard : Receiving) (t u : LineTells) (w w' : W) (what : Heard) (refused : Bool) (arrival : Arrival) (reply : Option Reply)
    → heard ≡ after_receiving r what refused Wish.Go → Some arrival ≡ heard.arrival → reply ≡ heard.due → HeardAndReplied what t u reply → Saw w w' arrival reply
    → HeardAndReplied what t u (after_receiving r what refused Wish.Go).due × Saw w w' (record { sound = sound_heard what; refused = refused }) (after_receiving r what refused Wish.Go).due
seen_as Saw r heard t u w w' what refused arrival reply is came due passed saw =
    let same : Some arrival ≡ Some (record { sound = sound_heard what; refused = refused }) = came ∙ ap (λ (x : Receiving). x.arrival) is in
    let named : arrival ≡ record { sound = sound_heard what; refused = refused } = cc in
    subst (λ y. HeardAndReplied what t u y × Saw w w' (record { sound = sound_heard what; refused = refused }) y) (due ∙ ap (λ (x : Receiving). x.due) is)
    (passed, subst (λ x. Saw w w' x reply) named saw)

-- it replied
pub reply_turn : {W : Type 0} (Saw : SawReceiver W) (r heard r' : Receiving) (t u : LineTells) (w w' : W) (what : Heard) (refused : Bool) (arrival : Arrival) (reply : Option Reply)
    → MayRefuse what (begun_in r.jobs) refused → heard ≡ after_receiving r what refused Wish.Go → r' ≡ after_replying heard → Some arrival ≡ heard.arrival
    → reply ≡ heard.due → HeardAndReplied what t u reply → Saw w w' arrival reply → (x : SpokenTurn) × ReceiverTurn Saw (r, t, w) (r', u, w') x
reply_turn Saw r heard r' t u w w' what refused arrival reply may is state came due passed saw =
    let seen = seen_as Saw r heard t u w w' what refused arrival reply is came due passed saw in
    (arrived_turn Say.Bid r what refused, (record { what = what; arrived = refl; may = may; reply = refl; state = state ∙ ap after_replying is }, refl, seen.0, seen.1))

-- it was over
pub last_turn : {W : Type 0} (Saw : SawReceiver W) (r heard r' : Receiving) (t u : LineTells) (w w' : W) (what : Heard) (refused : Bool) (arrival : Arrival) (reply : Option Reply)
    → MayRefuse what (begun_in r.jobs) refused → heard ≡ after_receiving r what refused Wish.Go → r' ≡ heard → Some arrival ≡ heard.arrival
    → reply ≡ heard.due → HeardAndReplied what t u reply → Saw w w' arrival reply → (x : SpokenTurn) × ReceiverTurn Saw (r, t, w) (r', u, w') x
last_turn Saw r heard r' t u w w' what refused arrival reply may is state came due passed saw =
    let seen = seen_as Saw r heard t u w w' what refused arrival reply is came due passed saw in
    (arrived_turn Say.End r what refused, (record { what = what; arrived = refl; may = may; reply = refl; state = state ∙ is }, refl, seen.0, seen.1))

-- WHOEVER WATCHES, the same turns were taken

pub sender_took : {W : Type 0} (Saw : SawSender W) (was is : Sending × LineTells × W) (h : History) → Turns (λ _. SenderTurn Saw) was h is → SenderTook was.0 h is.0
sender_took Saw was is h took = turns_as (λ _. SenderTurn Saw) (λ _. SenderTakes) (λ a. a.0) (λ past a b x turn. turn.0) was h is took

pub sends_unseen : {W : Type 0} (Saw : SawSender W) (s s' : Sending) (t u : LineTells) (w w' : W) → Sends Saw (s, t, w) (s', u, w') → SendsOver s t s' u
sends_unseen Saw s s' t u w w' (h, took, through) =
    (h, turns_as (λ _. SenderTurn Saw) (λ _. SenderTurn NobodySawSender) (λ a. (a.0, a.1, tt)) (λ past a b x turn. (turn.0, turn.1, turn.2, tt)) (s, t, w) h (s', u, w') took, through)

pub out_unseen : {W : Type 0} (Saw : SawSender W) (End : SawEnd W) (s s' : Sending) (t u : LineTells) (w w' : W) → SendsOut Saw End (s, t, w) (s', u, w') → SendsOver s t s' u
out_unseen Saw End s s' t u w w' out = sends_unseen Saw s s' t u w out.seen out.sends

pub receiver_took : {W : Type 0} (Saw : SawReceiver W) (was is : Receiving × LineTells × W) (h : History) → Turns (λ _. ReceiverTurn Saw) was h is → ReceiverTook was.0 h is.0
receiver_took Saw was is h took = turns_as (λ _. ReceiverTurn Saw) (λ _. ReceiverTakes) (λ a. a.0) (λ past a b x turn. turn.0) was h is took

receiver_unseen : {W : Type 0} (Saw : SawReceiver W) (r r' : Receiving) (t u : LineTells) (w w' : W) (h : History) → Turns (λ _. ReceiverTurn Saw) (r, t, w) h (r', u, w')
    → Turns (λ _. ReceiverTurn NobodySawReceiver) (r, t, tt) h (r', u, tt)
receiver_unseen Saw r r' t u w w' h took =
    turns_as (λ _. ReceiverTurn Saw) (λ _. ReceiverTurn NobodySawReceiver) (λ a. (a.0, a.1, tt)) (λ past a b x turn. (turn.0, turn.1, turn.2, tt)) (r, t, w) h (r', u, w') took

pub leaves_unseen : {W : Type 0} (most : ℕ) (Saw : SawReceiver W) (left : ReceiveEnd) (r r' : Receiving) (t u : LineTells) (w w' : W) → Leaves most Saw left (r, t, w) (r', u, w') → LeavesSo most left r t r' u
leaves_unseen most Saw ReceiveEnd.Ended r r' t u w w' (h, on, took, over) = (h, on, receiver_unseen Saw r r' t u w w' h took, over)
leaves_unseen most Saw ReceiveEnd.Abandoned r r' t u w w' (far, (h, on, took, why), is) = (far, (h, on, receiver_unseen Saw r far t u w w' h took, why), is)

-- both took the same
pub both_took : {W : Type 0} (Saw : SawBoth W) (was is : Sending × Receiving × W) (turns : List Spoken) → Turns (λ _. BothTurn Saw) was turns is
    → SenderTook was.0 (map unhindered turns) is.0 × ReceiverTook was.1 (map unhindered turns) is.1
both_took Saw was is [] same = (ap (λ a. a.0) same, ap (λ a. a.1) same)
both_took Saw was is (t ∷ past) (near, before, ((sends, hears), saw)) = let took = both_took Saw was near past before in ((near.0, took.0, sends), (near.1, took.1, hears))

pub took_both : {W : Type 0} (Saw : SawBoth W) (s s' : Sending) (r r' : Receiving) (w w' : W) → BothTook Saw (s, r, w) (s', r', w') → BothToEnd s s' r r'
took_both Saw s s' r r' w w' (turns, took, through) = let both = both_took Saw (s, r, w) (s', r', w') turns took in (map unhindered turns, both.0, both.1, through)

pub both_fault : {W : Type 0} (Saw : SawBoth W) (was near : Sending × Receiving × W) (turns : List Spoken) → Turns (λ _. BothTurn Saw) was turns near
    → (s' : Sending) (r' : Receiving) (fault : StationFault) → BothFail near.0 s' near.1 r' fault → BothToFault was.0 s' was.1 r' fault
both_fault Saw was near turns took s' r' fault fails = let both = both_took Saw was near turns took in (map unhindered turns, near.0, near.1, both.0, both.1, fails)

pub took_both_out : {W : Type 0} (Saw : SawBoth W) (End : SawEnd W) (s s' : Sending) (r r' : Receiving) (w w' : W) → BothTookOut Saw End (s, r, w) (s', r', w') → BothToEnd s s' r r'
took_both_out Saw End s s' r r' w w' out = took_both Saw s s' r r' w out.seen out.took

-- to the end, where the sender is over
pub both_over : {W : Type 0} (Saw : SawBoth W) (was near : Sending × Receiving × W) (turns : List Spoken) → Turns (λ _. BothTurn Saw) was turns near → near.0.over ≡ true → BothTook Saw was near
both_over Saw was near turns took over = (turns, took, inl over)
