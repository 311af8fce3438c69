-- One turn of two stations that both have jobs is one turn of the conversation.
use Rattle.std.proofs.Common.{◌≡◌, ◌≢◌, ◌⊎◌, inl, inr, ℕ, ◌<◌, Bool, true, false, not, List, [], ◌∷◌, ◌++◌, length, take, slice_get, Some, None, if◌then◌else◌, refl, ap, sym, ◌∙◌, subst, arith, length-append, append-nil}
use Rattle.std.proofs.lemmas.Bool.{false≢true, cases_Bool}
use Rattle.bsc_link.specs.declared.contender_place.ContenderPlace.{ContenderPlace}
use Rattle.bsc_link.specs.declared.rank.Rank.{Rank}
use Rattle.bsc_link.specs.declared.say.Say.{Say}
use Rattle.bsc_link.specs.declared.sound.Sound.{Sound}
use Rattle.bsc_link.specs.Contender.{takes_enq}
use Rattle.bsc_link.specs.Sender.{is_enough, say_in}
use Rattle.rje_jobs.specs.declared.job.Job.{Job}
use Rattle.rje_jobs.specs.Blocks.{blocks}
use Rattle.rje_station.specs.Sending.{Sending}
use Rattle.rje_station.specs.Station.{Contending, due_at, due_in, is_receiving, gives_way, lets_in}
use Rattle.rje_station.specs.Trace.{last_events, IsTraceOf}
use Rattle.bsc_history.specs.declared.spoken_turn.SpokenTurn.{SpokenTurn}
use Rattle.bsc_history.specs.History.{Plan, History, is_over}
use Rattle.bsc_history.specs.Known.{has_grant, tries, holds, gives_up_now}
use Rattle.bsc_history.specs.Outcome.{gave_up_before}
use Rattle.bsc_history.specs.Conversation.{Follows, MayBeSpoken}
use Rattle.bsc_history.specs.declared.sound_fate.SoundFate.{SoundFate}
use Rattle.bsc_history.specs.Fate.{sound_of}
use Rattle.line_world.specs.Traces.{sender_events}
use Rattle.pair_world.specs.PairTraces.{primary_events, secondary_events}
use Rattle.line_world.specs.Turns.{after_turn}
use Rattle.line_world.proofs.ForPairs.{turn_of, get_seam, told_on, plan_some}
use Rattle.line_world.specs.Plan.{plan_of}
use Rattle.bsc_history.specs.SayingRule.{saying}
use Rattle.bsc_history.specs.declared.bids.Bids.{Bids}
use Rattle.pair_world.specs.declared.pair_spoken.PairSpoken.{PairSpoken}
use Rattle.pair_world.specs.declared.pair_turn.PairTurn.{PairTurn}
use Rattle.pair_world.specs.Contending.{is_sending, place_of, own_turn, other_turn}
use Rattle.bsc_history.specs.Pair.{SpokenPair, PairHistory, up, down, is_bid_out, is_open, as_counted, due, is_something}
use Rattle.bsc_history.specs.PairCount.{spent, begun_again, down_gives_up, down_gave_up}
use Rattle.bsc_history.specs.PairConversation.{PairFollows, primary_speaks, secondary_speaks}
use Rattle.pair_world.specs.Inside.PairDriving.{PrimaryAlone, SecondaryAlone, BothSpeak, after_end_of, primary_does, secondary_does}
use Rattle.bsc_history.specs.PairSchedule.{PairPlace, IsPairAt, IsPairSpokenOver, NothingIsDue}
use Rattle.pair_world.specs.PairDrive.{ReceivesAfter}
use Rattle.pair_world.specs.PairRun.{TellsPair, TellsPairs, FitParts, AllPairsFit}
use Rattle.pair_world.proofs.Alone.{Laws, Turned, turned}
use Rattle.pair_world.proofs.PairNoted.{alone_silent, alone_noted, vain_noted, ended_silent, sends_noted, way_noted}
use Rattle.pair_world.proofs.PairVain.{vainly, vain_follows, vain_listens, end_contender, end_sender_kept}
use Rattle.pair_world.proofs.Contends.{Contends, due-closed, closed-ungranted, primary_takes, secondary_takes, primary_alone, secondary_alone, both_speak}
use Rattle.bsc_history.proofs.ForRuns.{and-left, counted-quiet, silent-says, lost-after, directions_may_be_spoken, pair_conversations_may_be_spoken}
use Rattle.pair_world.proofs.PairTelling.{told_pair, pairs_longer}
use Rattle.pair_world.proofs.Sends.{SendsBy, sends_turn, sends_yielded, again, some_jobs}

-- the turns so far were spoken over what the schedule tells of them, and both stations stand where they left them
pub record StandsPairRun (ups downs : List Job) (turns : List PairTurn) (h : PairHistory) (a b : Contending) : Type 0 where
  pub before : List PairPlace
  pub told : TellsPairs (take (length h) turns) before
  pub long : length before ≡ length h
  pub spoken : IsPairSpokenOver (plan_of (blocks ups)) (plan_of (blocks downs)) before h
  pub fits : AllPairsFit (blocks ups) (blocks downs) turns h
  pub a_live : a.failed ≡ false
  pub b_live : b.failed ≡ false
  pub contends : Contends h a.contender b.contender
  pub up_sends : SendsBy ups (up h) (gave_up_before (up h)) (tries (up h)) (holds (up h)) a.sender
  pub down_sends : SendsBy downs (down h) (down_gave_up h) (spent h).tries (spent h).holds b.sender
  pub up_receives : ReceivesAfter (blocks ups) (up h) b.receiver
  pub down_receives : ReceivesAfter (blocks downs) (down h) a.receiver
  pub a_silent : a.receiver.due ≡ None
  pub b_silent : b.receiver.due ≡ None
  pub a_said : IsTraceOf (sender_events (up h)) a.sender.trace
  pub b_said : IsTraceOf (sender_events (down h)) b.sender.trace
  pub a_heard : IsTraceOf (primary_events h) a.receiver.trace
  pub b_heard : IsTraceOf (secondary_events h) b.receiver.trace

-- ---- What is due.

due_some : (plan : Plan) (g : Bool) (own other : History) → (plan ≡ [] → ⊥) → due plan g own other ≡ (if is_open other then Say.Nothing else saying plan g own)
due_some [] g own other n = absurd (n refl)
due_some (x ∷ plan) g own other n = refl

free_place : (sending : Bool) → is_receiving (place_of false sending) ≡ false
free_place true = refl
free_place false = refl

pub cases_jobs : (jobs : List Job) → (jobs ≡ []) ⊎ (0 < length jobs)
cases_jobs [] = inl refl
cases_jobs (j ∷ js) = inr (omega arith)

module _ (jobs : List Job) (own other : History) (gb : Bool) (m n : ℕ) (s : Contending) (live : s.failed ≡ false) (place : s.contender.place ≡ place_of (is_open other) (is_sending own)) (p : SendsBy jobs own gb m n s.sender) where
  abbrev plan : Plan
  plan = plan_of (blocks jobs)

  abbrev g : Bool
  g = is_enough m n

  receives : is_open other ≡ true → due_at s ≡ Say.Nothing
  receives o = let r : s.contender.place ≡ ContenderPlace.Receiving = place ∙ rw o refl in rw (live, r) refl

  rests : is_open other ≡ false → due_at s ≡ due_in s.sender
  rests o = let r : is_receiving s.contender.place ≡ false = ap is_receiving place ∙ rw o (free_place (is_sending own)) in rw (live, r) refl

  none_is : jobs ≡ [] → due_at s ≡ due plan g own other
  none_is none =
      let over : s.sender.over ≡ true = p.over ∙ rw none refl in
      let nothing : due plan g own other ≡ Say.Nothing = rw none refl in
      elim (cases_Bool (is_open other)) [
        | inl o ↦ receives o ∙ sym nothing
        | inr o ↦ rests o ∙ rw over refl ∙ sym nothing
      ]

  some_is : 0 < length jobs → due_at s ≡ due plan g own other
  some_is l =
      let over : s.sender.over ≡ is_over own = p.over ∙ some_jobs jobs (is_over own) l in
      elim (cases_Bool (is_open other)) [
        | inl o ↦ receives o ∙ sym (due_some plan g own other (plan_some jobs l) ∙ rw o refl)
        | inr o ↦
            rests o
            ∙ elim (cases_Bool (is_over own)) [
              | inl done ↦
                  let nothing : due_in s.sender ≡ Say.Nothing = rw (over, done) refl in
                  let same : due plan g own other ≡ Say.Nothing = due_some plan g own other (plan_some jobs l) ∙ rw (o, done) refl in
                  nothing ∙ sym same
              | inr goes ↦
                  let says : due_in s.sender ≡ say_in s.sender.core.place = rw (over, goes) refl in
                  let same : due plan g own other ≡ saying plan g own = due_some plan g own other (plan_some jobs l) ∙ rw o refl in
                  says ∙ p.core.says ∙ sym same
            ]
      ]

  pub due_is : due_at s ≡ due plan g own other
  due_is = elim (cases_jobs jobs) [ inl none ↦ none_is none | inr l ↦ some_is l ]

  -- where something is due there are jobs, and the direction goes on
  pub due_jobs : is_something (due_at s) ≡ true → 0 < length jobs
  due_jobs e = elim (cases_jobs jobs) [
    | inl none ↦ let nothing : due plan g own other ≡ Say.Nothing = rw none refl in absurd (false≢true (sym (ap is_something (due_is ∙ nothing)) ∙ e))
    | inr l ↦ l
  ]

  pub due_open : is_something (due_at s) ≡ true → is_open other ≡ false
  due_open e = due-closed plan g own other (ap is_something (sym due_is) ∙ e)

  pub due_saying : is_something (due_at s) ≡ true → due_at s ≡ saying plan g own
  due_saying e = due_is ∙ due_some plan g own other (plan_some jobs (due_jobs e)) ∙ rw (due_open e) refl

  pub due_goes : is_something (due_at s) ≡ true → is_over own ≡ false
  due_goes e = elim (cases_Bool (is_over own)) [
    | inl done ↦ let nothing : saying plan g own ≡ Say.Nothing = rw done refl in absurd (false≢true (sym (ap is_something (due_saying e ∙ nothing)) ∙ e))
    | inr goes ↦ goes
  ]

pub some_thing : (say : Say) → is_something say ≡ true → say ≢ Say.Nothing
some_thing Say.Nothing e = absurd (false≢true e)
some_thing _ e = λ n. cc

-- ---- One turn of the schedule.

module _ (laws : Laws) (ups downs : List Job) (turns : List PairTurn) (h : PairHistory) (a a' b b' : Contending) (turn : PairTurn) (t : PairSpoken)
    (p : StandsPairRun ups downs turns h a b) (here : slice_get turns (length h) ≡ Some turn) where
  abbrev up_plan : Plan
  up_plan = plan_of (blocks ups)

  abbrev down_plan : Plan
  down_plan = plan_of (blocks downs)

  pub may : MayBeSpoken up_plan (up h) × MayBeSpoken down_plan (down h)
  may = directions_may_be_spoken up_plan down_plan h (pair_conversations_may_be_spoken up_plan down_plan h p.spoken.conversation)

  up_due : due_at a ≡ due up_plan (gives_up_now (up h)) (up h) (down h)
  up_due = due_is ups (up h) (down h) (gave_up_before (up h)) (tries (up h)) (holds (up h)) a p.a_live p.contends.p_place p.up_sends

  down_due : due_at b ≡ due down_plan (down_gives_up h) (down h) (up h)
  down_due = due_is downs (down h) (up h) (down_gave_up h) (spent h).tries (spent h).holds b p.b_live p.contends.q_place p.down_sends

  pub up_speaks : (bids : Bids) → primary_speaks up_plan down_plan (gives_up_now (up h)) (down_gives_up h) h bids ≡ primary_does bids a b
  up_speaks bids = rw (up_due, down_due) refl

  pub down_speaks : (bids : Bids) → secondary_speaks up_plan down_plan (gives_up_now (up h)) (down_gives_up h) h bids ≡ secondary_does bids a b
  down_speaks bids = rw (up_due, down_due) refl

  -- one more turn, at its place
  longer : (place : PairPlace) (x : SpokenPair) → IsPairAt place x → PairFollows up_plan down_plan (gives_up_now (up h)) (down_gives_up h) h x
      → IsPairSpokenOver up_plan down_plan (p.before ++ place ∷ []) (x ∷ h)
  longer place x at follows =
      let on = pairs_longer up_plan down_plan p.before (place ∷ []) h p.spoken in
      let there : slice_get (p.before ++ place ∷ []) (length h) ≡ Some place = subst (λ n. slice_get (p.before ++ place ∷ []) n ≡ Some place) p.long (get_seam p.before place []) in
      record { conversation = (follows, on.conversation); placed = ((place, there, at), on.placed) }

  fit_on : (x : SpokenPair) → FitParts (blocks ups) (blocks downs) h turn.turn x.primary x.secondary → AllPairsFit (blocks ups) (blocks downs) turns (x ∷ h)
  fit_on x fits = ((turn, here, fits), p.fits)

  long_on : (place : PairPlace) (x : SpokenPair) → length (p.before ++ place ∷ []) ≡ length (x ∷ h)
  long_on place x = omega (arith, length-append p.before (place ∷ []), p.long)

  -- THE PRIMARY ALONE

  -- what the secondary's count makes of what it hears
  yields_enq : (gb : Bool) (m n : ℕ) (s : Sending) → SendsBy downs (down h) gb (again m n m) (again m n n) s → SendsBy downs (down h) gb (begun_again true (record { tries = m; holds = n })).tries (begun_again true (record { tries = m; holds = n })).holds s
  yields_enq gb m n s x = elim (cases_Bool (is_enough m n)) [
    | inl enough ↦ rw enough (rw enough at x)
    | inr few ↦ rw few (rw few at x)
  ]

  hears_up : (arrived : Sound) (rank : Rank) (takes : Bool) → rank ≡ Rank.Secondary → takes ≡ true → (is_over (down h) ≡ false → has_grant (down h) ≡ false)
      → SendsBy downs (down h) (down_gave_up h) (begun_again (elim arrived [ Sound.Enq ↦ true | _ ↦ false ]) (spent h)).tries (begun_again (elim arrived [ Sound.Enq ↦ true | _ ↦ false ]) (spent h)).holds
      (if (elim arrived [ Sound.Enq ↦ takes | _ ↦ true ]) then gives_way rank arrived b.sender else b.sender)
  hears_up Sound.Enq rank takes is yea none = rw (is, yea) (yields_enq (down_gave_up h) (spent h).tries (spent h).holds _ (sends_yielded downs (down h) (down_gave_up h) (spent h).tries (spent h).holds b.sender none p.down_sends))
  hears_up _ rank takes is yea none = rw is p.down_sends

  pub primary_more : (w : PrimaryAlone turn a a' b b' t) → StandsPairRun ups downs turns (record { bids = turn.bids; primary = Some (turn_of turn.turn w.spoken); secondary = None } ∷ h) a' b'
  primary_more w =
      let some : is_something (due_at a) ≡ true = and-left _ _ w.does in
      let l = due_jobs ups (up h) (down h) (gave_up_before (up h)) (tries (up h)) (holds (up h)) a p.a_live p.contends.p_place p.up_sends some in
      let closed = due_open ups (up h) (down h) (gave_up_before (up h)) (tries (up h)) (holds (up h)) a p.a_live p.contends.p_place p.up_sends some in
      let says = due_saying ups (up h) (down h) (gave_up_before (up h)) (tries (up h)) (holds (up h)) a p.a_live p.contends.p_place p.up_sends some in
      let goes = due_goes ups (up h) (down h) (gave_up_before (up h)) (tries (up h)) (holds (up h)) a p.a_live p.contends.p_place p.up_sends some in
      let takes : takes_enq b.contender ≡ true = secondary_takes up_plan down_plan h a.contender b.contender p.contends may.0 may.1 closed in
      let x : Turned ups (up h) (gives_up_now (up h)) false a a' b b' turn.turn w.spoken =
      turned laws ups (up h) (gave_up_before (up h)) (tries (up h)) (holds (up h)) false a a' b b' turn.turn w.spoken l p.up_sends (p.up_receives.live goes) may.0 goes takes says (some_thing (due_at a) some) w.alone in
      let u : SpokenTurn = turn_of turn.turn w.spoken in
      let pair : SpokenPair = record { bids = turn.bids; primary = Some u; secondary = None } in
      let place : PairPlace = record { bids = turn.bids; place = x.place } in
      let tells : TellsPair turn place = record { bids = refl; tells = x.tells } in
      let c : Contends (pair ∷ h) (own_turn u.said u.heard a.contender) (other_turn u.said u.arrived b.contender) = primary_alone up_plan down_plan h a.contender b.contender p.contends may.0 may.1 turn.bids (gives_up_now (up h)) u closed x.follows in
      record {
        before = p.before ++ place ∷ [];
        told = told_on TellsPair turns (length h) p.before p.told turn place here tells;
        long = long_on place pair;
        fits = fit_on pair x.fits;
        spoken = longer place pair (record { bids = refl; parts = x.is_at })
            (record { goes_on = inl (up_speaks turn.bids ∙ w.does); primary = (up_speaks turn.bids ∙ w.does, x.follows); secondary = down_speaks turn.bids ∙ w.rests; arrived = tt; collide = tt });
        a_live = x.spoke.failed ∙ p.a_live;
        b_live = x.l_failed ∙ p.b_live;
        contends = rw (x.spoke.contender, x.l_contender) c;
        up_sends = subst (SendsBy ups (u ∷ up h) (gives_up_now (up h)) (tries (u ∷ up h)) (holds (u ∷ up h))) (sym x.spoke.sender)
            (sends_turn laws.counts ups (up h) (gave_up_before (up h)) (tries (up h)) (holds (up h)) a.sender u l p.up_sends x.follows);
        down_sends = subst (SendsBy downs (down h) (down_gave_up h) (spent (pair ∷ h)).tries (spent (pair ∷ h)).holds) (sym x.l_sender)
            (hears_up w.spoken.arrived b.contender.rank (takes_enq b.contender) p.contends.q_rank takes (closed-ungranted down_plan (down h) may.1 closed));
        up_receives = x.l_receives;
        down_receives = subst (ReceivesAfter (blocks downs) (down h)) (sym x.spoke.receiver) p.down_receives;
        a_silent = ap (λ z. z.due) x.spoke.receiver ∙ p.a_silent;
        b_silent = alone_silent laws.notes up_plan (up h) (gives_up_now (up h)) false a a' b b' turn.turn w.spoken (p.up_receives.live goes).core ((p.up_receives.live goes).over goes) may.0 takes x.follows w.alone;
        a_said = ap (λ z. z.trace) x.spoke.sender ∙ sends_noted laws.notes ups (up h) (gave_up_before (up h)) (tries (up h)) (holds (up h)) a.sender u p.up_sends x.follows p.a_said;
        b_said = ap (λ z. z.trace) x.l_sender ∙ way_noted (lets_in b.contender w.spoken.arrived) b.contender.rank w.spoken.arrived b.sender ∙ p.b_said;
        a_heard = ap (λ z. z.trace) x.spoke.receiver ∙ p.a_heard ∙ ap last_events (sym (append-nil (primary_events h)));
        b_heard = alone_noted laws.notes up_plan (up h) (gives_up_now (up h)) false a a' b b' turn.turn w.spoken (p.up_receives.live goes).core ((p.up_receives.live goes).over goes) may.0 takes x.follows w.alone (secondary_events h) p.b_heard;
      }

  -- THE SECONDARY ALONE

  hears_down : (arrived : Sound) (rank : Rank) (takes : Bool) → rank ≡ Rank.Primary → (if (elim arrived [ Sound.Enq ↦ takes | _ ↦ true ]) then gives_way rank arrived a.sender else a.sender) ≡ a.sender
  hears_down Sound.Enq rank true is = rw is refl
  hears_down Sound.Enq rank false is = refl
  hears_down _ rank takes is = rw is refl

  pub secondary_more : (w : SecondaryAlone turn a a' b b' t) → StandsPairRun ups downs turns (record { bids = turn.bids; primary = None; secondary = Some (turn_of turn.turn w.spoken) } ∷ h) a' b'
  secondary_more w =
      let bid_out = is_bid_out (up h) in
      let some : is_something (due_at b) ≡ true = and-left _ _ w.does in
      let l = due_jobs downs (down h) (up h) (down_gave_up h) (spent h).tries (spent h).holds b p.b_live p.contends.q_place p.down_sends some in
      let closed = due_open downs (down h) (up h) (down_gave_up h) (spent h).tries (spent h).holds b p.b_live p.contends.q_place p.down_sends some in
      let says = due_saying downs (down h) (up h) (down_gave_up h) (spent h).tries (spent h).holds b p.b_live p.contends.q_place p.down_sends some in
      let goes = due_goes downs (down h) (up h) (down_gave_up h) (spent h).tries (spent h).holds b p.b_live p.contends.q_place p.down_sends some in
      let takes : takes_enq a.contender ≡ not bid_out = primary_takes up_plan down_plan h a.contender b.contender p.contends may.0 may.1 closed in
      let x : Turned downs (down h) (down_gives_up h) bid_out b b' a a' turn.turn w.spoken =
      turned laws downs (down h) (down_gave_up h) (spent h).tries (spent h).holds bid_out b b' a a' turn.turn w.spoken l p.down_sends (p.down_receives.live goes) may.1 goes takes says (some_thing (due_at b) some) w.alone in
      let u : SpokenTurn = turn_of turn.turn w.spoken in
      let v : SpokenTurn = as_counted bid_out u in
      let pair : SpokenPair = record { bids = turn.bids; primary = None; secondary = Some u } in
      let place : PairPlace = record { bids = turn.bids; place = x.place } in
      let tells : TellsPair turn place = record { bids = refl; tells = x.tells } in
      let c : Contends (pair ∷ h) (other_turn u.said u.arrived a.contender) (own_turn u.said u.heard b.contender) = secondary_alone up_plan down_plan h a.contender b.contender p.contends may.0 may.1 turn.bids (down_gives_up h) u closed x.follows x.brought in
      record {
        before = p.before ++ place ∷ [];
        told = told_on TellsPair turns (length h) p.before p.told turn place here tells;
        long = long_on place pair;
        fits = fit_on pair x.fits;
        spoken = longer place pair (record { bids = refl; parts = x.is_at })
            (record { goes_on = inr (down_speaks turn.bids ∙ w.does); primary = up_speaks turn.bids ∙ w.rests; secondary = (down_speaks turn.bids ∙ w.does, x.follows); arrived = x.brought; collide = tt });
        a_live = x.l_failed ∙ p.a_live;
        b_live = x.spoke.failed ∙ p.b_live;
        contends = rw (x.spoke.contender, x.l_contender) c;
        up_sends = subst (SendsBy ups (up h) (gave_up_before (up h)) (tries (up h)) (holds (up h))) (sym (x.l_sender ∙ hears_down w.spoken.arrived a.contender.rank (takes_enq a.contender) p.contends.p_rank)) p.up_sends;
        down_sends = subst (SendsBy downs (v ∷ down h) (down_gives_up h) (spent (pair ∷ h)).tries (spent (pair ∷ h)).holds) (sym x.spoke.sender)
            (sends_turn laws.counts downs (down h) (down_gave_up h) (spent h).tries (spent h).holds b.sender v l p.down_sends x.follows);
        up_receives = subst (ReceivesAfter (blocks ups) (up h)) (sym x.spoke.receiver) p.up_receives;
        down_receives = x.l_receives;
        a_silent = alone_silent laws.notes down_plan (down h) (down_gives_up h) bid_out b b' a a' turn.turn w.spoken (p.down_receives.live goes).core ((p.down_receives.live goes).over goes) may.1 takes x.follows w.alone;
        b_silent = ap (λ z. z.due) x.spoke.receiver ∙ p.b_silent;
        a_said = ap (λ z. z.trace) x.l_sender ∙ way_noted (lets_in a.contender w.spoken.arrived) a.contender.rank w.spoken.arrived a.sender ∙ p.a_said;
        b_said = ap (λ z. z.trace) x.spoke.sender ∙ sends_noted laws.notes downs (down h) (down_gave_up h) (spent h).tries (spent h).holds b.sender v p.down_sends x.follows p.b_said;
        a_heard = alone_noted laws.notes down_plan (down h) (down_gives_up h) bid_out b b' a a' turn.turn w.spoken (p.down_receives.live goes).core ((p.down_receives.live goes).over goes) may.1 takes x.follows w.alone (primary_events h) p.a_heard;
        b_heard = ap (λ z. z.trace) x.spoke.receiver ∙ p.b_heard ∙ ap last_events (sym (append-nil (secondary_events h)));
      }

  -- BOTH AT ONCE

  pub both_more : (w : BothSpeak turn a a' b b' t) → StandsPairRun ups downs turns (record { bids = turn.bids; primary = Some (turn_of turn.turn w.collide.first); secondary = Some (turn_of turn.turn w.collide.second) } ∷ h) a' b'
  both_more w =
      let bid_out = is_bid_out (up h) in
      let k = w.collide in
      let p_some : is_something (due_at a) ≡ true = and-left _ _ w.p_does in
      let q_some : is_something (due_at b) ≡ true = and-left _ _ w.q_does in
      let p_l = due_jobs ups (up h) (down h) (gave_up_before (up h)) (tries (up h)) (holds (up h)) a p.a_live p.contends.p_place p.up_sends p_some in
      let q_l = due_jobs downs (down h) (up h) (down_gave_up h) (spent h).tries (spent h).holds b p.b_live p.contends.q_place p.down_sends q_some in
      let down_closed = due_open ups (up h) (down h) (gave_up_before (up h)) (tries (up h)) (holds (up h)) a p.a_live p.contends.p_place p.up_sends p_some in
      let up_closed = due_open downs (down h) (up h) (down_gave_up h) (spent h).tries (spent h).holds b p.b_live p.contends.q_place p.down_sends q_some in
      let p_says = due_saying ups (up h) (down h) (gave_up_before (up h)) (tries (up h)) (holds (up h)) a p.a_live p.contends.p_place p.up_sends p_some in
      let q_says = due_saying downs (down h) (up h) (down_gave_up h) (spent h).tries (spent h).holds b p.b_live p.contends.q_place p.down_sends q_some in
      let p_goes = due_goes ups (up h) (down h) (gave_up_before (up h)) (tries (up h)) (holds (up h)) a p.a_live p.contends.p_place p.up_sends p_some in
      let q_goes = due_goes downs (down h) (up h) (down_gave_up h) (spent h).tries (spent h).holds b p.b_live p.contends.q_place p.down_sends q_some in
      let u : SpokenTurn = turn_of turn.turn k.first in
      let u2 : SpokenTurn = turn_of turn.turn k.second in
      let v : SpokenTurn = as_counted bid_out u2 in
      let x = vainly laws ups (up h) (gives_up_now (up h)) false a k.a_after turn.turn k.first p_goes p_says (some_thing (due_at a) p_some) k.primary in
      let y = vainly laws downs (down h) (down_gives_up h) bid_out b k.b_after turn.turn k.second q_goes q_says (some_thing (due_at b) q_some) k.secondary in
      let f : Follows up_plan (gives_up_now (up h)) (up h) u = vain_follows laws ups (up h) (gives_up_now (up h)) false a k.a_after turn.turn k.first p_goes p_says (some_thing (due_at a) p_some) k.primary in
      let d : Follows down_plan (down_gives_up h) (down h) v = vain_follows laws downs (down h) (down_gives_up h) bid_out b k.b_after turn.turn k.second q_goes q_says (some_thing (due_at b) q_some) k.secondary in
      let pair : SpokenPair = record { bids = turn.bids; primary = Some u; secondary = Some u2 } in
      let told = told_pair laws.every turn in
      let place = told.0 in
      let c : Contends (pair ∷ h) (other_turn u2.said Sound.Quiet (own_turn u.said u.heard a.contender)) (other_turn u.said Sound.Quiet (own_turn u2.said u2.heard b.contender)) =
      both_speak up_plan down_plan h a.contender b.contender p.contends may.0 may.1 turn.bids (gives_up_now (up h)) (down_gives_up h) u u2 up_closed down_closed f d k.primary.arrived k.secondary.arrived in
      let a_contender : a'.contender ≡ other_turn u2.said Sound.Quiet (own_turn u.said u.heard a.contender) = ap (λ z. z.contender) k.a_ended ∙ end_contender k.second.said k.a_after ∙ ap (other_turn k.second.said Sound.Quiet) x.spoke.contender in
      let b_contender : b'.contender ≡ other_turn u.said Sound.Quiet (own_turn u2.said u2.heard b.contender) = ap (λ z. z.contender) k.b_ended ∙ end_contender k.first.said k.b_after ∙ ap (other_turn k.first.said Sound.Quiet) y.spoke.contender in
      let a_sender : a'.sender ≡ after_turn a.sender u = ap (λ z. z.sender) k.a_ended ∙ (end_sender_kept k.second.said k.a_after).0 ∙ x.spoke.sender in
      let b_sender : b'.sender ≡ after_turn b.sender u2 = ap (λ z. z.sender) k.b_ended ∙ (end_sender_kept k.first.said k.b_after).0 ∙ y.spoke.sender in
      let ups_heard : ReceivesAfter (blocks ups) (u ∷ up h) (after_end_of k.first.said k.b_after).receiver = vain_listens (blocks ups) (up h) u k.b_after k.primary.arrived p_goes (subst (ReceivesAfter (blocks ups) (up h)) (sym y.spoke.receiver) p.up_receives) in
      let downs_heard : ReceivesAfter (blocks downs) (v ∷ down h) (after_end_of k.second.said k.a_after).receiver =
      vain_listens (blocks downs) (down h) v k.a_after (counted-quiet bid_out u2 k.secondary.arrived) q_goes (subst (ReceivesAfter (blocks downs) (down h)) (sym x.spoke.receiver) p.down_receives) in
      record {
        before = p.before ++ place ∷ [];
        told = told_on TellsPair turns (length h) p.before p.told turn place here told.1;
        long = long_on place pair;
        fits = fit_on pair tt;
        spoken = longer place pair
            (record { bids = refl; parts = (record { refused = k.primary.refused; wish = refl; pause = refl }, record { refused = k.secondary.refused; wish = refl; pause = refl }) })
            (record {
              goes_on = inl (up_speaks turn.bids ∙ w.p_does);
              primary = (up_speaks turn.bids ∙ w.p_does, f);
              secondary = (down_speaks turn.bids ∙ w.q_does, d);
              arrived = (SoundFate.Lost, lost-after (sound_of k.second.said) ∙ ap (λ z. Some z) (sym k.secondary.arrived));
              collide = (k.primary.arrived, k.secondary.arrived);
            });
        a_live = ap (λ z. z.failed) k.a_ended ∙ (end_sender_kept k.second.said k.a_after).1 ∙ x.spoke.failed ∙ p.a_live;
        b_live = ap (λ z. z.failed) k.b_ended ∙ (end_sender_kept k.first.said k.b_after).1 ∙ y.spoke.failed ∙ p.b_live;
        contends = rw (a_contender, b_contender) c;
        up_sends = subst (SendsBy ups (u ∷ up h) (gives_up_now (up h)) (tries (u ∷ up h)) (holds (u ∷ up h))) (sym a_sender)
            (sends_turn laws.counts ups (up h) (gave_up_before (up h)) (tries (up h)) (holds (up h)) a.sender u p_l p.up_sends f);
        down_sends = subst (SendsBy downs (v ∷ down h) (down_gives_up h) (spent (pair ∷ h)).tries (spent (pair ∷ h)).holds) (sym b_sender)
            (sends_turn laws.counts downs (down h) (down_gave_up h) (spent h).tries (spent h).holds b.sender v q_l p.down_sends d);
        up_receives = subst (ReceivesAfter (blocks ups) (u ∷ up h)) (sym (ap (λ z. z.receiver) k.b_ended)) ups_heard;
        down_receives = subst (ReceivesAfter (blocks downs) (v ∷ down h)) (sym (ap (λ z. z.receiver) k.a_ended)) downs_heard;
        a_silent = ap (λ z. z.receiver.due) k.a_ended ∙ ended_silent k.second.said k.a_after (ap (λ z. z.due) x.spoke.receiver ∙ p.a_silent);
        b_silent = ap (λ z. z.receiver.due) k.b_ended ∙ ended_silent k.first.said k.b_after (ap (λ z. z.due) y.spoke.receiver ∙ p.b_silent);
        a_said = ap (λ z. z.trace) a_sender ∙ sends_noted laws.notes ups (up h) (gave_up_before (up h)) (tries (up h)) (holds (up h)) a.sender u p.up_sends f p.a_said;
        b_said = ap (λ z. z.trace) b_sender ∙ sends_noted laws.notes downs (down h) (down_gave_up h) (spent h).tries (spent h).holds b.sender v p.down_sends d p.b_said;
        a_heard = ap (λ z. z.receiver.trace) k.a_ended ∙ vain_noted laws.notes u2 k.a_after (primary_events h) k.secondary.arrived (ap (λ z. z.over) x.spoke.receiver ∙ (p.down_receives.live q_goes).over q_goes) (ap (λ z. z.trace) x.spoke.receiver ∙ p.a_heard);
        b_heard = ap (λ z. z.receiver.trace) k.b_ended ∙ vain_noted laws.notes u k.b_after (secondary_events h) k.primary.arrived (ap (λ z. z.over) y.spoke.receiver ∙ (p.up_receives.live p_goes).over p_goes) (ap (λ z. z.trace) y.spoke.receiver ∙ p.b_heard);
      }

  -- nothing is due at either where neither speaks
  pub nothing_due : primary_does turn.bids a b ≡ false → secondary_does turn.bids a b ≡ false → NothingIsDue up_plan down_plan h
  nothing_due e f =
      let both = silent-says (due_at a) (due_at b) turn.bids e f in
      record { primary = sym up_due ∙ both.0; secondary = sym down_due ∙ both.1 }
