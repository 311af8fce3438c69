-- A fate that breaks a rule, in a turn of a run of two stations that both have jobs.
use Rattle.std.proofs.Common.{◌≡◌, inl, inr, ℕ, suc, ◌+◌, Bool, true, false, not, List, ◌∷◌, ◌++◌, length, drop, slice_get, Some, None, refl, sym, ◌∙◌, subst}
use Rattle.bsc_link.specs.declared.sound.Sound.{Sound}
use Rattle.bsc_link.specs.Contender.{takes_enq}
use Rattle.bsc_link.specs.Sender.{is_enough}
use Rattle.rje_jobs.specs.declared.job.Job.{Job}
use Rattle.rje_jobs.specs.Blocks.{blocks}
use Rattle.rje_station.specs.Station.{Contending, due_at}
use Rattle.line_world.specs.declared.fate.Fate.{Fate}
use Rattle.bsc_history.specs.declared.sound_turn.SoundTurn.{SoundTurn}
use Rattle.line_world.specs.declared.spoken.Spoken.{Spoken}
use Rattle.line_world.specs.declared.turn.Turn.{Turn}
use Rattle.line_world.specs.declared.turn_fault.TurnFault.{TurnFault}
use Rattle.line_world.specs.declared.turn_fault.TurnFault.TheVariants as Fault
use Rattle.bsc_history.specs.History.{History, is_over}
use Rattle.bsc_history.specs.Known.{tries, holds}
use Rattle.bsc_history.specs.Outcome.{gave_up_before}
use Rattle.bsc_history.specs.Conversation.{MayBeSpoken}
use Rattle.line_world.specs.Damage.{HasBadCut, IsNoDamage}
use Rattle.line_world.specs.Faults.{fault_at}
use Rattle.line_world.specs.Plan.{plan_of}
use Rattle.bsc_history.specs.ReplyRule.{replying}
use Rattle.line_world.specs.Run.{TellsTurn, BreaksTurn}
use Rattle.bsc_history.specs.SayingRule.{saying}
use Rattle.line_world.specs.Turns.{StandsReceiving}
use Rattle.line_world.proofs.ForPairs.{breaks_replied, breaks_said, get_seam, told_any, told_with}
use Rattle.pair_world.specs.declared.pair_spoken.PairSpoken.{PairSpoken}
use Rattle.pair_world.specs.declared.pair_turn.PairTurn.{PairTurn}
use Rattle.bsc_history.specs.Pair.{PairHistory, up, down, is_bid_out, is_something, sound_counted}
use Rattle.bsc_history.specs.PairCount.{spent, down_gave_up}
use Rattle.pair_world.specs.Inside.PairDriving.{BreaksAlone, BreaksPair, IsPairTurnFault}
use Rattle.pair_world.specs.PairRun.{TellsPair, BreaksPairFirst, BreaksPairTurn, IsPairDriveFault}
use Rattle.bsc_history.specs.PairSchedule.{PairPlace}
use Rattle.pair_world.proofs.Alone.{Laws, replied, up_told, refused_is}
use Rattle.pair_world.proofs.Contends.{primary_takes, secondary_takes}
use Rattle.pair_world.proofs.PairLoop.{PairRunning}
use Rattle.bsc_history.proofs.ForRuns.{and-left}
use Rattle.pair_world.proofs.PairRuns.{StandsPairRun, due_open, due_saying, due_goes, may, up_speaks, down_speaks}
use Rattle.pair_world.proofs.PairTelling.{told_pair, pairs_longer}
use Rattle.pair_world.proofs.Sends.{SendsBy}

-- ---- One direction.

module _ (laws : Laws) (Breaks : Fate → Sound → List ℕ → Type 0) (jobs : List Job) (own : History) (gb : Bool) (m n : ℕ) (bid_out : Bool) (s l : Contending) (turn : Turn)
    (sends : SendsBy jobs own gb m n s.sender) (stands : StandsReceiving (blocks jobs) own l.receiver) (may_own : MayBeSpoken (plan_of (blocks jobs)) own) (goes : is_over own ≡ false)
    (takes : takes_enq l.contender ≡ not bid_out) (due_is : due_at s ≡ saying (plan_of (blocks jobs)) (is_enough m n) own) where
  abbrev g : Bool
  g = is_enough m n

  pub breaks_part : BreaksAlone Breaks turn s l → (place : SoundTurn) × TellsTurn turn place × BreaksTurn Breaks (sound_counted bid_out) (blocks jobs) g own turn place
  breaks_part b = elim b.breaks [
    | inl h ↦ breaks_said laws.every Breaks (sound_counted bid_out) (blocks jobs) g own turn (due_at s) s.sender.rest b.sent due_is sends.counted.rest b.written h
    | inr d ↦
        let t : Spoken = record { said = due_at s; arrived = d.arrived; refused = d.refused; reply = d.answer; heard = Sound.Quiet } in
        let answer : d.answer ≡ replying own (sound_counted bid_out d.arrived) d.refused turn.wish = replied laws jobs own g bid_out s l d.middle turn t b.sent stands may_own goes takes refl due_is b.written d.across in
        breaks_replied laws.every Breaks (sound_counted bid_out) (blocks jobs) g own turn (due_at s) s.sender.rest b.sent due_is sends.counted.rest b.written d.arrived d.refused d.middle.receiver.due d.across.carried.fits
        (up_told laws jobs own g bid_out s l d.middle turn t b.sent stands may_own goes takes refl due_is b.written d.across) (refused_is laws jobs own g bid_out s l d.middle turn t b.sent stands may_own goes takes refl due_is b.written d.across)
        (sym answer ∙ d.across.reply_is) d.breaks
  ]

-- ---- The schedule.

module _ (laws : Laws) (Breaks : Fate → Sound → List ℕ → Type 0) (ups downs : List Job) (turns : List PairTurn) (h : PairHistory) (a b : Contending) (turn : PairTurn) (t : PairSpoken)
    (p : StandsPairRun ups downs turns h a b) (here : slice_get turns (length h) ≡ Some turn) where
  first_with : (sounds : SoundTurn) → TellsTurn turn.turn sounds → BreaksPairTurn Breaks (blocks ups) (blocks downs) h turn sounds → (places : List PairPlace) × BreaksPairFirst Breaks (blocks ups) (blocks downs) turns places (length h + 1)
  first_with sounds tells breaks =
      let place : PairPlace = record { bids = turn.bids; place = sounds } in
      let rest = told_any TellsPair (told_pair laws.every) (drop (suc (length h)) turns) in
      let places = p.before ++ place ∷ rest.0 in (
        places,
        record {
          told = told_with TellsPair turns (length h) p.before p.told turn place rest.0 here (record { bids = refl; tells = tells }) rest.1;
          past = h;
          before = refl;
          spoken = pairs_longer (plan_of (blocks ups)) (plan_of (blocks downs)) p.before (place ∷ rest.0) h p.spoken;
          fits = p.fits;
          turn = turn;
          here = here;
          place = place;
          there = subst (λ k. slice_get places k ≡ Some place) p.long (get_seam p.before place rest.0);
          breaks = breaks;
        },
      )

  abbrev spoken_by : MayBeSpoken (plan_of (blocks ups)) (up h) × MayBeSpoken (plan_of (blocks downs)) (down h)
  spoken_by = may laws ups downs turns h a a b b turn t p here

  pub pair_breaks : BreaksPair Breaks turn a b → (places : List PairPlace) × BreaksPairFirst Breaks (blocks ups) (blocks downs) turns places (length h + 1)
  pair_breaks (inl (does, rests, breaks)) =
      let some : is_something (due_at a) ≡ true = and-left _ _ does in
      let closed = due_open ups (up h) (down h) (gave_up_before (up h)) (tries (up h)) (holds (up h)) a p.a_live p.contends.p_place p.up_sends some in
      let says = due_saying ups (up h) (down h) (gave_up_before (up h)) (tries (up h)) (holds (up h)) a p.a_live p.contends.p_place p.up_sends some in
      let goes = due_goes ups (up h) (down h) (gave_up_before (up h)) (tries (up h)) (holds (up h)) a p.a_live p.contends.p_place p.up_sends some in
      let takes : takes_enq b.contender ≡ true = secondary_takes (plan_of (blocks ups)) (plan_of (blocks downs)) h a.contender b.contender p.contends spoken_by.0 spoken_by.1 closed in
      let part = breaks_part laws Breaks ups (up h) (gave_up_before (up h)) (tries (up h)) (holds (up h)) false a b turn.turn p.up_sends (p.up_receives.live goes) spoken_by.0 goes takes says breaks in
      first_with part.0 part.1 (inl (up_speaks laws ups downs turns h a a b b turn t p here turn.bids ∙ does, down_speaks laws ups downs turns h a a b b turn t p here turn.bids ∙ rests, part.2))
  pair_breaks (inr (rests, does, breaks)) =
      let some : is_something (due_at b) ≡ true = and-left _ _ does in
      let closed = due_open downs (down h) (up h) (down_gave_up h) (spent h).tries (spent h).holds b p.b_live p.contends.q_place p.down_sends some in
      let says = due_saying downs (down h) (up h) (down_gave_up h) (spent h).tries (spent h).holds b p.b_live p.contends.q_place p.down_sends some in
      let goes = due_goes downs (down h) (up h) (down_gave_up h) (spent h).tries (spent h).holds b p.b_live p.contends.q_place p.down_sends some in
      let takes : takes_enq a.contender ≡ not (is_bid_out (up h)) = primary_takes (plan_of (blocks ups)) (plan_of (blocks downs)) h a.contender b.contender p.contends spoken_by.0 spoken_by.1 closed in
      let part = breaks_part laws Breaks downs (down h) (down_gave_up h) (spent h).tries (spent h).holds (is_bid_out (up h)) b a turn.turn p.down_sends (p.down_receives.live goes) spoken_by.1 goes takes says breaks in
      first_with part.0 part.1 (inr (up_speaks laws ups downs turns h a a b b turn t p here turn.bids ∙ rests, down_speaks laws ups downs turns h a a b b turn t p here turn.bids ∙ does, part.2))

-- ---- The loop.

running_breaks : Laws → (Breaks : Fate → Sound → List ℕ → Type 0) (ups downs : List Job) (turns : List PairTurn) (n : ℕ) (spoken : List PairSpoken) (a b : Contending) (turn : PairTurn) → PairRunning ups downs turns n spoken a b → slice_get turns n ≡ Some turn
    → BreaksPair Breaks turn a b → (places : List PairPlace) × BreaksPairFirst Breaks (blocks ups) (blocks downs) turns places (n + 1)
running_breaks laws Breaks ups downs turns n spoken a b turn p here breaks =
    let there : slice_get turns (length p.history) ≡ Some turn = subst (λ k. slice_get turns k ≡ Some turn) (sym p.long) here in
    let first = pair_breaks laws Breaks ups downs turns p.history a b turn (record { primary = None; secondary = None }) p.stands there breaks in
    (first.0, subst (λ k. BreaksPairFirst Breaks (blocks ups) (blocks downs) turns first.0 (k + 1)) p.long first.1)

pub pair_drive_fault : Laws → (ups downs : List Job) (turns : List PairTurn) (n : ℕ) (spoken : List PairSpoken) (a b : Contending) (turn : PairTurn) (fault : TurnFault) → PairRunning ups downs turns n spoken a b → slice_get turns n ≡ Some turn
    → IsPairTurnFault turn a b fault → IsPairDriveFault ups downs turns (fault_at fault (n + 1))
pair_drive_fault laws ups downs turns n spoken a b turn Fault.OutOfMemory p here x = tt
pair_drive_fault laws ups downs turns n spoken a b turn Fault.NotDamage p here x = (refl, running_breaks laws IsNoDamage ups downs turns n spoken a b turn p here x)
pair_drive_fault laws ups downs turns n spoken a b turn Fault.BadCut p here x = (refl, running_breaks laws HasBadCut ups downs turns n spoken a b turn p here x)
