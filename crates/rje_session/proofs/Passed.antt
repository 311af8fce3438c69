-- What passed over a line that tells its bytes, in a turn.
use Rattle.std.proofs.Common.{◌≡◌, ◌≢◌, ℕ, Bool, true, false, List, Option, Some, None, Result, Ok, Err, IfErr, if◌then◌else◌, refl, ap, sym, subst, ◌∙◌}
use Rattle.std.proofs.lemmas.Bool.{true≢false}
use Rattle.bsc_codes.specs.declared.block.Block.{Block}
use Rattle.bsc_frame.specs.declared.heard.Heard.{Heard}
use Rattle.bsc_link.specs.declared.receiver_place.ReceiverPlace.{ReceiverPlace}
use Rattle.bsc_link.specs.declared.reply.Reply.{Reply}
use Rattle.bsc_link.specs.declared.say.Say.{Say}
use Rattle.bsc_link.specs.declared.sound.Sound.{Sound}
use Rattle.bsc_link.specs.declared.wish.Wish.{Wish}
use Rattle.bsc_link.specs.Receiver.{ReceiverState, receiver_news}
use Rattle.rje_station.specs.declared.arrival.Arrival.{Arrival}
use Rattle.rje_station.specs.declared.line_fault.LineFault.{LineFault}
use Rattle.rje_station.specs.declared.station_fault.StationFault.{StationFault}
use Rattle.rje_station.specs.declared.station_fault.StationFault.TheVariants as fault
use Rattle.rje_station.specs.StationFault.{IsCause}
use Rattle.rje_station.specs.Hearing.{Hearing, HearsSound, sound_heard}
use Rattle.rje_station.specs.JoinedJobs.{begun_in}
use Rattle.rje_station.specs.Line.{Passes, Talk, one_more}
use Rattle.rje_station.specs.Receiving.{MayRefuse, Replied, sound_taken, with_reply}
use Rattle.rje_station.specs.Sending.{Spoke, is_end}
use Rattle.rje_station.specs.Station.{Contending, HeardAnswer, HeardOther, SpokeDue, after_answer, after_other, after_other_ended, after_own_reply, after_own_speaking, due_at, is_deaf, lets_in, with_said}
use Rattle.rje_station.proofs.Due.{answer_heard, due_kept, not_end}
use Rattle.rje_station.proofs.PassedOver.{passed_enq, passed_unrefused}
use Rattle.rje_session.specs.Stations.{Answers, AnswersOther, HeardAndReplied, HearsOther, IsOfRun, LineTells, SpokeAndHeard, TakesOthers, TakesOwn, after_answering_other, after_own_turn, reply_sent}

-- ---- What was said and heard.

pub spoke_as : (rest : List Block) (t u : Option Talk) (said due : Say) → said ≡ due → Passes t u (Spoke due rest) → Passes t u (Spoke said rest)
spoke_as rest t u said due is sent = rw is sent

pub end_passed : (rest : List Block) (t u : LineTells) (said : Say) (heard : Sound) → said ≡ Say.End → Passes t.0 u.0 (Spoke said rest) → u.1 ≡ one_more t.1 → SpokeAndHeard rest t u said heard
end_passed rest t u said heard is sent once = (u.0, sent, once, rw is refl)

answers : (said : Say) (heard : Sound) (asked u : Option Talk) → is_end said ≡ false → Passes asked u (λ t u. HearsSound t u heard) → Answers said heard asked u
answers Say.End heard asked u more hears = absurd (true≢false more)
answers Say.Bid heard asked u more hears = hears
answers Say.Block heard asked u more hears = hears
answers Say.Again heard asked u more hears = hears
answers Say.Delay heard asked u more hears = hears
answers Say.Ask heard asked u more hears = hears
answers Say.Nothing heard asked u more hears = hears

pub turn_passed : (rest : List Block) (t u : LineTells) (asked : Option Talk) (said : Say) (heard : Sound) → is_end said ≡ false → Passes t.0 asked (Spoke said rest) → u.1 ≡ one_more t.1
    → Passes asked u.0 (λ t u. HearsSound t u heard) → SpokeAndHeard rest t u said heard
turn_passed rest t u asked said heard more sent once hears = (asked, sent, once, answers said heard asked u.0 more hears)

spoke_due : (say : Say) (rest : List Block) (t u : Option Talk) → say ≢ Say.Nothing → Passes t u (SpokeDue say rest) → Passes t u (Spoke say rest)
spoke_due Say.Nothing rest t u due sent = absurd (due refl)
spoke_due Say.Bid rest t u due sent = sent
spoke_due Say.Block rest t u due sent = sent
spoke_due Say.Again rest t u due sent = sent
spoke_due Say.Delay rest t u due sent = sent
spoke_due Say.Ask rest t u due sent = sent
spoke_due Say.End rest t u due sent = sent

one_said : (say : Say) (m : ℕ) → say ≢ Say.Nothing → with_said say m ≡ one_more m
one_said Say.Nothing m due = absurd (due refl)
one_said Say.Bid m due = refl
one_said Say.Block m due = refl
one_said Say.Again m due = refl
one_said Say.Delay m due = refl
one_said Say.Ask m due = refl
one_said Say.End m due = refl

pub said_due : (s : Contending) (said : Say) (t u : Option Talk) → said ≡ due_at s → due_at s ≢ Say.Nothing → Passes t u (SpokeDue (due_at s) s.sender.rest) → Passes t u (Spoke said s.sender.rest)
said_due s said t u is due sent = spoke_as s.sender.rest t u said (due_at s) is (spoke_due (due_at s) s.sender.rest t u due sent)

pub said_once : (s : Contending) (m n : ℕ) → due_at s ≢ Say.Nothing → n ≡ with_said (due_at s) m → n ≡ one_more m
said_once s m n due once = once ∙ one_said (due_at s) m due

pub own_passed : (s near : Contending) (said : Say) (heard : Sound) (t u : LineTells) (asked : Option Talk) → said ≡ due_at s → due_at s ≢ Say.Nothing → said ≢ Say.End → near ≡ after_own_speaking s
    → Passes t.0 asked (Spoke said s.sender.rest) → u.1 ≡ one_more t.1 → HeardAnswer asked u.0 (due_at near) heard → SpokeAndHeard s.sender.rest t u said heard
own_passed s near said heard t u asked is due more spoke sent once hears =
    let kept : due_at near ≡ due_at s = ap due_at spoke ∙ due_kept s (due_at s) refl due (λ e. more (is ∙ e)) in
    turn_passed s.sender.rest t u asked said heard (not_end said more) sent once (answer_heard asked u.0 (due_at near) heard (λ e. due (sym kept ∙ e)) hears)

-- what it makes of its own turn where it listens
own_turn_is : (s : Contending) (said : Say) (heard : Sound) → said ≢ Say.End → after_own_turn s said heard ≡ after_answer (after_own_speaking s) heard false
own_turn_is s Say.End heard more = absurd (more refl)
own_turn_is s Say.Bid heard more = refl
own_turn_is s Say.Block heard more = refl
own_turn_is s Say.Again heard more = refl
own_turn_is s Say.Delay heard more = refl
own_turn_is s Say.Ask heard more = refl
own_turn_is s Say.Nothing heard more = refl

pub own_taken : (s mid s' : Contending) (said : Say) (heard : Sound) → s.failed ≡ false → said ≡ due_at s → due_at s ≢ Say.Nothing → said ≢ Say.End → mid ≡ after_own_speaking s
    → s' ≡ after_answer mid heard false → TakesOwn s s' said heard
own_taken s mid s' said heard live is due more spoke after = record {
  live = live;
  due = λ none. due (sym is ∙ none);
  said_is = is;
  done = λ end. absurd (more end);
  state = after ∙ ap (λ (x : Contending). after_answer x heard false) spoke ∙ sym (own_turn_is s said heard more);
}

-- where it says EOT
end_due : Say.End ≡ Say.Nothing → ⊥
end_due e = cc

pub end_taken : (s s' : Contending) (said : Say) → s.failed ≡ false → said ≡ due_at s → said ≡ Say.End → s' ≡ after_own_speaking s → TakesOwn s s' said Sound.Quiet
end_taken s s' said live is end spoke = record {
  live = live;
  due = λ none. end_due (sym end ∙ none);
  said_is = is;
  done = λ _. refl;
  state = subst (λ (word : Say). s' ≡ after_own_turn s word Sound.Quiet) (sym end) spoke;
}

-- ---- What was heard and replied.

eot_owes : (s : ReceiverState) (place : ReceiverPlace) → s.place ≡ place → (receiver_news s Sound.Eot Wish.Go).reply ≡ None
eot_owes s ReceiverPlace.Idle at = rw at refl
eot_owes s ReceiverPlace.InTransmission at = rw at refl
eot_owes s ReceiverPlace.Ended at = rw at refl

-- a receiver ends at an EOT alone
ended_early : (s : ReceiverState) (sound : Sound) (place : ReceiverPlace) → s.place ≡ place → sound ≢ Sound.Eot → (receiver_news s sound Wish.Go).ended ≡ false
ended_early s Sound.Eot place at not = absurd (not refl)
ended_early s Sound.Enq ReceiverPlace.Idle at not = rw at refl
ended_early s sound ReceiverPlace.Idle at not = rw at refl
ended_early s sound ReceiverPlace.InTransmission at not = rw at refl
ended_early s sound ReceiverPlace.Ended at not = rw at refl

-- and owes no reply then
ended_owes : (s : ReceiverState) (sound : Sound) → (receiver_news s sound Wish.Go).ended ≡ true → (receiver_news s sound Wish.Go).reply ≡ None
ended_owes s Sound.Eot ended = eot_owes s s.place refl
ended_owes s sound ended = absurd (true≢false (sym ended ∙ ended_early s sound s.place refl (λ x. cc)))

pub reply_passed : (what : Heard) (reply due : Option Reply) (t u : LineTells) (heard : Option Talk) → Passes t.0 heard (λ t u. Hearing t u what) → reply ≡ due
    → Passes heard u.0 (Replied due) → u.1 ≡ with_reply due t.1 → HeardAndReplied what t u reply
reply_passed what reply due t u heard hears is sent once = rw is (heard, hears, sent, once)

replied_none : (t u : Option Talk) → u ≡ t → Passes t u (Replied None)
replied_none None u is = tt
replied_none (Some t) u is = rw is refl

pub last_passed : (what : Heard) (reply : Option Reply) (t u : LineTells) (heard : Option Talk) → Passes t.0 heard (λ t u. Hearing t u what) → reply ≡ None → u.0 ≡ heard → u.1 ≡ t.1
    → HeardAndReplied what t u reply
last_passed what reply t u heard hears none is silent = reply_passed what reply None t u heard hears none (replied_none heard u.0 is) silent

let_in_owes : (s : Contending) (what : Heard) (refused b : Bool) → lets_in s.contender (sound_heard what) ≡ b → (after_other s what refused Wish.Go).receiver.over ≡ true
    → (after_other s what refused Wish.Go).receiver.due ≡ None
let_in_owes s what refused true is over = rw is (ended_owes s.receiver.core (sound_taken what refused) (rw is at over))
let_in_owes s what refused false is over = rw is refl

pub other_owes : (s mid : Contending) (what : Heard) (refused : Bool) → mid ≡ after_other s what refused Wish.Go → mid.receiver.over ≡ true → mid.receiver.due ≡ None
other_owes s mid what refused is over =
    ap (λ (x : Contending). x.receiver.due) is ∙ let_in_owes s what refused _ refl (sym (ap (λ (x : Contending). x.receiver.over) is) ∙ over)

-- ---- The other's turn.

abbrev arrival_of : Heard → Bool → Arrival
arrival_of what refused = record { sound = sound_heard what; refused = refused }

other_arrival : (s : Contending) (what : Heard) (refused b : Bool) → lets_in s.contender (sound_heard what) ≡ b → MayRefuse what (begun_in s.receiver.jobs) refused
    → (after_other s what refused Wish.Go).receiver.arrival ≡ Some (arrival_of what refused)
other_arrival s what refused true is may = rw is refl
other_arrival s what refused false is may =
    let enq = passed_enq s.contender (sound_heard what) is in
    let none = passed_unrefused what (begun_in s.receiver.jobs) refused enq may in
    let same : Some (arrival_of what refused) ≡ Some (record { sound = Sound.Enq; refused = false }) =
    ap (λ (x : Sound). Some (record { sound = x; refused = refused })) enq ∙ ap (λ (r : Bool). Some (record { sound = Sound.Enq; refused = r })) none in
    rw is (sym same)

answered_arrival : (mid : Contending) (over : Bool) → over ≡ mid.receiver.over → (if over then after_other_ended mid else after_own_reply mid).receiver.arrival ≡ mid.receiver.arrival
answered_arrival mid true is = rw (sym is) refl
answered_arrival mid false is = refl

pub others_arrived : (s mid : Contending) (what : Heard) (refused : Bool) (arrival : Arrival) → MayRefuse what (begun_in s.receiver.jobs) refused → mid ≡ after_other s what refused Wish.Go
    → Some arrival ≡ mid.receiver.arrival → arrival ≡ arrival_of what refused
others_arrived s mid what refused arrival may is came =
    let known : Some arrival ≡ Some (arrival_of what refused) = came ∙ ap (λ (x : Contending). x.receiver.arrival) is ∙ other_arrival s what refused _ refl may in
    cc

-- what was heard, and isn't answered yet
pub hears_other : (s mid : Contending) (arrival : Arrival) (reply : Option Reply) (t u : Option Talk) → is_deaf s ≡ false
    → HeardOther s mid Wish.Go reply (λ what. Passes t u (λ t u. Hearing t u what)) → Some arrival ≡ mid.receiver.arrival → HearsOther s mid arrival reply t u
hears_other s mid arrival reply t u live heard came =
    let same = others_arrived s mid heard.what heard.refused arrival heard.may heard.state came in record {
      live = live;
      what = heard.what;
      told = heard.told;
      came = ap (λ (a : Arrival). a.sound) same;
      may = rw same heard.may;
      state = heard.state ∙ ap (λ (a : Arrival). after_other s heard.what a.refused Wish.Go) (sym same);
      reply_is = heard.reply_is;
      arrived = sym came;
    }

if_true : {X : Type 0} (b : Bool) (x y : X) → b ≡ true → (if b then x else y) ≡ x
if_true true x y is = refl
if_true false x y is = absurd (true≢false (sym is))

if_false : {X : Type 0} (b : Bool) (x y : X) → b ≡ false → (if b then x else y) ≡ y
if_false true x y is = absurd (true≢false is)
if_false false x y is = refl

-- it left its receiving side, or replied
pub ends_other : (s s' : Contending) (t u : LineTells) → s.receiver.over ≡ true → s' ≡ after_other_ended s → u ≡ t → AnswersOther s s' t u
ends_other s s' t u over is same =
    let none : reply_sent s ≡ None = if_true s.receiver.over None s.receiver.due over in (
      is ∙ sym (if_true s.receiver.over (after_other_ended s) (after_own_reply s) over),
      subst (λ (r : Option Reply). Passes t.0 u.0 (Replied r)) (sym none) (replied_none t.0 u.0 (ap (λ (x : LineTells). x.0) same)),
      ap (λ (x : LineTells). x.1) same ∙ ap (λ (r : Option Reply). with_reply r t.1) (sym none),
    )

pub replies_other : (s s' : Contending) (t u : LineTells) → s.receiver.over ≡ false → s' ≡ after_own_reply s → Passes t.0 u.0 (Replied s.receiver.due) → u.1 ≡ with_reply s.receiver.due t.1
    → AnswersOther s s' t u
replies_other s s' t u over is sent once =
    let due : reply_sent s ≡ s.receiver.due = if_false s.receiver.over None s.receiver.due over in (
      is ∙ sym (if_false s.receiver.over (after_other_ended s) (after_own_reply s) over),
      subst (λ (r : Option Reply). Passes t.0 u.0 (Replied r)) (sym due) sent,
      once ∙ ap (λ (r : Option Reply). with_reply r t.1) (sym due),
    )

-- the reply that is sent is the one that was due
sent_is : (s mid : Contending) (what : Heard) (refused over : Bool) → mid ≡ after_other s what refused Wish.Go → mid.receiver.over ≡ over → reply_sent mid ≡ mid.receiver.due
sent_is s mid what refused true is over = if_true mid.receiver.over None mid.receiver.due over ∙ sym (other_owes s mid what refused is over)
sent_is s mid what refused false is over = if_false mid.receiver.over None mid.receiver.due over

-- what was heard and then answered is a turn of the other's
pub others_answered : (s mid s' : Contending) (arrival : Arrival) (reply : Option Reply) (t m u : LineTells) → HearsOther s mid arrival reply t.0 m.0 → m.1 ≡ t.1 → AnswersOther mid s' m u
    → (takes : TakesOthers s s' arrival reply) × HeardAndReplied takes.what t u reply × (s'.receiver.arrival ≡ Some arrival)
others_answered s mid s' arrival reply t m u heard none said =
    let due : reply_sent mid ≡ reply = sent_is s mid heard.what arrival.refused mid.receiver.over heard.state refl ∙ sym heard.reply_is in (
      record {
        live = heard.live;
        what = heard.what;
        came = heard.came;
        may = heard.may;
        reply_is = heard.reply_is ∙ ap (λ (x : Contending). x.receiver.due) heard.state;
        state = said.0 ∙ ap after_answering_other heard.state;
      },
      (
        m.0,
        heard.told,
        subst (λ (r : Option Reply). Passes m.0 u.0 (Replied r)) due said.1,
        said.2 ∙ ap (λ (r : Option Reply). with_reply r m.1) due ∙ ap (with_reply reply) none,
      ),
      ap (λ (x : Contending). x.receiver.arrival) said.0 ∙ answered_arrival mid mid.receiver.over refl ∙ heard.arrived,
    )

-- ---- Why a station on its way fails.

pub of_run : (f : StationFault) (failed : LineFault → Type 0) (babbled : Type 0) (over : Bool) → IsCause failed babbled over f → IsOfRun f
of_run (fault.Line f) failed babbled over cause = tt
of_run fault.Babble failed babbled over cause = tt
of_run fault.Over failed babbled over cause = tt
of_run (fault.BadJob n) failed babbled over cause = absurd cause
of_run fault.OutOfMemory failed babbled over cause = absurd cause

pub runs_fail : {A : Type 0} (r : Result A StationFault) (failed : LineFault → Type 0) (babbled : Type 0) (over : Bool) → IfErr r (IsCause failed babbled over) → IfErr r IsOfRun
runs_fail (Ok x) failed babbled over cause = tt
runs_fail (Err f) failed babbled over cause = of_run f failed babbled over cause
