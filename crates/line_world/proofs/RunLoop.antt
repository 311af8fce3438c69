-- The loop of a run: the turns so far are those of a history, and both stations stand where it left them.
use Rattle.std.proofs.Common.{◌≡◌, ◌⊎◌, inl, inr, ℕ, suc, ◌+◌, ◌<◌, ◌==◌, true, false, ◌&&◌, List, [], ◌∷◌, ◌++◌, length, drop, slice_get, Some, if◌then◌else◌, refl, ap, sym, ◌∙◌, subst, arith, rules}
use Rattle.std.proofs.lemmas.Bool.{true≢false}
use Rattle.bsc_link.specs.declared.outcome.Outcome.{Outcome}
use Rattle.bsc_link.specs.declared.sound.Sound.{Sound}
use Rattle.bsc_link.specs.Sender.{say_in, outcome_in}
use Rattle.rje_jobs.specs.declared.job.Job.{Job}
use Rattle.rje_jobs.specs.Blocks.{blocks}
use Rattle.rje_station.specs.Receiving.{Receiving, first_receiving}
use Rattle.rje_station.specs.Sending.{Sending, first_sending, outcome_of}
use Rattle.line_world.specs.declared.fate.Fate.{Fate}
use Rattle.bsc_history.specs.declared.sound_turn.SoundTurn.{SoundTurn}
use Rattle.line_world.specs.declared.spoken.Spoken.{Spoken}
use Rattle.line_world.specs.declared.turn.Turn.{Turn}
use Rattle.line_world.specs.declared.turn_fault.TurnFault.{TurnFault}
use Rattle.line_world.specs.declared.turn_fault.TurnFault.TheVariants as Fault
use Rattle.bsc_history.specs.History.{Plan, History, is_over}
use Rattle.bsc_history.specs.Known.{gives_up_now}
use Rattle.bsc_history.specs.Outcome.{outcome, outcome_after}
use Rattle.bsc_history.specs.Conversation.{is_block}
use Rattle.line_world.specs.Damage.{HasBadCut, IsNoDamage}
use Rattle.line_world.specs.Drive.{IsDrive}
use Rattle.line_world.specs.Inside.Driving.{TakesTurn, BreaksIn, IsTurnFault}
use Rattle.line_world.specs.Faults.{fault_at}
use Rattle.line_world.specs.Plan.{plan_of}
use Rattle.bsc_history.specs.ReplyRule.{replying}
use Rattle.line_world.specs.Run.{TellsTurn, TellsSchedule, BreaksTurn, BreaksFirst, IsDriveFault, as_it_is, spoken_of, spoken_turns}
use Rattle.line_world.proofs.Comings.{said_told}
use Rattle.line_world.proofs.OneDirection.{breaks_replied, breaks_said, turn_of}
use Rattle.rje_station.proofs.Uncounted.{blocks_begun, blocks_some}
use Rattle.line_world.proofs.Planned.{begins}
use Rattle.bsc_history.proofs.ForRuns.{conversations_are_spoken, sender_core_says}
use Rattle.line_world.proofs.ReceivingTurns.{refused_block}
use Rattle.line_world.proofs.RunTurns.{Laws, StandsRun, turn_more, due_is, goes_on, answer_is}
use Rattle.line_world.proofs.SoFar.{SpokenSoFar, spoken_on}
use Rattle.line_world.proofs.Telling.{told_turn, told_length, told_any, told_whole, told_with, get_seam, spoken_longer}

pub plan_some : (jobs : List Job) → 0 < length jobs → plan_of (blocks jobs) ≡ [] → ⊥
plan_some jobs l e = let b = blocks_begun jobs l in let f : plan_of (b.first ∷ b.more) ≡ [] = ap plan_of (sym b.is) ∙ e in absurd cc

-- ---- The end.

pub outcome_plan : (plan : Plan) (h : History) → (plan ≡ [] → ⊥) → outcome plan h ≡ outcome_after plan h
outcome_plan [] h n = absurd (n refl)
outcome_plan (b ∷ plan) h n = refl

pub some_jobs : (jobs : List Job) → 0 < length jobs → (length jobs == 0) ≡ false
some_jobs [] l = absurd (omega (arith, l))
some_jobs (j ∷ js) l = search rules

outcome_is : (jobs : List Job) (turns : List Turn) (h : History) (s : Sending) (r : Receiving) → 0 < length jobs → StandsRun jobs turns h s r → outcome_of s ≡ outcome (plan_of (blocks jobs)) h
outcome_is jobs turns h s r l p =
    let plan = plan_of (blocks jobs) in
    let some : (length s.jobs == 0) ≡ false = ap (λ js. length js == 0) p.sends.jobs_are ∙ some_jobs jobs l in
    let core : outcome_in s.core.place ≡ outcome_after plan h = ap (λ x. outcome_in x.place) p.sends.core ∙ (sender_core_says plan h (begins jobs l) (conversations_are_spoken plan h p.spoken.conversation)).1 in
    ap (λ b. if b then Some Outcome.Done else outcome_in s.core.place) some ∙ core ∙ sym (outcome_plan plan h (plan_some jobs l))

no_jobs : (jobs : List Job) → 0 < length jobs → jobs ≡ [] → ⊥
no_jobs jobs l none = omega (arith, l, ap length none)

whole_run : Laws → (jobs : List Job) (turns : List Turn) (h : History) (s : Sending) (r : Receiving) → 0 < length jobs → StandsRun jobs turns h s r → (length h ≡ length turns) ⊎ (is_over h ≡ true)
    → IsDrive jobs turns (spoken_turns h) s r
whole_run laws jobs turns h s r l p whole =
    let rest = told_any TellsTurn (told_turn laws.every) (drop (length h) turns) in
    let places = p.before ++ rest.0 in
    let told : TellsSchedule turns places = told_whole TellsTurn turns (length h) p.before p.told rest.0 rest.1 in
    let ended : (length h ≡ length places) ⊎ (is_over h ≡ true) = elim whole [ inl long ↦ inl (long ∙ told_length TellsTurn turns places told) | inr over ↦ inr over ] in
    record {
      run = record {
        history = h;
        places = places;
        conversation = record {
          told = told;
          conversation = record { empty = λ none. absurd (plan_some jobs l none); spoken = spoken_longer (plan_of (blocks jobs)) p.before rest.0 h p.spoken; whole = inr ended };
          fits = p.fits;
        };
        spoken_is = refl;
        handed_is = p.receives.jobs;
        counted_is = p.sends.counted.counted;
        ending_is = outcome_is jobs turns h s r l p;
      };
      stand = record { idle = λ none. absurd (no_jobs jobs l none); sends = λ some. p.sends; receives = p.receives; silent = p.silent; said = p.said; heard = p.heard };
    }

-- with no jobs nothing is said
empty_run : Laws → (turns : List Turn) → IsDrive [] turns [] (first_sending []) first_receiving
empty_run laws turns =
    let told = told_any TellsTurn (told_turn laws.every) turns in
    record {
      run = record {
        history = [];
        places = told.0;
        conversation = record { told = told.1; conversation = record { empty = λ none. refl; spoken = record { conversation = tt; placed = tt }; whole = inl refl }; fits = tt };
        spoken_is = refl;
        handed_is = refl;
        counted_is = refl;
        ending_is = refl;
      };
      stand = record { idle = λ none. (refl, refl); sends = λ some. absurd (some refl); receives = record { core = refl; jobs = refl; over = λ e. refl }; silent = refl; said = refl; heard = refl };
    }

-- ---- A broken rule.

module _ (laws : Laws) (jobs : List Job) (turns : List Turn) (h : History) (s : Sending) (r : Receiving) (turn : Turn) (l : 0 < length jobs) (p : StandsRun jobs turns h s r) (here : slice_get turns (length h) ≡ Some turn) where
  -- what the schedule tells after this turn
  abbrev rest_told : (places : List SoundTurn) × TellsSchedule (drop (suc (length h)) turns) places
  rest_told = told_any TellsTurn (told_turn laws.every) (drop (suc (length h)) turns)

  abbrev places_with : SoundTurn → List SoundTurn
  places_with place = p.before ++ place ∷ rest_told.0

  first_with : (Breaks : Fate → Sound → List ℕ → Type 0) (place : SoundTurn) → TellsTurn turn place → s.over ≡ false → BreaksTurn Breaks as_it_is (blocks jobs) (gives_up_now h) h turn place → BreaksFirst Breaks (blocks jobs) turns (places_with place) (length h + 1)
  first_with Breaks place tells live breaks = record {
    told = told_with TellsTurn turns (length h) p.before p.told turn place rest_told.0 here tells rest_told.1;
    past = h;
    before = refl;
    some_block = blocks_some jobs l;
    spoken = spoken_longer (plan_of (blocks jobs)) p.before (place ∷ rest_told.0) h p.spoken;
    fits = p.fits;
    goes_on = goes_on jobs turns h s r p live;
    turn = turn;
    here = here;
    place = place;
    there = subst (λ n. slice_get (places_with place) n ≡ Some place) p.long (get_seam p.before place _);
    breaks = breaks;
  }

  pub turn_breaks : (Breaks : Fate → Sound → List ℕ → Type 0) → BreaksIn Breaks turn s r → (places : List SoundTurn) × BreaksFirst Breaks (blocks jobs) turns places (length h + 1)
  turn_breaks Breaks b =
      let say = say_in s.core.place in
      let due = due_is jobs turns h s r l p in
      let left = p.sends.counted.rest in
      let broken : (place : SoundTurn) × TellsTurn turn place × BreaksTurn Breaks as_it_is (blocks jobs) (gives_up_now h) h turn place = elim b.breaks [
        | inl up ↦ breaks_said laws.every Breaks as_it_is (blocks jobs) (gives_up_now h) h turn say s.rest b.sent due left b.written up
        | inr d ↦
            let told = said_told laws.one laws.transmits turn.up say s.rest b.sent d.up.what d.arrived b.written d.up.carried d.up.arrived_is in
            let block : d.refused ≡ (d.refused && is_block d.arrived) = refused_block d.up.what _ d.refused d.up.may ∙ ap (λ x. d.refused && is_block x) (sym d.up.arrived_is) in
            let answer : d.answer ≡ replying h d.arrived d.refused turn.wish = answer_is jobs turns h s r turn _ b.sent d.middle d.arrived d.refused d.answer p (goes_on jobs turns h s r p b.live) d.up in
            breaks_replied laws.every Breaks as_it_is (blocks jobs) (gives_up_now h) h turn say s.rest b.sent due left b.written d.arrived d.refused d.middle.due d.up.carried.fits told block (sym answer ∙ d.up.reply_is) d.breaks
      ] in
      (places_with broken.0, first_with Breaks broken.0 broken.1 b.live broken.2)

-- ---- The loop.

-- with no jobs nothing was done yet
pub record IsIdle (jobs : List Job) (h : History) (s : Sending) (r : Receiving) : Type 0 where
  pub none : jobs ≡ []
  pub silent : h ≡ []
  pub sender : s ≡ first_sending []
  pub receiver : r ≡ first_receiving

abbrev pub Running : List Job → List Turn → ℕ → List Spoken → Sending → Receiving → Type 0
Running jobs turns n spoken s r = SpokenSoFar spoken_of (λ h. IsIdle jobs h s r ⊎ ((0 < length jobs) × StandsRun jobs turns h s r)) n spoken

stands_first : (jobs : List Job) (turns : List Turn) → 0 < length jobs → StandsRun jobs turns [] (first_sending jobs) first_receiving
stands_first jobs turns l = record {
  before = [];
  told = tt;
  spoken = record { conversation = tt; placed = tt };
  long = refl;
  fits = tt;
  sends = record { jobs_are = refl; core = refl; counted = record { rest = refl; counted = refl }; over = some_jobs jobs l };
  receives = record { core = refl; jobs = refl; over = λ e. refl };
  silent = refl;
  said = refl;
  heard = refl;
}

first_of : (jobs : List Job) (turns : List Turn) → Running jobs turns 0 [] (first_sending jobs) first_receiving
first_of [] turns = record { history = []; long = refl; spoken_is = refl; stands = inl (record { none = refl; silent = refl; sender = refl; receiver = refl }) }
first_of (j ∷ js) turns = record { history = []; long = refl; spoken_is = refl; stands = inr (omega arith, stands_first (j ∷ js) turns (omega arith)) }

pub running_first : (jobs : List Job) (turns : List Turn) (spoken : List Spoken) (s : Sending) (r : Receiving) → spoken ≡ [] → s ≡ first_sending jobs → r ≡ first_receiving → Running jobs turns 0 spoken s r
running_first jobs turns spoken s r e sender receiver = rw (e, sender, receiver) (first_of jobs turns)

-- a station that has no jobs is over
idle_over : (jobs : List Job) (h : History) (s : Sending) (r : Receiving) → IsIdle jobs h s r → s.over ≡ true
idle_over jobs h s r i = ap (λ x. x.over) i.sender

pub running_more : Laws → (jobs : List Job) (turns : List Turn) (n : ℕ) (spoken spoken' : List Spoken) (s s' : Sending) (r r' : Receiving) (turn : Turn) (t : Spoken) → Running jobs turns n spoken s r → slice_get turns n ≡ Some turn
    → TakesTurn turn s s' r r' t → spoken' ≡ spoken ++ t ∷ [] → Running jobs turns (n + 1) spoken' s' r'
running_more laws jobs turns n spoken spoken' s s' r r' turn t p here took more = elim p.stands [
  | inl idle ↦ absurd (true≢false (sym (idle_over jobs p.history s r idle) ∙ took.live))
  | inr (l, stands) ↦
      let there : slice_get turns (length p.history) ≡ Some turn = subst (λ k. slice_get turns k ≡ Some turn) (sym p.long) here in
      spoken_on spoken_of _ _ n spoken spoken' p (turn_of turn t) t refl more (inr (l, turn_more laws jobs turns p.history s s' r r' turn t l stands there took))
]

whole_if : Laws → (jobs : List Job) (turns : List Turn) (n : ℕ) (spoken : List Spoken) (s : Sending) (r : Receiving) → (p : Running jobs turns n spoken s r) → (StandsRun jobs turns p.history s r → (length p.history ≡ length turns) ⊎ (is_over p.history ≡ true))
    → IsDrive jobs turns spoken s r
whole_if laws jobs turns n spoken s r p whole = elim p.stands [
  | inl idle ↦ rw (idle.none, p.spoken_is, idle.silent, idle.sender, idle.receiver) (empty_run laws turns)
  | inr (l, stands) ↦ rw p.spoken_is (whole_run laws jobs turns p.history s r l stands (whole stands))
]

pub running_over : Laws → (jobs : List Job) (turns : List Turn) (n : ℕ) (spoken : List Spoken) (s : Sending) (r : Receiving) → Running jobs turns n spoken s r → s.over ≡ true → IsDrive jobs turns spoken s r
running_over laws jobs turns n spoken s r p over = whole_if laws jobs turns n spoken s r p (λ stands. inr (sym stands.sends.over ∙ over))

pub running_out : Laws → (jobs : List Job) (turns : List Turn) (n : ℕ) (spoken : List Spoken) (s : Sending) (r : Receiving) → Running jobs turns n spoken s r → n ≡ length turns → IsDrive jobs turns spoken s r
running_out laws jobs turns n spoken s r p out = whole_if laws jobs turns n spoken s r p (λ stands. inl (p.long ∙ out))

pub running_jobs : (jobs : List Job) (turns : List Turn) (n : ℕ) (spoken : List Spoken) (s : Sending) (r : Receiving) → Running jobs turns n spoken s r → s.jobs ≡ jobs
running_jobs jobs turns n spoken s r p = elim p.stands [
  | inl idle ↦ ap (λ x. x.jobs) idle.sender ∙ sym idle.none
  | inr (l, stands) ↦ stands.sends.jobs_are
]

pub running_breaks : Laws → (jobs : List Job) (turns : List Turn) (n : ℕ) (spoken : List Spoken) (s : Sending) (r : Receiving) (turn : Turn) (Breaks : Fate → Sound → List ℕ → Type 0) → Running jobs turns n spoken s r → slice_get turns n ≡ Some turn
    → BreaksIn Breaks turn s r → (places : List SoundTurn) × BreaksFirst Breaks (blocks jobs) turns places (n + 1)
running_breaks laws jobs turns n spoken s r turn Breaks p here b = elim p.stands [
  | inl idle ↦ absurd (true≢false (sym (idle_over jobs p.history s r idle) ∙ b.live))
  | inr (l, stands) ↦
      let there : slice_get turns (length p.history) ≡ Some turn = subst (λ k. slice_get turns k ≡ Some turn) (sym p.long) here in
      let first = turn_breaks laws jobs turns p.history s r turn l stands there Breaks b in
      (first.0, subst (λ k. BreaksFirst Breaks (blocks jobs) turns first.0 (k + 1)) p.long first.1)
]

pub drive_fault : Laws → (jobs : List Job) (turns : List Turn) (n : ℕ) (spoken : List Spoken) (s : Sending) (r : Receiving) (turn : Turn) (fault : TurnFault) → Running jobs turns n spoken s r → slice_get turns n ≡ Some turn
    → IsTurnFault turn s r fault → IsDriveFault jobs turns (fault_at fault (n + 1))
drive_fault laws jobs turns n spoken s r turn Fault.OutOfMemory p here b = tt
drive_fault laws jobs turns n spoken s r turn Fault.NotDamage p here b = (refl, running_breaks laws jobs turns n spoken s r turn IsNoDamage p here b)
drive_fault laws jobs turns n spoken s r turn Fault.BadCut p here b = (refl, running_breaks laws jobs turns n spoken s r turn HasBadCut p here b)
