-- The loop of a run of two stations that both have jobs: the turns so far are those of a history, and both stations stand where it left them.
use Rattle.std.proofs.Common.{Bool, ◌≡◌, ◌⊎◌, inl, inr, ℕ, ◌+◌, ◌<◌, ◌==◌, false, List, [], ◌∷◌, ◌++◌, length, drop, slice_get, Option, Some, None, refl, ap, sym, ◌∙◌, subst}
use Rattle.bsc_link.specs.declared.outcome.Outcome.{Outcome}
use Rattle.bsc_link.specs.declared.rank.Rank.{Rank}
use Rattle.bsc_link.specs.Sender.{is_enough}
use Rattle.rje_jobs.specs.declared.job.Job.{Job}
use Rattle.rje_jobs.specs.Blocks.{blocks}
use Rattle.rje_station.specs.Sending.{Sending, outcome_of}
use Rattle.rje_station.specs.Station.{Contending, first_contending}
use Rattle.line_world.specs.declared.spoken.Spoken.{Spoken}
use Rattle.bsc_history.specs.History.{Plan, History}
use Rattle.bsc_history.specs.Known.{tries, holds}
use Rattle.bsc_history.specs.Outcome.{gave_up_before, outcome_by}
use Rattle.line_world.specs.Plan.{plan_of}
use Rattle.pair_world.specs.declared.pair_spoken.PairSpoken.{PairSpoken}
use Rattle.pair_world.specs.declared.pair_turn.PairTurn.{PairTurn}
use Rattle.bsc_history.specs.Pair.{SpokenPair, PairHistory, up, down}
use Rattle.bsc_history.specs.PairCount.{spent, down_gives_up, down_gave_up}
use Rattle.bsc_history.specs.PairConversation.{down_outcome}
use Rattle.pair_world.specs.Inside.PairDriving.{TakesPair}
use Rattle.bsc_history.specs.PairSchedule.{NothingIsDue}
use Rattle.pair_world.specs.PairDrive.{SendsAfter, StandPair, IsPairDrive}
use Rattle.pair_world.specs.PairRun.{TellsPair, TellsPairs, pair_of}
use Rattle.pair_world.proofs.Alone.{Laws}
use Rattle.pair_world.proofs.Contends.{contends_first}
use Rattle.pair_world.proofs.PairRuns.{StandsPairRun, cases_jobs, primary_more, secondary_more, both_more, nothing_due}
use Rattle.pair_world.proofs.PairTelling.{told_pair, pairs_longer}
use Rattle.pair_world.proofs.Sends.{SendsBy, sends_first}
use Rattle.line_world.proofs.ForPairs.{SpokenSoFar, outcome_plan, plan_some, some_jobs, spoken_on, told_any, told_length, told_whole}

abbrev pub PairRunning : List Job → List Job → List PairTurn → ℕ → List PairSpoken → Contending → Contending → Type 0
PairRunning ups downs turns n spoken a b = SpokenSoFar pair_of (λ h. StandsPairRun ups downs turns h a b) n spoken

stands_first : (ups downs : List Job) (turns : List PairTurn) → StandsPairRun ups downs turns [] (first_contending Rank.Primary ups) (first_contending Rank.Secondary downs)
stands_first ups downs turns = record {
  before = [];
  told = tt;
  long = refl;
  spoken = record { conversation = tt; placed = tt };
  fits = tt;
  a_live = refl;
  b_live = refl;
  contends = contends_first;
  up_sends = sends_first ups;
  down_sends = sends_first downs;
  up_receives = record { jobs = refl; live = λ g. record { core = refl; jobs = refl; over = λ e. refl } };
  down_receives = record { jobs = refl; live = λ g. record { core = refl; jobs = refl; over = λ e. refl } };
  a_silent = refl;
  b_silent = refl;
  a_said = refl;
  b_said = refl;
  a_heard = refl;
  b_heard = refl;
}

pub pair_first : (ups downs : List Job) (turns : List PairTurn) (spoken : List PairSpoken) (a b : Contending) → spoken ≡ [] → a ≡ first_contending Rank.Primary ups → b ≡ first_contending Rank.Secondary downs → PairRunning ups downs turns 0 spoken a b
pair_first ups downs turns spoken a b e is js = rw (e, is, js) (record { history = []; long = refl; spoken_is = refl; stands = stands_first ups downs turns })

-- ---- One more turn.

pair_same : (t : PairSpoken) (x y : Option Spoken) → t.primary ≡ x → t.secondary ≡ y → t ≡ record { primary = x; secondary = y }
pair_same t x y e f = ap (λ z. record t { primary = z }) e ∙ ap (λ z. record { primary = x; secondary = z }) f

pub pair_more : Laws → (ups downs : List Job) (turns : List PairTurn) (n : ℕ) (spoken spoken' : List PairSpoken) (a b a' b' : Contending) (turn : PairTurn) (t : PairSpoken) → PairRunning ups downs turns n spoken a b → slice_get turns n ≡ Some turn
    → TakesPair (Some t) turn a a' b b' → spoken' ≡ spoken ++ t ∷ [] → PairRunning ups downs turns (n + 1) spoken' a' b'
pair_more laws ups downs turns n spoken spoken' a b a' b' turn t p here took more =
    let there : slice_get turns (length p.history) ≡ Some turn = subst (λ k. slice_get turns k ≡ Some turn) (sym p.long) here in
    let on : (x : SpokenPair) → t ≡ pair_of x → StandsPairRun ups downs turns (x ∷ p.history) a' b' → PairRunning ups downs turns (n + 1) spoken' a' b' = λ x is stands. spoken_on pair_of _ _ n spoken spoken' p x t is more stands in
    elim took [
      | inl w ↦ on _ (pair_same t (Some w.spoken) None w.primary_is w.secondary_is) (primary_more laws ups downs turns p.history a a' b b' turn t p.stands there w)
      | inr (inl w) ↦ on _ (pair_same t None (Some w.spoken) w.primary_is w.secondary_is) (secondary_more laws ups downs turns p.history a a' b b' turn t p.stands there w)
      | inr (inr w) ↦ on _ (pair_same t (Some w.collide.first) (Some w.collide.second) w.collide.primary_is w.collide.secondary_is) (both_more laws ups downs turns p.history a a' b b' turn t p.stands there w)
    ]

-- ---- The end.

down_outcome_some : (plan : Plan) (h : PairHistory) → (plan ≡ [] → ⊥) → down_outcome plan h ≡ outcome_by plan (down_gave_up h) (down_gives_up h) (down h)
down_outcome_some [] h n = absurd (n refl)
down_outcome_some (b ∷ plan) h n = refl

-- a transmission without jobs is done, and another one ends as its core tells
ends_so : (jobs : List Job) (own : History) (b : Bool) (m n : ℕ) (s : Sending) (ending : Option Outcome) → SendsBy jobs own b m n s → (jobs ≡ [] → ending ≡ Some Outcome.Done) → (0 < length jobs → ending ≡ outcome_by (plan_of (blocks jobs)) b (is_enough m n) own)
    → outcome_of s ≡ ending
ends_so jobs own b m n s ending p done ends = elim (cases_jobs jobs) [
  | inl none ↦ let e : s.jobs ≡ [] = p.jobs_are ∙ none in rw e (sym (done none))
  | inr l ↦ let some : (length s.jobs == 0) ≡ false = ap (λ js. length js == 0) p.jobs_are ∙ some_jobs jobs l in rw some (p.core.ends ∙ sym (ends l))
]

sends_after : (jobs : List Job) (own : History) (b : Bool) (m n : ℕ) (s : Sending) → SendsBy jobs own b m n s → SendsAfter jobs own m n s
sends_after jobs own b m n s p = record {
  jobs_are = p.jobs_are;
  says = p.core.says;
  parity = p.core.parity;
  rvi = p.core.rvi;
  tried = p.core.tried;
  held = p.core.held;
  counted = p.counted;
  over = p.over;
}

stand_pair : (ups downs : List Job) (turns : List PairTurn) (h : PairHistory) (a b : Contending) → StandsPairRun ups downs turns h a b → StandPair ups downs h a b
stand_pair ups downs turns h a b s = record {
  a_live = s.a_live;
  b_live = s.b_live;
  a_rank = s.contends.p_rank;
  b_rank = s.contends.q_rank;
  a_place = s.contends.p_place;
  b_place = s.contends.q_place;
  a_noted = s.contends.p_noted;
  a_sends = sends_after ups (up h) (gave_up_before (up h)) (tries (up h)) (holds (up h)) a.sender s.up_sends;
  b_sends = sends_after downs (down h) (down_gave_up h) (spent h).tries (spent h).holds b.sender s.down_sends;
  a_receives = s.down_receives;
  b_receives = s.up_receives;
  a_silent = s.a_silent;
  b_silent = s.b_silent;
  a_said = s.a_said;
  b_said = s.b_said;
  a_heard = s.a_heard;
  b_heard = s.b_heard;
}

whole_pair : Laws → (ups downs : List Job) (turns : List PairTurn) (n : ℕ) (spoken : List PairSpoken) (a b : Contending) → (p : PairRunning ups downs turns n spoken a b) → (length p.history ≡ length turns) ⊎ NothingIsDue (plan_of (blocks ups)) (plan_of (blocks downs)) p.history
    → IsPairDrive ups downs turns spoken a b
whole_pair laws ups downs turns n spoken a b p whole =
    let h = p.history in
    let s = p.stands in
    let rest = told_any TellsPair (told_pair laws.every) (drop (length h) turns) in
    let places = s.before ++ rest.0 in
    let told : TellsPairs turns places = told_whole TellsPair turns (length h) s.before s.told rest.0 rest.1 in
    let long : length turns ≡ length places = told_length TellsPair turns places told in
    let whole_places : (length h ≡ length turns) ⊎ NothingIsDue (plan_of (blocks ups)) (plan_of (blocks downs)) h → (length h ≡ length places) ⊎ NothingIsDue (plan_of (blocks ups)) (plan_of (blocks downs)) h = λ w. elim w [ inl e ↦ inl (e ∙ long) | inr none ↦ inr none ] in
    record {
      run = record {
        history = h;
        places = places;
        conversation = record {
          told = told;
          conversation = record { spoken = pairs_longer (plan_of (blocks ups)) (plan_of (blocks downs)) s.before rest.0 h s.spoken; whole = whole_places whole };
          fits = s.fits;
        };
        spoken_is = p.spoken_is;
        up_side = record { handed_is = s.up_receives.jobs; counted_is = s.up_sends.counted.counted };
        down_side = record { handed_is = s.down_receives.jobs; counted_is = s.down_sends.counted.counted };
        up_ending = ends_so ups (up h) _ _ _ a.sender _ s.up_sends (λ none. rw none refl) (λ l. outcome_plan (plan_of (blocks ups)) (up h) (plan_some ups l));
        down_ending = ends_so downs (down h) _ _ _ b.sender _ s.down_sends (λ none. rw none refl) (λ l. down_outcome_some (plan_of (blocks downs)) h (plan_some downs l));
      };
      stand = stand_pair ups downs turns h a b s;
    }

pub pair_over : Laws → (ups downs : List Job) (turns : List PairTurn) (n : ℕ) (spoken : List PairSpoken) (a b a' b' : Contending) (turn : PairTurn) → PairRunning ups downs turns n spoken a b → slice_get turns n ≡ Some turn → TakesPair None turn a a' b b'
    → IsPairDrive ups downs turns spoken a' b'
pair_over laws ups downs turns n spoken a b a' b' turn p here took =
    let there : slice_get turns (length p.history) ≡ Some turn = subst (λ k. slice_get turns k ≡ Some turn) (sym p.long) here in
    rw (took.2, took.3) (whole_pair laws ups downs turns n spoken a b p (inr (nothing_due laws ups downs turns p.history a a b b turn (record { primary = None; secondary = None }) p.stands there took.0 took.1)))

pub pair_out : Laws → (ups downs : List Job) (turns : List PairTurn) (n : ℕ) (spoken : List PairSpoken) (a b : Contending) → PairRunning ups downs turns n spoken a b → n ≡ length turns → IsPairDrive ups downs turns spoken a b
pair_out laws ups downs turns n spoken a b p out = whole_pair laws ups downs turns n spoken a b p (inl (p.long ∙ out))
