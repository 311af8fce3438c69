-- One turn of the sending station.
use Rattle.std.proofs.Common.{◌≡◌, ◌≢◌, ◌⊎◌, inl, inr, ℕ, ◌+◌, ◌<◌, Bool, false, List, ◌∷◌, length, if◌then◌else◌, refl, ap, sym, ◌∙◌, subst}
use Rattle.std.proofs.lemmas.Bool.{cases_Bool}
use Rattle.bsc_codes.specs.declared.block.Block.{Block}
use Rattle.bsc_link.specs.declared.say.Say.{Say}
use Rattle.bsc_link.specs.declared.sound.Sound.{Sound}
use Rattle.bsc_link.specs.Sender.{SenderState, say_in, sender_hears, sender_sent_end, counts_block, line_for}
use Rattle.rje_jobs.specs.declared.job.Job.{Job}
use Rattle.rje_jobs.specs.Blocks.{blocks}
use Rattle.rje_station.specs.Laws.{HasCounted, CountsBlocks}
use Rattle.rje_station.specs.Sending.{Sending, next_in, next_for, is_done, after_speaking, after_hearing}
use Rattle.bsc_history.specs.declared.spoken_turn.SpokenTurn.{SpokenTurn}
use Rattle.bsc_history.specs.History.{Plan, History, what_follows, is_over}
use Rattle.bsc_history.specs.Known.{known, is_counting, gives_up_now}
use Rattle.bsc_history.specs.SayingRule.{saying}
use Rattle.bsc_history.specs.Cores.{hears_after, sender_after, IsSpoken}
use Rattle.line_world.specs.Inside.Driving.{AfterEnd}
use Rattle.line_world.specs.Plan.{plan_of}
use Rattle.line_world.specs.Turns.{StandsSending, SendingTurns, after_turn}
use Rattle.bsc_history.proofs.ForRuns.{saying-speaks, sender_core_says, sender_core_counts}
use Rattle.line_world.proofs.Planned.{next_is_planned, begins}
use Rattle.rje_station.proofs.Due.{unsent}

core_turn : (plan : Plan) (n : ℕ) (s : SenderState) (rest : List Block) (said : Say) (heard : Sound) (pause : Bool) → said ≢ Say.End → next_in rest ≡ what_follows plan (n + 1)
    → sender_hears s heard (next_for said rest) pause ≡ hears_after plan n s said heard pause
core_turn plan n s rest Say.Bid heard pause x w = refl
core_turn plan n s rest Say.End heard pause x w = absurd (x refl)
core_turn plan n s rest Say.Block heard pause x w = rw w refl
core_turn plan n s rest Say.Again heard pause x w = rw w refl
core_turn plan n s rest Say.Delay heard pause x w = rw w refl
core_turn plan n s rest Say.Ask heard pause x w = rw w refl
core_turn plan n s rest Say.Nothing heard pause x w = rw w refl

done_if : (said : Say) → said ≢ Say.Nothing → is_done said ≡ false
done_if Say.Nothing n = absurd (n refl)
done_if _ n = refl

-- nothing is due just where the conversation is over
pub done_is : (plan : Plan) (gives_up : Bool) (h : History) → is_done (saying plan gives_up h) ≡ is_over h
done_is plan gives_up h = elim (cases_Bool (is_over h)) [
  | inl over ↦ rw over refl
  | inr goes ↦ done_if (saying plan gives_up h) (saying-speaks plan gives_up h goes) ∙ sym goes
]

-- the station's core is due to say what the turn says
says : (jobs : List Job) (h : History) (s : Sending) (t : SpokenTurn) → 0 < length jobs → StandsSending jobs h s → IsSpoken (plan_of (blocks jobs)) (t ∷ h) → say_in s.core.place ≡ t.said
says jobs h s t l p spoken =
    ap (λ x. say_in x.place) p.core ∙ (sender_core_says (plan_of (blocks jobs)) h (begins jobs l) spoken.1).0 ∙ sym spoken.0.said

module _ (jobs : List Job) (h : History) (s : Sending) (t : SpokenTurn) (counted : HasCounted jobs (known h) s) where
  abbrev plan : Plan
  plan = plan_of (blocks jobs)

  -- with EOT no more is counted
  pub counted_last : t.said ≡ Say.End → HasCounted jobs (known (t ∷ h)) (after_speaking s)
  counted_last end =
      let same : known h ≡ known (t ∷ h) = rw end refl in
      let before : HasCounted jobs (known h) (after_speaking s) = record { rest = counted.rest; counted = counted.counted } in
      subst (λ n. HasCounted jobs n (after_speaking s)) same before

  -- after all else the core hears ..
  pub core_on : say_in s.core.place ≡ t.said → t.said ≢ Say.End → (after_hearing (after_speaking s) t.heard t.pause).core ≡ hears_after plan (known h) s.core t.said t.heard t.pause
  core_on said more =
      let same : (after_speaking s).core ≡ s.core = unsent s.core (λ e. more (sym said ∙ e)) in
      let next : next_in s.rest ≡ what_follows plan (known h + 1) = ap next_in counted.rest ∙ next_is_planned (blocks jobs) (known h) in
      ap (λ say. sender_hears (after_speaking s).core t.heard (next_for say s.rest) t.pause) (ap (λ x. say_in x.place) same ∙ said)
      ∙ core_turn plan (known h) (after_speaking s).core s.rest t.said t.heard t.pause more next
      ∙ ap (λ x. hears_after plan (known h) x t.said t.heard t.pause) same

  -- .. and what it counts is counted
  pub counted_on : CountsBlocks → say_in s.core.place ≡ t.said → t.said ≢ Say.End → counts_block (line_for s.core t.heard t.pause) ≡ is_counting h t → HasCounted jobs (known (t ∷ h)) (after_hearing (after_speaking s) t.heard t.pause)
  counted_on law said more counts =
      let same : counts_block (line_for (after_speaking s).core t.heard t.pause) ≡ is_counting h t = ap (λ x. counts_block (line_for x t.heard t.pause)) (unsent s.core (λ e. more (sym said ∙ e))) ∙ counts in
      let before : HasCounted jobs (known h) (after_speaking s) = record { rest = counted.rest; counted = counted.counted } in
      subst (λ c. HasCounted jobs (if c then known h + 1 else known h) (after_hearing (after_speaking s) t.heard t.pause)) same (law.1 jobs (known h) (after_speaking s) t.heard t.pause before)

-- with EOT it ends
ends : (jobs : List Job) (h : History) (s : Sending) (t : SpokenTurn) → 0 < length jobs → StandsSending jobs h s → IsSpoken (plan_of (blocks jobs)) (t ∷ h) → t.said ≡ Say.End
    → StandsSending jobs (t ∷ h) (after_speaking s)
ends jobs h s t l p spoken end =
    let said : say_in s.core.place ≡ Say.End = says jobs h s t l p spoken ∙ end in
    record {
      jobs_are = p.jobs_are;
      core = ap sender_sent_end p.core ∙ rw end refl;
      counted = counted_last jobs h s t p.counted end;
      over = rw (said, end) refl;
    }

-- after all else it hears
hears : CountsBlocks → (jobs : List Job) (h : History) (s : Sending) (t : SpokenTurn) → 0 < length jobs → StandsSending jobs h s → IsSpoken (plan_of (blocks jobs)) (t ∷ h) → t.said ≢ Say.End
    → StandsSending jobs (t ∷ h) (after_hearing (after_speaking s) t.heard t.pause)
hears law jobs h s t l p spoken more =
    let plan = plan_of (blocks jobs) in
    let said = says jobs h s t l p spoken in
    let core : (after_hearing (after_speaking s) t.heard t.pause).core ≡ sender_after plan (t ∷ h) = core_on jobs h s t p.counted said more ∙ ap (λ x. hears_after plan (known h) x t.said t.heard t.pause) p.core in
    record {
      jobs_are = p.jobs_are;
      core = core;
      counted = counted_on jobs h s t p.counted law said more (ap (λ x. counts_block (line_for x t.heard t.pause)) p.core ∙ sender_core_counts plan t h (begins jobs l) spoken);
      over = ap (λ x. is_done (say_in x.place)) core ∙ ap is_done (sender_core_says plan (t ∷ h) (begins jobs l) spoken).0 ∙ done_is plan (gives_up_now (t ∷ h)) (t ∷ h);
    }

-- what a turn makes of the station, by what it says
pub turn_ends : (s : Sending) (t : SpokenTurn) → t.said ≡ Say.End → after_turn s t ≡ after_speaking s
turn_ends s t e = rw e refl

pub turn_hears : (s : Sending) (t : SpokenTurn) (said : Say) → t.said ≡ said → said ≢ Say.End → after_turn s t ≡ after_hearing (after_speaking s) t.heard t.pause
turn_hears s t Say.End e n = absurd (n refl)
turn_hears s t _ e n = rw e refl

pub cases_end : (said : Say) → (said ≡ Say.End) ⊎ (said ≢ Say.End)
cases_end Say.End = inl refl
cases_end _ = inr (λ e. cc)

-- what holds after EOT, and what after all else
pub after_end : (P Q : Type 0) (say : Say) → say ≡ Say.End → AfterEnd say P Q → P
after_end P Q say e h = subst (λ x. AfterEnd x P Q) e h

pub after_more : (P Q : Type 0) (say : Say) → say ≢ Say.End → AfterEnd say P Q → Q
after_more P Q Say.End n h = absurd (n refl)
after_more P Q Say.Bid n h = h
after_more P Q Say.Block n h = h
after_more P Q Say.Again n h = h
after_more P Q Say.Ask n h = h
after_more P Q Say.Delay n h = h
after_more P Q Say.Nothing n h = h

pub sending_turns : CountsBlocks → SendingTurns
sending_turns law jobs h s t l p spoken = elim (cases_end t.said) [
  | inl end ↦ subst (StandsSending jobs (t ∷ h)) (sym (turn_ends s t end)) (ends jobs h s t l p spoken end)
  | inr more ↦ subst (StandsSending jobs (t ∷ h)) (sym (turn_hears s t t.said refl more)) (hears law jobs h s t l p spoken more)
]
