-- On a clean line every job is counted and handed out.
use Rattle.std.proofs.Common.{◌≡◌, inl, inr, ◌+◌, ◌≤◌, false, List, [], ◌∷◌, length, ap, sym, ◌∙◌, subst, arith}
use Rattle.std.specs.List.{AllByRecursion}
use Rattle.std.proofs.lemmas.Bool.{true≢false}
use Rattle.rje_text.specs.Laws.{CutReadsBack}
use Rattle.rje_jobs.specs.Blocks.{blocks}
use Rattle.bsc_history.specs.declared.sound_turn.SoundTurn.{SoundTurn}
use Rattle.line_world.specs.declared.turn.Turn.{Turn}
use Rattle.bsc_history.specs.History.{Plan, History, is_over}
use Rattle.bsc_history.specs.Known.{known}
use Rattle.bsc_history.specs.Conversation.{AreAt, IsConversationOver}
use Rattle.line_world.specs.CleanLine.{CleanLineIsEnough}
use Rattle.line_world.specs.GoodTurn.{IsGood}
use Rattle.line_world.specs.Plan.{plan_of}
use Rattle.line_world.specs.Run.{TellsTurn, TellsSchedule, spoken_turns}
use Rattle.bsc_history.proofs.ForRuns.{conversations_may_be_spoken, AreClean, clean_stands, stays_within_plan}
use Rattle.line_world.proofs.AllKnown.{all_counted, known_if_some}
use Rattle.line_world.proofs.GoodTurn.{AreUnrefused, all_at, clean_turn, unrefused}
use Rattle.line_world.proofs.Numbered.{plan_length}
use Rattle.line_world.proofs.Telling.{told_length, told_at}

-- the turns are clean
clean : (turns : List Turn) (places : List SoundTurn) (h : History) → TellsSchedule turns places → AllByRecursion IsGood turns → AreAt places h → AreUnrefused h → AreClean h
clean turns places [] t g a u = tt
clean turns places (x ∷ past) t g a u =
    let told = told_at TellsTurn turns places (length past) a.0.0 t a.0.1 in
    (clean_turn told.0 a.0.0 x (all_at IsGood turns (length past) told.0 g told.1) told.2 a.0.2 u.0, clean turns places past t g a.1 u.1)

all_known : (plan : Plan) (places : List SoundTurn) (h : History) → IsConversationOver plan places h → AreClean h → length plan + 1 ≤ length places → (plan ≡ [] → ⊥) → known h ≡ length plan
all_known plan places h c clean enough some = elim (clean_stands plan h c.spoken.conversation clean) [
  | inl none ↦ elim c.whole [
    | inl empty ↦ absurd (some empty)
    | inr (inl long) ↦ let zero : length h ≡ 0 = ap length none in absurd (omega (arith, long, zero, enough))
    | inr (inr over) ↦ absurd (true≢false (sym over ∙ ap is_over none))
  ]
  | inr (inl (k, long, s)) ↦ elim c.whole [
    | inl empty ↦ absurd (some empty)
    | inr (inl all) ↦
        let most : known h ≤ length plan = (stays_within_plan plan h (conversations_may_be_spoken plan h c.spoken.conversation)).0 in
        omega (arith, most, s.known_is, long, all, enough)
    | inr (inr over) ↦ absurd (true≢false (sym over ∙ s.goes_on))
  ]
  | inr (inr done) ↦ done.known_is
]

pub clean_line_is_enough : CutReadsBack → CleanLineIsEnough
clean_line_is_enough back jobs turns spoken handed counted ending fit good enough run quiet =
    let plan = plan_of (blocks jobs) in
    let h = run.history in
    let c = run.conversation.conversation in
    let room : length plan + 1 ≤ length run.places = omega (arith, enough, plan_length (blocks jobs), told_length TellsTurn turns run.places run.conversation.told) in
    let turned : AllByRecursion (λ t. t.refused ≡ false) (spoken_turns h) = subst (AllByRecursion (λ t. t.refused ≡ false)) run.spoken_is quiet in
    let cleaned : AreClean h = clean turns run.places h run.conversation.told good c.spoken.placed (unrefused h turned) in
    all_counted back jobs turns spoken handed counted ending fit run (known_if_some plan run.places h c (all_known plan run.places h c cleaned room))
