-- On a fair line every job is counted and handed out.
use Rattle.std.proofs.Common.{◌≡◌, inl, inr, ℕ, zero, suc, ◌+◌, ◌-◌, ◌*◌, ◌<◌, ◌≤◌, false, List, [], ◌∷◌, length, take, drop, slice_get, Some, refl, ◌∙◌, subst, arith}
use Rattle.std.specs.List.{AllByRecursion}
use Rattle.std.proofs.lemmas.Bool.{cases_eq}
use Rattle.std.proofs.lemmas.List.{length-take}
use Rattle.std.proofs.lemmas.Option.{slice_get_within}
use Rattle.bsc_link.specs.declared.wish.Wish.{Wish}
use Rattle.rje_text.specs.Laws.{CutReadsBack}
use Rattle.rje_jobs.specs.Blocks.{blocks}
use Rattle.bsc_history.specs.declared.sound_turn.SoundTurn.{SoundTurn}
use Rattle.bsc_history.specs.declared.spoken_turn.SpokenTurn.{SpokenTurn}
use Rattle.line_world.specs.declared.turn.Turn.{Turn}
use Rattle.bsc_history.specs.History.{Plan, History}
use Rattle.bsc_history.specs.Known.{known}
use Rattle.bsc_history.specs.Conversation.{AreAt, IsConversationOver}
use Rattle.line_world.specs.Fairness.{HasGoodPair, IsFair, FairLineIsEnough}
use Rattle.line_world.specs.GoodTurn.{IsGood}
use Rattle.line_world.specs.Plan.{plan_of}
use Rattle.line_world.specs.Run.{TellsTurn, TellsSchedule}
use Rattle.line_world.proofs.AllKnown.{all_counted, known_if_some}
use Rattle.bsc_history.proofs.ForRuns.{HasCleanPair, IsFairNow, AreFair, known_in_time, IsClean, ArePlain}
use Rattle.line_world.proofs.GoodTurn.{AreUnrefused, all_at, clean_turn, unrefused}
use Rattle.line_world.proofs.Numbered.{plan_length}
use Rattle.line_world.proofs.Telling.{told_length, told_at}

-- ---- The turns are plain.

plain : (turns : List Turn) (places : List SoundTurn) (h : History) → TellsSchedule turns places → IsFair turns → AreAt places h → AreUnrefused h → ArePlain h
plain turns places [] t f a u = tt
plain turns places (x ∷ past) t f a u =
    let told = told_at TellsTurn turns places (length past) a.0.0 t a.0.1 in (
      record {
        goes = a.0.2.wish ∙ told.2.wish ∙ all_at (λ turn. turn.wish ≡ Wish.Go) turns (length past) told.0 f.goes told.1;
        unpaused = a.0.2.pause ∙ told.2.pause ∙ all_at (λ turn. turn.pause ≡ false) turns (length past) told.0 f.unpaused told.1;
        unrefused = u.0;
      },
      plain turns places past t f a.1 u.1,
    )

-- ---- A pair of good turns by their numbers.

record PairAt (turns : List Turn) (m : ℕ) : Type 0 where
  one : Turn
  next : Turn
  here : slice_get turns m ≡ Some one
  there : slice_get turns (suc m) ≡ Some next
  good : IsGood one
  good_next : IsGood next

pair_at : (turns : List Turn) → HasGoodPair turns → (m : ℕ) × PairAt turns m
pair_at [] p = absurd p
pair_at (x ∷ []) p = absurd p
pair_at (x ∷ y ∷ turns) (inl p) = (0, record { one = x; next = y; here = refl; there = refl; good = p.0; good_next = p.1 })
pair_at (x ∷ y ∷ turns) (inr p) =
    let q = pair_at (y ∷ turns) p in
    (suc q.0, record { one = q.1.one; next = q.1.next; here = q.1.here; there = q.1.there; good = q.1.good; good_next = q.1.good_next })

taken_at : (n : ℕ) (turns : List Turn) (k : ℕ) (turn : Turn) → slice_get (take n turns) k ≡ Some turn → slice_get turns k ≡ Some turn
taken_at zero turns zero turn e = absurd cc
taken_at zero turns (suc k) turn e = absurd cc
taken_at (suc n) [] k turn e = e
taken_at (suc n) (x ∷ turns) zero turn e = e
taken_at (suc n) (x ∷ turns) (suc k) turn e = taken_at n turns k turn e

same_place : (turns : List Turn) (k m : ℕ) (turn : Turn) → k ≡ m → slice_get turns k ≡ Some turn → slice_get turns m ≡ Some turn
same_place turns k m turn same e = subst (λ n. slice_get turns n ≡ Some turn) same e

dropped_at : (n : ℕ) (turns : List Turn) (k : ℕ) (turn : Turn) → slice_get (drop n turns) k ≡ Some turn → slice_get turns (n + k) ≡ Some turn
dropped_at zero turns k turn e = same_place turns k (0 + k) turn (omega arith) e
dropped_at (suc n) [] zero turn e = absurd cc
dropped_at (suc n) [] (suc k) turn e = absurd cc
dropped_at (suc n) (x ∷ turns) k turn e = same_place (x ∷ turns) (suc (n + k)) (suc n + k) turn (omega arith) (dropped_at n turns k turn e)

window_at : (n i k : ℕ) (turns : List Turn) (turn : Turn) → slice_get (take n (drop i turns)) k ≡ Some turn → slice_get turns (i + k) ≡ Some turn
window_at n i k turns turn e = dropped_at i turns k turn (taken_at n (drop i turns) k turn e)

-- ---- The clean turns of a history.

-- turn number m, counted from 0, is clean, if there is one
abbrev IsCleanAt : History → ℕ → Type 0
IsCleanAt [] m = Unit {0}
IsCleanAt (t ∷ past) m = (length past ≡ m → IsClean t) × IsCleanAt past m

clean_at : (turns : List Turn) (places : List SoundTurn) (h : History) (m : ℕ) (turn : Turn) → TellsSchedule turns places → AreAt places h → AreUnrefused h → slice_get turns m ≡ Some turn → IsGood turn → IsCleanAt h m
clean_at turns places [] m turn t a u e g = tt
clean_at turns places (x ∷ past) m turn t a u e g =
    let told = told_at TellsTurn turns places (length past) a.0.0 t a.0.1 in (
      (λ l. let same : turn ≡ told.0 = (let f : slice_get turns m ≡ Some told.0 = same_place turns (length past) m told.0 l told.1 in cc) in
          clean_turn told.0 a.0.0 x (subst IsGood same g) told.2 a.0.2 u.0),
      clean_at turns places past m turn t a.1 u.1 e g,
    )

pair_more : (t : SpokenTurn) (past : History) → HasCleanPair past → HasCleanPair (t ∷ past)
pair_more t [] p = p
pair_more t (u ∷ past) p = inr p

-- two clean neighbours among the n newest turns
pair_within : (h : History) (n m : ℕ) → m + 2 ≤ length h → length h ≤ m + n → IsCleanAt h m → IsCleanAt h (m + 1) → HasCleanPair (take n h)
pair_within [] n m low high c d = absurd (omega (arith, low))
pair_within (t ∷ past) zero m low high c d = absurd (omega (arith, low, high))
pair_within (t ∷ []) (suc n) m low high c d = absurd (omega (arith, low))
pair_within (t ∷ u ∷ past) (suc zero) m low high c d = absurd (omega (arith, low, high))
pair_within (t ∷ u ∷ past) (suc (suc n)) m low high c d = elim (cases_eq (length past) m) [
  | inl e ↦ inl (d.0 (omega (arith, e)), c.1.0 e)
  | inr e ↦ pair_more t (take (suc n) (u ∷ past)) (pair_within (u ∷ past) (suc n) m (omega (arith, low, e)) (omega (arith, high)) c.1 d.1)
]

-- ---- Each eight neighbouring turns hold two neighbouring clean ones.

long_enough : (places : List SoundTurn) (t : SpokenTurn) (past : History) → AreAt places (t ∷ past) → length (t ∷ past) ≤ length places
long_enough places t past a = let l : length past < length places = slice_get_within places (length past) a.0.0 a.0.1 in omega (arith, l)

fair_now : (turns : List Turn) (places : List SoundTurn) (t : SpokenTurn) (past : History) → TellsSchedule turns places → IsFair turns → AreAt places (t ∷ past) → AreUnrefused (t ∷ past) → IsFairNow (t ∷ past)
fair_now turns places t past told f a u eight =
    let h = t ∷ past in
    let i = length h - 8 in
    let within : length h ≤ length turns = omega (arith, long_enough places t past a, told_length TellsTurn turns places told) in
    let p = pair_at (take 8 (drop i turns)) (f.good i (omega (arith, within, eight))) in
    let m = i + p.0 in
    let last : suc p.0 < 8 = omega (arith, slice_get_within (take 8 (drop i turns)) (suc p.0) p.1.next p.1.there, length-take 8 (drop i turns)) in
    let there : slice_get turns (m + 1) ≡ Some p.1.next = same_place turns (i + suc p.0) (m + 1) p.1.next (omega arith) (window_at 8 i (suc p.0) turns p.1.next p.1.there) in
    pair_within h 8 m (omega (arith, last, eight)) (omega (arith, eight))
    (clean_at turns places h m p.1.one told a u (window_at 8 i p.0 turns p.1.one p.1.here) p.1.good)
    (clean_at turns places h (m + 1) p.1.next told a u there p.1.good_next)

fair : (turns : List Turn) (places : List SoundTurn) (h : History) → TellsSchedule turns places → IsFair turns → AreAt places h → AreUnrefused h → AreFair h
fair turns places [] told f a u = tt
fair turns places (t ∷ past) told f a u = (fair_now turns places t past told f a u, fair turns places past told f a.1 u.1)

-- ---- The law.

all_known : (plan : Plan) (places : List SoundTurn) (h : History) → IsConversationOver plan places h → ArePlain h → AreFair h → 7 + 7 * length plan ≤ length places → (plan ≡ [] → ⊥) → known h ≡ length plan
all_known plan places h c plain fair enough some = known_in_time plan h c.spoken.conversation plain fair (elim c.whole [
  | inl empty ↦ absurd (some empty)
  | inr (inl long) ↦ inl (omega (arith, long, enough))
  | inr (inr over) ↦ inr over
])

pub fair_line_is_enough : CutReadsBack → FairLineIsEnough
fair_line_is_enough back jobs turns spoken handed counted ending fit fairness enough run quiet =
    let plan = plan_of (blocks jobs) in
    let h = run.history in
    let c = run.conversation.conversation in
    let told = run.conversation.told in
    let room : 7 + 7 * length plan ≤ length run.places = omega (arith, enough, plan_length (blocks jobs), told_length TellsTurn turns run.places told) in
    let u : AreUnrefused h = unrefused h (subst (AllByRecursion (λ t. t.refused ≡ false)) run.spoken_is quiet) in
    let p = plain turns run.places h told fairness c.spoken.placed u in
    let f = fair turns run.places h told fairness c.spoken.placed u in
    all_counted back jobs turns spoken handed counted ending fit run (known_if_some plan run.places h c (all_known plan run.places h c p f room))
