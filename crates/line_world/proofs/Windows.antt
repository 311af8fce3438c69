-- The windows of a schedule, and what is found in them.
use Rattle.std.proofs.Common.{◌≡◌, ◌⊎◌, inl, inr, ℕ, zero, suc, ◌+◌, ◌-◌, ◌<◌, ◌≤◌, ◌↔◌, Bool, true, false, IsTrue, MatchBool, List, [], ◌∷◌, length, get_or, map, take, drop, refl, ap, sym, ◌∙◌, subst, arith}
use Rattle.std.specs.Iterator.{AlwaysYields}
use Rattle.std.specs.List.{AllByRecursion, AllWithin, HoldsAt, range_with_len}
use Rattle.std.specs.Slice.Iter.{windows_rest, windows_size, windows_steps}
use Rattle.std.specs.declared.slice.Windows.{Windows}
use Rattle.std.proofs.lemmas.Bool.{false≢true, cases_lt}
use Rattle.std.proofs.lemmas.Iterator.{YieldsList}
use Rattle.std.proofs.lemmas.List.{drop-drop, length-drop}
use Rattle.std.proofs.lemmas.List.Elements.{All-from_all_within, All-from_recursion, All-weaker, recursion_from_All}
use Rattle.std.proofs.lemmas.List.FromFn.{get_or-map-range_with_len, length-map-range_with_len}
use Rattle.bsc_link.specs.declared.wish.Wish.{Wish}
use Rattle.line_world.specs.declared.fate.Fate.{Fate}
use Rattle.line_world.specs.declared.turn.Turn.{Turn}
use Rattle.line_world.specs.Fairness.{HasGoodPair, IsFair}
use Rattle.line_world.specs.GoodTurn.{IsGood}

-- ---- Each n neighbouring turns.

-- the n turns from turn i on
abbrev pub window : ℕ → List Turn → ℕ → List Turn
window n turns i = take n (drop i turns)

-- so many of them, from turn i on
abbrev windows_from : ℕ → List Turn → ℕ → ℕ → List (List Turn)
windows_from n turns i many = map (window n turns) (range_with_len i many)

abbrev pub windows_of : ℕ → List Turn → List (List Turn)
windows_of n turns = windows_from n turns 0 (length turns + 1 - n)

-- so many windows of n are left in so many turns
abbrev AreLeft : ℕ → ℕ → ℕ → Type 0
AreLeft n many turns = (many + n ≡ turns + 1) ⊎ ((many ≡ 0) × (turns < n))

yields : (n : ℕ) (turns : List Turn) (many i : ℕ) (s : Windows Turn) → windows_size s ≡ n → windows_rest s ≡ drop i turns → 0 < n → AreLeft n many (length (windows_rest s)) → AlwaysYields windows_steps (λ w. w.now) s (windows_from n turns i many)
yields n turns zero i s size rest some (inl left) = λ w t p. omega (arith, p.1.0, size, left)
yields n turns zero i s size rest some (inr left) = λ w t p. omega (arith, p.1.0, size, left.1)
yields n turns (suc many) i s size rest some (inr left) = absurd (omega (arith, left.0))
yields n turns (suc many) i s size rest some (inl left) = (
  (λ t p. omega (arith, p.1.0, size, left)),
  (λ w t p.
      let on : windows_rest t ≡ drop (i + 1) turns = p.1.2 ∙ ap (drop 1) rest ∙ drop-drop 1 i turns in
      let less : length (windows_rest t) + 1 ≡ length (windows_rest s) = omega (arith, ap length p.1.2, length-drop 1 (windows_rest s), p.1.0, size, left, some) in
      (p.1.1 ∙ ap (λ k. take k (windows_rest s)) size ∙ ap (take n) rest, yields n turns many (i + 1) t (p.0 ∙ size) on some (inl (omega (arith, left, less))))),
)

are_left : (n turns : ℕ) → AreLeft n (turns + 1 - n) turns
are_left n turns = elim (cases_lt turns n) [ inl less ↦ inr (omega (arith, less), less) | inr most ↦ inl (omega (arith, most)) ]

pub YieldsList-from_windows : {s : Windows Turn} (n : ℕ) (turns : List Turn) → windows_rest s ≡ turns → windows_size s ≡ n → 0 < n → YieldsList windows_steps (λ w. w.now) s (windows_of n turns)
YieldsList-from_windows {s} n turns rest size some = record { runs = yields n turns (length turns + 1 - n) 0 s size rest some (rw rest (are_left n (length turns))) }

windows_length : (n : ℕ) (turns : List Turn) → length (windows_of n turns) ≡ length turns + 1 - n
windows_length n turns = length-map-range_with_len (window n turns) 0 (length turns + 1 - n)

window_at : (n : ℕ) (turns : List Turn) (k : ℕ) (d : List Turn) → k < length (windows_of n turns) → get_or (windows_of n turns) k d ≡ window n turns k
window_at n turns k d l = get_or-map-range_with_len (window n turns) 0 (length turns + 1 - n) k k d (omega (arith, l, windows_length n turns)) (omega arith)

-- ---- All of them are good.

abbrev pub AreGood : List Turn → Type 0
AreGood turns = AllByRecursion IsGood turns

lost : Turn
lost = record { up = Fate.Lost; down = Fate.Lost; wish = Wish.Go; pause = false }

-- what `all` told of the turns
pub good_told : (r : Bool) (turns : List Turn) → MatchBool r (AllWithin IsGood turns 0 (length turns)) ((k : ℕ) × (k < length turns) × HoldsAt (λ turn. IsGood turn → ⊥) turns k) → IsTrue r ↔ AreGood turns
good_told true turns m = (λ _. recursion_from_All IsGood turns (All-from_all_within IsGood turns m), λ _. refl)
good_told false turns m = (λ e. absurd (false≢true e), λ a. absurd (m.2 lost (All-from_recursion IsGood turns a m.0 lost m.1)))

-- ---- A good pair is a window of two.

pair_from : (turns : List Turn) (k : ℕ) → k + 2 ≤ length turns → AreGood (window 2 turns k) → HasGoodPair turns
pair_from [] k l a = absurd (omega (arith, l))
pair_from (x ∷ []) k l a = absurd (omega (arith, l))
pair_from (x ∷ y ∷ turns) zero l a = inl (a.0, a.1.0)
pair_from (x ∷ y ∷ turns) (suc k) l a = inr (pair_from (y ∷ turns) k (omega (arith, l)) a)

pair_in : (turns : List Turn) → HasGoodPair turns → (k : ℕ) × (k + 2 ≤ length turns) × AreGood (window 2 turns k)
pair_in [] p = absurd p
pair_in (x ∷ []) p = absurd p
pair_in (x ∷ y ∷ turns) (inl p) = (0, omega arith, (p.0, (p.1, tt)))
pair_in (x ∷ y ∷ turns) (inr p) = let q = pair_in (y ∷ turns) p in (suc q.0, omega (arith, q.1), q.2)

-- what `any` told of the windows of two
pub pair_told : (r : Bool) (turns : List Turn) → MatchBool r ((k : ℕ) × (k < length (windows_of 2 turns)) × HoldsAt AreGood (windows_of 2 turns) k) (AllWithin (λ w. AreGood w → ⊥) (windows_of 2 turns) 0 (length (windows_of 2 turns)))
    → IsTrue r ↔ HasGoodPair turns
pair_told true turns m = (λ _. pair_from turns m.0 (omega (arith, m.1, windows_length 2 turns)) (subst AreGood (window_at 2 turns m.0 [] m.1) (m.2 [])), λ _. refl)
pair_told false turns m = (
  λ e. absurd (false≢true e),
  (λ p.
      let q = pair_in turns p in
      let l : q.0 < length (windows_of 2 turns) = omega (arith, q.1, windows_length 2 turns) in
      absurd (m q.0 [] (omega arith) l (subst AreGood (sym (window_at 2 turns q.0 [] l)) q.2))),
)

-- ---- A schedule is fair.

-- the receiver wishes nothing, and the sender doesn't wait
abbrev pub IsReady : Turn → Type 0
IsReady turn = (turn.wish ≡ Wish.Go) × (turn.pause ≡ false)

ready_all : (P : Turn → Type 0) → ((turn : Turn) → IsReady turn → P turn) → (turns : List Turn) → AllWithin IsReady turns 0 (length turns) → AllByRecursion P turns
ready_all P weaker turns a = recursion_from_All P turns (All-weaker IsReady P weaker turns (All-from_all_within IsReady turns a))

-- what both calls of `all` told
pub fair_told : (ready r : Bool) (turns : List Turn) (Unready : Type 0) → ready ≡ true → MatchBool ready (AllWithin IsReady turns 0 (length turns)) Unready
    → MatchBool r (AllWithin HasGoodPair (windows_of 8 turns) 0 (length (windows_of 8 turns))) ((k : ℕ) × (k < length (windows_of 8 turns)) × HoldsAt (λ w. HasGoodPair w → ⊥) (windows_of 8 turns) k)
    → IsTrue r ↔ IsFair turns
fair_told false r turns Unready e a m = absurd (false≢true e)
fair_told true true turns Unready e a m = (
  (λ _. record {
    goes = ready_all (λ turn. turn.wish ≡ Wish.Go) (λ turn ready. ready.0) turns a;
    unpaused = ready_all (λ turn. turn.pause ≡ false) (λ turn ready. ready.1) turns a;
    good = λ i l.
        let within : i < length (windows_of 8 turns) = omega (arith, l, windows_length 8 turns) in
        subst HasGoodPair (window_at 8 turns i [] within) (m i [] (omega arith) within);
  }),
  λ _. refl,
)
fair_told true false turns Unready e a m = (
  λ f. absurd (false≢true f),
  λ fair. absurd (m.2 [] (subst HasGoodPair (sym (window_at 8 turns m.0 [] m.1)) (fair.good m.0 (omega (arith, m.1, windows_length 8 turns))))),
)
