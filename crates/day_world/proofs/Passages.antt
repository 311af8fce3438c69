-- What comes of a passage that is passed on: the jobs that were sent, and the one in doubt or not.
use Rattle.std.proofs.Common.{◌≡◌, refl, sym, ap, ◌∙◌, subst, ℕ, zero, suc, ◌+◌, ◌<◌, ◌≤◌, Bool, false, if◌then◌else◌, List, [], ◌∷◌, ◌++◌, length, take, ◌⊎◌, inl, inr, arith}
use Rattle.std.proofs.lemmas.Grind.{common_steps}
use Rattle.rje_day.specs.declared.disposition.Disposition.{Disposition}
use Rattle.rje_day.specs.declared.ended.Ended.{Ended}
use Rattle.rje_day.specs.Ended.{disposition_of}
use Rattle.day_world.specs.Passage.{ComesThrough, IsPassedOn, LeavesOneInDoubt, Named, Passage, is_in_doubt, is_sent, with_fate}

-- ---- How a transmission ends.

-- after a job that is in doubt all lie ready
after_doubt : (ended : Ended) (k i : ℕ) → disposition_of ended k ≡ Disposition.InDoubt → disposition_of ended (k + 1 + i) ≡ Disposition.Ready
after_doubt Ended.Done k i e = cc
after_doubt (Ended.Early counted) k i e = grind (arith, common_steps)
after_doubt (Ended.InDoubt counted) k i e = grind (arith, common_steps)

ended_so : (ended : Ended) (k : ℕ) → disposition_of ended k ≡ Disposition.InDoubt → (counted : ℕ) × (ended ≡ Ended.InDoubt counted)
ended_so Ended.Done k e = cc
ended_so (Ended.Early counted) k e = absurd (grind (arith, common_steps))
ended_so (Ended.InDoubt counted) k e = (counted, refl)

-- ---- Those of which something such became.

-- the first of them
first_fate : (is : Disposition → Bool) (ended : Ended) (k : ℕ) (g : Named) (given : List Named) (what : Disposition) → disposition_of ended k ≡ what
    → with_fate is ended k (g ∷ given) ≡ (if is what then g ∷ with_fate is ended (k + 1) given else with_fate is ended (k + 1) given)
first_fate is ended k g given what e = ap (λ d. if is d then g ∷ with_fate is ended (k + 1) given else with_fate is ended (k + 1) given) e

none_such : (is : Disposition → Bool) (ended : Ended) (k : ℕ) (given : List Named) → ((i : ℕ) → i < length given → is (disposition_of ended (k + i)) ≡ false)
    → with_fate is ended k given ≡ []
none_such is ended k [] none = refl
none_such is ended k (g ∷ given) none =
    ap (λ b. if b then g ∷ with_fate is ended (k + 1) given else with_fate is ended (k + 1) given)
    (ap (λ n. is (disposition_of ended n)) (here k) ∙ none 0 (omega arith))
    ∙ none_such is ended (k + 1) given (λ i less. ap (λ n. is (disposition_of ended n)) (next k i) ∙ none (suc i) (omega (arith, less)))
  where
    here : (k : ℕ) → k ≡ k + 0
    here k = omega arith

    next : (k i : ℕ) → k + 1 + i ≡ k + suc i
    next k i = omega arith

not_sent : (what : Disposition) → (what ≡ Disposition.Sent → ⊥) → is_sent what ≡ false
not_sent Disposition.Sent not = absurd (not refl)
not_sent Disposition.InDoubt not = refl
not_sent Disposition.Ready not = refl

-- ---- Those that came.

-- of these jobs, numbered from k on: each that was sent is one of the first n, and none that lies ready
record Reach (ended : Ended) (k n : ℕ) (given : List Named) : Type 0 where
  sent : (i : ℕ) → i < length given → disposition_of ended (k + i) ≡ Disposition.Sent → i < n
  ready : (i : ℕ) → i < length given → disposition_of ended (k + i) ≡ Disposition.Ready → n ≤ i

behind : (ended : Ended) (k n : ℕ) (g : Named) (given : List Named) → Reach ended k (suc n) (g ∷ given) → Reach ended (k + 1) n given
behind ended k n g given r = record {
  sent = λ i less e. let so = r.sent (suc i) (omega (arith, less)) (ap (disposition_of ended) (next k i) ∙ e) in omega (arith, so);
  ready = λ i less e. let so = r.ready (suc i) (omega (arith, less)) (ap (disposition_of ended) (next k i) ∙ e) in omega (arith, so);
}
  where
    next : (k i : ℕ) → k + suc i ≡ k + 1 + i
    next k i = omega arith

abbrev Comes : Ended → (k n : ℕ) → List Named → Type 0
Comes ended k n given =
    (take n given ≡ with_fate is_sent ended k given)
    ⊎ (take n given ≡ with_fate is_sent ended k given ++ with_fate is_in_doubt ended k given)

-- behind one that is in doubt none came
none_behind : (ended : Ended) (k n : ℕ) (given : List Named) → disposition_of ended k ≡ Disposition.InDoubt → Reach ended (k + 1) n given → take n given ≡ []
none_behind ended k zero given e r = refl
none_behind ended k (suc n) [] e r = refl
none_behind ended k (suc n) (h ∷ given) e r = let less = r.ready 0 (omega arith) (after_doubt ended k 0 e) in absurd (omega (arith, less))

comes : (ended : Ended) (k n : ℕ) (given : List Named) → Reach ended k n given → Comes ended k n given
comes ended k zero given r =
    inl (
    sym
    (none_such is_sent ended k given
    (λ i less. not_sent (disposition_of ended (k + i)) (λ e. let so = r.sent i less e in absurd (omega (arith, so))))))
comes ended k (suc n) [] r = inl refl
comes ended k (suc n) (g ∷ given) r = which (comes ended (k + 1) n given (behind ended k n g given r)) (disposition_of ended k) refl
  where
    here : (k : ℕ) → k + 0 ≡ k
    here k = omega arith

    one_sent : disposition_of ended k ≡ Disposition.Sent → Comes ended (k + 1) n given → Comes ended k (suc n) (g ∷ given)
    one_sent e (inl same) = inl (ap (λ xs. g ∷ xs) same ∙ sym (first_fate is_sent ended k g given Disposition.Sent e))
    one_sent e (inr more) =
        inr (
        ap (λ xs. g ∷ xs) more ∙ ap (λ xs. (g ∷ with_fate is_sent ended (k + 1) given) ++ xs) (sym (first_fate is_in_doubt ended k g given Disposition.Sent e))
        ∙ ap (λ xs. xs ++ with_fate is_in_doubt ended k (g ∷ given)) (sym (first_fate is_sent ended k g given Disposition.Sent e)))

    which : Comes ended (k + 1) n given → (what : Disposition) → disposition_of ended k ≡ what → Comes ended k (suc n) (g ∷ given)
    which more Disposition.Sent e = one_sent e more
    which more Disposition.Ready e = let so = r.ready 0 (omega arith) (ap (disposition_of ended) (here k) ∙ e) in absurd (omega (arith, so))
    which more Disposition.InDoubt e =
        inr (
        ap (λ xs. g ∷ xs) (none_behind ended k n given e (behind ended k n g given r)) ∙ ap (λ xs. g ∷ xs) (sym (none_doubted e))
        ∙ sym (first_fate is_in_doubt ended k g given Disposition.InDoubt e) ∙ ap (λ xs. xs ++ with_fate is_in_doubt ended k (g ∷ given)) (sym (none_sent e)))
      where
        none_doubted : disposition_of ended k ≡ Disposition.InDoubt → with_fate is_in_doubt ended (k + 1) given ≡ []
        none_doubted e = none_such is_in_doubt ended (k + 1) given (λ i less. ap is_in_doubt (after_doubt ended k i e))

        none_sent : disposition_of ended k ≡ Disposition.InDoubt → with_fate is_sent ended k (g ∷ given) ≡ []
        none_sent e =
            first_fate is_sent ended k g given Disposition.InDoubt e ∙ none_such is_sent ended (k + 1) given (λ i less. ap is_sent (after_doubt ended k i e))

pub comes_through : (t : Passage) → IsPassedOn t → ComesThrough t
comes_through t p = comes t.ended 0 (length t.kept) t.given (record {
  sent = λ i less e. p.sent i less (ap (disposition_of t.ended) (from_none i) ∙ e);
  ready = λ i less e. p.ready i less (ap (disposition_of t.ended) (from_none i) ∙ e);
})
  where
    from_none : (i : ℕ) → i ≡ 0 + i
    from_none i = omega arith

-- ---- Those in doubt.

abbrev OneAtMost : Ended → List Named → Type 0
OneAtMost ended doubted = (doubted ≡ []) ⊎ ((g : Named) × (doubted ≡ g ∷ []) × ((counted : ℕ) × (ended ≡ Ended.InDoubt counted)))

one_in_doubt : (ended : Ended) (k : ℕ) (given : List Named) → OneAtMost ended (with_fate is_in_doubt ended k given)
one_in_doubt ended k [] = inl refl
one_in_doubt ended k (g ∷ given) = which (one_in_doubt ended (k + 1) given) (disposition_of ended k) refl
  where
    which : OneAtMost ended (with_fate is_in_doubt ended (k + 1) given) → (what : Disposition) → disposition_of ended k ≡ what
        → OneAtMost ended (with_fate is_in_doubt ended k (g ∷ given))
    which more Disposition.Sent e = subst (OneAtMost ended) (sym (first_fate is_in_doubt ended k g given Disposition.Sent e)) more
    which more Disposition.Ready e = subst (OneAtMost ended) (sym (first_fate is_in_doubt ended k g given Disposition.Ready e)) more
    which more Disposition.InDoubt e =
        inr (
          g,
          first_fate is_in_doubt ended k g given Disposition.InDoubt e
              ∙ ap (λ xs. g ∷ xs) (none_such is_in_doubt ended (k + 1) given (λ i less. ap is_in_doubt (after_doubt ended k i e))),
          ended_so ended k e,
        )

pub leaves_one_in_doubt : (t : Passage) → LeavesOneInDoubt t
leaves_one_in_doubt t = one_in_doubt t.ended 0 t.given
