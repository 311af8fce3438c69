-- What is given is the answer to what was said last.
use Rattle.std.proofs.Common.{◌≡◌, ◌≢◌, refl, sym, ◌∙◌, ap, ℕ, Bool, true, false, ◌+◌, ◌-◌, ◌<◌, ◌≤◌, ◌==◌, ◌&&◌, not, if◌then◌else◌, Option, Some, None, [], ◌∷◌, inl, inr, arith}
use Rattle.std.proofs.lemmas.Bool.{cases_Bool, cases_eq, cases_lt, ne_eqb, lt-ltb, le-ltb, true≢false}
use Rattle.std.proofs.lemmas.Option.{none-some}
use Rattle.rje_answers.specs.declared.link_event.LinkEvent.{LinkEvent}
use Rattle.rje_answers.specs.declared.given.Given.{Given}
use Rattle.rje_answers.specs.declared.rest.Rest.{Rest}
use Rattle.rje_answers.specs.declared.said.Said.{Said}
use Rattle.rje_answers.specs.Awaiting.{Kept, given_at, has_answer, takes_bid, is_over, settled, after_saying, after_answer, after_end, after_last, after_vain, hearings}
use Rattle.rje_answers.specs.Law.{Answer, Events, kept_of, things, vain_since, answered, AllHappen, GivesOwnAnswers, ComesWhereAwaited}

-- What an end keeps that has said n things, the first m of which can't be answered any more, with `vains` hearings in vain since each: only the
-- last one may still be answered, and then it is awaited and no answer is held.
pub record Fits (s : Kept Answer) (n m : ℕ) (vains : ℕ → ℕ) : Type 0 where
  pub due : (k : ℕ) → m ≤ k → k < n → vains k < 2 → (k + 1 ≡ n) × (has_answer s.said ≡ true) × (s.held ≡ None)
  pub vain : has_answer s.said ≡ true → s.held ≡ None → s.vain ≤ vains (n - 1)
  pub held : (a : Answer) → s.held ≡ Some a → a.thing + 1 ≡ n

-- where nothing can be answered any more
fits_settled : (s : Kept Answer) (n m : ℕ) (vains : ℕ → ℕ) → n ≤ m → Fits (settled s) n m vains
fits_settled s n m vains over = record {
  due = λ k from below soon. absurd (omega (arith, over, from, below));
  vain = λ awaited held. absurd (true≢false (sym awaited));
  held = λ a is. absurd (none-some a is);
}

-- after something was said
fits_saying : (said : Said) (s : Kept Answer) (n m : ℕ) (vains : ℕ → ℕ) → Fits s n m vains → has_answer s.said ≡ false
    → Fits (after_saying said s) (if has_answer said then n + 1 else n) m (λ k. if n == k then 0 else vains k)
fits_saying said s n m vains fits none = elim (cases_Bool (has_answer said)) [
  | inl e ↦ rw e record {
    due = λ k from below soon. elim (cases_eq n k) [
      | inl same ↦ (omega (arith, same), e, refl)
      | inr other ↦
          let old : vains k < 2 = rw (ne_eqb n k other) at soon in
          absurd (true≢false (sym (fits.due k from (omega (arith, below, other)) old).1 ∙ none))
    ];
    vain = λ awaited held. omega arith;
    held = λ a is. absurd (none-some a is);
  }
  | inr e ↦ rw e record {
    due = λ k from below soon.
        let other : n ≢ k = λ same. omega (arith, same, below) in
        let old : vains k < 2 = rw (ne_eqb n k other) at soon in
        absurd (true≢false (sym (fits.due k from below old).1 ∙ none));
    vain = λ awaited held. omega arith;
    held = λ a is. absurd (none-some a is);
  }
]

-- after an answer that could come
fits_answer : (a : Answer) (s : Kept Answer) (n m : ℕ) (vains : ℕ → ℕ) → Fits s n m vains → m ≤ a.thing → a.thing < n → vains a.thing < 2
    → Fits (after_answer a s) n (a.thing + 1) vains
fits_answer a s n m vains fits from below soon =
    let own = fits.due a.thing from below soon in
    rw own.1 (elim (cases_Bool s.is_late) [
      | inl late ↦ rw late record {
        due = λ k since under still. absurd (omega (arith, own.0, since, under));
        vain = λ awaited held. absurd (none-some a (sym held));
        held = λ b is. let same : a ≡ b = ap (λ o. elim o [ None ↦ a | Some x ↦ x ]) is in rw (sym same) own.0;
      }
      | inr late ↦ let over = fits_settled s n (a.thing + 1) vains (omega (arith, own.0)) in rw late (rw late at over)
    ])

-- a bid, or EOT, after which nothing said before is answered; or one that is passed over
fits_passed : (b : Bool) (s : Kept Answer) (n m : ℕ) (vains : ℕ → ℕ) → Fits s n m vains
    → Fits (if b then settled s else s) n (if b then n else m) vains
fits_passed b s n m vains fits = elim (cases_Bool b) [
  | inl e ↦ rw e (fits_settled s n n vains (omega arith))
  | inr e ↦ rw e fits
]

-- EOT
fits_end : (s : Kept Answer) (n m : ℕ) (vains : ℕ → ℕ) → Fits s n m vains → Fits (after_end s) n n vains
fits_end s n m vains fits = elim (cases_Bool (has_answer s.said)) [
  | inl e ↦ rw e (fits_settled s n n vains (omega arith))
  | inr e ↦ rw e record {
    due = λ k from below soon. absurd (omega (arith, from, below));
    vain = fits.vain;
    held = fits.held;
  }
]

-- a hearing in vain that wasn't the second one
fits_first : (heard : Rest) (s : Kept Answer) (n m : ℕ) (vains : ℕ → ℕ) → Fits s n m vains
    → Fits (record s { vain = s.vain + 1; rest = heard }) n m (λ k. vains k + 1)
fits_first heard s n m vains fits = record {
  due = λ k from below soon. fits.due k from below (omega (arith, soon));
  vain = λ awaited held. let before = fits.vain awaited held in omega (arith, before);
  held = fits.held;
}

-- a second one: nothing can be answered any more
over_two : (s : Kept Answer) (n m : ℕ) (vains : ℕ → ℕ) → Fits s n m vains → hearings s.held ≤ s.vain + 1
    → (k : ℕ) → m ≤ k → k < n → vains k + 1 < 2 → ⊥
over_two s n m vains fits two k from below soon =
    let due = fits.due k from below (omega (arith, soon)) in
    let last : n - 1 ≡ k = omega (arith, due.0) in
    let vain : s.vain ≤ vains k = rw last at fits.vain due.1 due.2 in
    let over : 2 ≤ s.vain + 1 = rw due.2 at two in
    absurd (omega (arith, vain, soon, over))

fits_second : (s : Kept Answer) (n m : ℕ) (vains : ℕ → ℕ) → Fits s n m vains → hearings s.held ≤ s.vain + 1 → Fits (after_last s) n m (λ k. vains k + 1)
fits_second s n m vains fits two = elim (s.held) as (λ h. Fits (elim h [ None ↦ record (settled s) { is_late = true } | Some a ↦ record (settled s) { is_late = false } ]) n m (λ k. vains k + 1)) [
  | None ↦ record {
    due = λ k from below soon. absurd (over_two s n m vains fits two k from below soon);
    vain = λ awaited held. absurd (true≢false (sym awaited));
    held = λ a is. absurd (none-some a is);
  }
  | Some a ↦ record {
    due = λ k from below soon. absurd (over_two s n m vains fits two k from below soon);
    vain = λ awaited held. absurd (true≢false (sym awaited));
    held = λ a is. absurd (none-some a is);
  }
]

fits_vain : (heard : Rest) (s : Kept Answer) (n m : ℕ) (vains : ℕ → ℕ) → Fits s n m vains → Fits (after_vain heard s) n m (λ k. vains k + 1)
fits_vain heard s n m vains fits = elim (cases_Bool (has_answer s.said)) [
  | inl e ↦ elim (cases_lt (s.vain + 1) (hearings s.held)) [
    | inl less ↦ rw (e, lt-ltb (s.vain + 1) (hearings s.held) less) (fits_first _ s n m vains fits)
    | inr two ↦ rw (e, le-ltb (s.vain + 1) (hearings s.held) two) (fits_second s n m vains fits two)
  ]
  | inr e ↦ rw e record {
    due = λ k from below soon. absurd (true≢false (sym (fits.due k from below (omega (arith, soon))).1 ∙ e));
    vain = λ awaited held. absurd (true≢false (sym awaited ∙ e));
    held = fits.held;
  }
]

-- so it is after all that happens
fits_all : (gives_way : Bool) (past : Events) → AllHappen gives_way past
    → Fits (kept_of gives_way past) (things past) (answered gives_way past) (λ k. vain_since k past)
fits_all gives_way [] all = record {
  due = λ k from below soon. absurd (omega (arith, below));
  vain = λ awaited held. omega arith;
  held = λ a is. absurd (none-some a is);
}
fits_all gives_way (LinkEvent.Says said ∷ past) all = fits_saying said _ _ _ _ (fits_all gives_way past all.1) all.0
fits_all gives_way (LinkEvent.Answer a ∷ past) all =
    fits_answer a _ _ _ _ (fits_all gives_way past all.1) all.0.0 all.0.1 all.0.2
fits_all gives_way (LinkEvent.Bid ∷ past) all = fits_passed (takes_bid (kept_of gives_way past)) _ _ _ _ (fits_all gives_way past all.1)
fits_all gives_way (LinkEvent.End ∷ past) all = fits_end _ _ _ _ (fits_all gives_way past all.1)
fits_all gives_way (LinkEvent.Text ∷ past) all = fits_all gives_way past all.1
fits_all gives_way (LinkEvent.Vain heard ∷ past) all = fits_vain heard _ _ _ _ (fits_all gives_way past all.1)

pub comes_where_awaited : ComesWhereAwaited
comes_where_awaited gives_way past a all may =
    let due = (fits_all gives_way past all).due a.thing may.0 may.1 may.2 in
    (due.1, due.0)

-- the answer that is given, and the one that comes, if one is or does
abbrev answer_in : Given Answer → Option Answer
answer_in (Given.Answer a) = Some a
answer_in _ = None

abbrev came_in : LinkEvent Answer → Option Answer
came_in (LinkEvent.Answer a) = Some a
came_in _ = None

given_held : (h : Option Answer) (n : ℕ) (a : Answer) (rest : Rest) → ((b : Answer) → h ≡ Some b → b.thing + 1 ≡ n)
    → (elim h [ None ↦ Given.InVain rest | Some b ↦ Given.Answer b ]) ≡ Given.Answer a → a.thing + 1 ≡ n
given_held None n a rest held is = absurd (none-some a (ap answer_in is))
given_held (Some b) n a rest held is = held a (ap answer_in is)

given_own : (e : LinkEvent Answer) (s : Kept Answer) (n m : ℕ) (vains : ℕ → ℕ) (a : Answer) → Fits s n m vains
    → ((b : Answer) → e ≡ LinkEvent.Answer b → b.thing + 1 ≡ n) → given_at e s ≡ Given.Answer a → a.thing + 1 ≡ n
given_own (LinkEvent.Says said) s n m vains a fits came is = absurd (none-some a (ap answer_in is))
given_own (LinkEvent.Answer b) s n m vains a fits came is = elim (cases_Bool (has_answer s.said && not s.is_late)) [
  | inl e ↦
      let same : Some b ≡ Some a = ap answer_in (rw e at is) in
      let one : b ≡ a = ap (λ o. elim o [ None ↦ a | Some x ↦ x ]) same in
      rw (sym one) (came b refl)
  | inr e ↦ absurd (none-some a (ap answer_in (rw e at is)))
]
given_own LinkEvent.Bid s n m vains a fits came is = elim (cases_Bool (takes_bid s)) [
  | inl e ↦ absurd (none-some a (ap answer_in (rw e at is)))
  | inr e ↦ absurd (none-some a (ap answer_in (rw e at is)))
]
given_own LinkEvent.End s n m vains a fits came is = elim (cases_Bool (has_answer s.said)) [
  | inl e ↦ absurd (none-some a (ap answer_in (rw e at is)))
  | inr e ↦ absurd (none-some a (ap answer_in (rw e at is)))
]
given_own LinkEvent.Text s n m vains a fits came is = absurd (none-some a (ap answer_in is))
given_own (LinkEvent.Vain heard) s n m vains a fits came is = elim (cases_Bool (has_answer s.said)) [
  | inl e ↦ elim (cases_Bool (is_over s)) [
    | inl two ↦ given_held s.held n a _ fits.held (rw (e, two) at is)
    | inr one ↦ absurd (none-some a (ap answer_in (rw (e, one) at is)))
  ]
  | inr e ↦ absurd (none-some a (ap answer_in (rw e at is)))
]

came_own : (gives_way : Bool) (past : Events) (e : LinkEvent Answer) → AllHappen gives_way (e ∷ past) → (b : Answer) → e ≡ LinkEvent.Answer b → b.thing + 1 ≡ things past
came_own gives_way past (LinkEvent.Says said) all b is = absurd (none-some b (ap came_in is))
came_own gives_way past (LinkEvent.Answer a) all b is =
    let one : a ≡ b = ap (λ o. elim o [ None ↦ a | Some x ↦ x ]) (ap came_in is) in
    rw (sym one) (comes_where_awaited gives_way past a all.1 all.0).1
came_own gives_way past LinkEvent.Bid all b is = absurd (none-some b (ap came_in is))
came_own gives_way past LinkEvent.End all b is = absurd (none-some b (ap came_in is))
came_own gives_way past LinkEvent.Text all b is = absurd (none-some b (ap came_in is))
came_own gives_way past (LinkEvent.Vain heard) all b is = absurd (none-some b (ap came_in is))

pub gives_own : GivesOwnAnswers
gives_own gives_way past e a all is =
    given_own e (kept_of gives_way past) _ _ _ a (fits_all gives_way past all.1) (came_own gives_way past e all) is
