-- No end knows the numbers of its answers.
use Rattle.std.proofs.Common.{◌≡◌, refl, true, false, ◌&&◌, not, Option, Some, None, inl, inr, ap, ◌+◌, nat_lt}
use Rattle.std.proofs.lemmas.Bool.{cases_Bool}
use Rattle.rje_answers.specs.declared.link_event.LinkEvent.{LinkEvent}
use Rattle.rje_answers.specs.declared.given.Given.{Given}
use Rattle.rje_answers.specs.declared.rest.Rest.{Rest}
use Rattle.rje_answers.specs.Awaiting.{Kept, kept_after, given_at, has_answer, takes_bid, hearings, is_over, settled, louder}
use Rattle.rje_answers.specs.Law.{Answer, TellsNoNumbers, without_number, given_without, held_without, kept_without}

hearings_same : (h : Option Answer) → hearings (held_without h) ≡ hearings h
hearings_same None = refl
hearings_same (Some a) = refl

over_same : (k : Kept Answer) → is_over (kept_without k) ≡ is_over k
over_same k = ap (λ n. not (nat_lt (k.vain + 1) n)) (hearings_same k.held)

two_same : (k : Kept Answer) (h : Option Answer)
    → (elim (held_without h) [ None ↦ record (settled (kept_without k)) { is_late = true } | Some a ↦ record (settled (kept_without k)) { is_late = false } ])
    ≡ kept_without (elim h [ None ↦ record (settled k) { is_late = true } | Some a ↦ record (settled k) { is_late = false } ])
two_same k None = refl
two_same k (Some a) = refl

given_two_same : (heard : Rest) (k : Kept Answer) (h : Option Answer)
    → (elim (held_without h) [ None ↦ Given.InVain (louder heard k.rest) | Some a ↦ Given.Answer a ])
    ≡ given_without (elim h [ None ↦ Given.InVain (louder heard k.rest) | Some a ↦ Given.Answer a ])
given_two_same heard k None = refl
given_two_same heard k (Some a) = refl

kept_same : (e : LinkEvent Answer) (k : Kept Answer) → kept_after (without_number e) (kept_without k) ≡ kept_without (kept_after e k)
kept_same (LinkEvent.Says said) k = refl
kept_same (LinkEvent.Answer a) k = elim (cases_Bool (has_answer k.said)) [
  | inl e ↦ elim (cases_Bool k.is_late) [ inl l ↦ rw (e, l) refl | inr l ↦ rw (e, l) refl ]
  | inr e ↦ rw e refl
]
kept_same LinkEvent.Bid k = elim (cases_Bool (takes_bid k)) [ inl e ↦ rw e refl | inr e ↦ rw e refl ]
kept_same LinkEvent.End k = elim (cases_Bool (has_answer k.said)) [ inl e ↦ rw e refl | inr e ↦ rw e refl ]
kept_same LinkEvent.Text k = refl
kept_same (LinkEvent.Vain heard) k = elim (cases_Bool (has_answer k.said)) [
  | inl e ↦ elim (cases_Bool (is_over k)) [ inl o ↦ rw (e, over_same k, o) (two_same k k.held) | inr o ↦ rw (e, over_same k, o) refl ]
  | inr e ↦ rw e refl
]

given_same : (e : LinkEvent Answer) (k : Kept Answer) → given_at (without_number e) (kept_without k) ≡ given_without (given_at e k)
given_same (LinkEvent.Says said) k = refl
given_same (LinkEvent.Answer a) k = elim (cases_Bool (has_answer k.said && not k.is_late)) [ inl e ↦ rw e refl | inr e ↦ rw e refl ]
given_same LinkEvent.Bid k = elim (cases_Bool (takes_bid k)) [ inl e ↦ rw e refl | inr e ↦ rw e refl ]
given_same LinkEvent.End k = elim (cases_Bool (has_answer k.said)) [ inl e ↦ rw e refl | inr e ↦ rw e refl ]
given_same LinkEvent.Text k = refl
given_same (LinkEvent.Vain heard) k = elim (cases_Bool (has_answer k.said)) [
  | inl e ↦ elim (cases_Bool (is_over k)) [ inl o ↦ rw (e, over_same k, o) (given_two_same heard k k.held) | inr o ↦ rw (e, over_same k, o) refl ]
  | inr e ↦ rw e refl
]

pub tells_no_numbers : TellsNoNumbers
tells_no_numbers e k = (kept_same e k, given_same e k)
