-- What an end that awaits answers gives its station, and when it no longer awaits one.
use Rattle.std.proofs.Common.{◌≡◌, refl, ap, subst, Bool, true, false, ◌&&◌, not, Option, Some, None, [], ◌∷◌, ◌⊎◌, inl, inr, arith}
use Rattle.std.proofs.lemmas.Bool.{cases_Bool}
use Rattle.std.proofs.lemmas.Option.{none-some}
use Rattle.rje_answers.specs.declared.link_event.LinkEvent.{LinkEvent}
use Rattle.rje_answers.specs.declared.given.Given.{Given}
use Rattle.rje_answers.specs.declared.rest.Rest.{Rest}
use Rattle.rje_answers.specs.Awaiting.{Kept, after_answer, after_vain, given_at, has_answer, is_over, kept_after, settled, takes_bid}
use Rattle.rje_answers.specs.Law.{Answer, Events, kept_of}

-- the station is given nothing, and awaits an answer as before; or it awaited one, is given something, and no longer awaits one
abbrev pub Settles : LinkEvent Answer → Kept Answer → (Given Answer → Type 0) → Type 0
Settles e k Ends =
    ((given_at e k ≡ Given.Nothing) × (has_answer (kept_after e k).said ≡ has_answer k.said))
    ⊎ ((has_answer k.said ≡ true) × (has_answer (kept_after e k).said ≡ false) × Ends (given_at e k))

-- an answer, or none after all
abbrev pub EndsWith : Given Answer → Type 0
EndsWith given = ((a : Answer) × (given ≡ Given.Answer a)) ⊎ ((rest : Rest) × (given ≡ Given.InVain rest))

pub answer_settles : (a : Answer) (k : Kept Answer) → Settles (LinkEvent.Answer a) k EndsWith
answer_settles a k = elim (cases_Bool (has_answer k.said)) [
  | inl e ↦ elim (cases_Bool k.is_late) [
    | inl late ↦ inl (rw (e, late) refl, rw (e, late) e)
    | inr late ↦ inr (e, rw (e, late) refl, inl (a, rw (e, late) refl))
  ]
  | inr e ↦ inl (rw e refl, rw e e)
]

-- a last hearing in vain
abbrev last_kept : Kept Answer → Option Answer → Kept Answer
last_kept k h = elim h [ None ↦ record (settled k) { is_late = true } | Some a ↦ record (settled k) { is_late = false } ]

last_settles : (k : Kept Answer) (h : Option Answer) → has_answer (last_kept k h).said ≡ false
last_settles k None = refl
last_settles k (Some a) = refl

last_gives : (rest : Rest) (h : Option Answer) → EndsWith (elim h [ None ↦ Given.InVain rest | Some a ↦ Given.Answer a ])
last_gives rest None = inr (rest, refl)
last_gives rest (Some a) = inl (a, refl)

pub vain_settles : (rest : Rest) (k : Kept Answer) → Settles (LinkEvent.Vain rest) k EndsWith
vain_settles rest k = elim (cases_Bool (has_answer k.said)) [
  | inl e ↦ elim (cases_Bool (is_over k)) [
    | inl over ↦ inr (e, rw (e, over) (last_settles k k.held), rw (e, over) (last_gives _ k.held))
    | inr over ↦ inl (rw (e, over) refl, rw (e, over) e)
  ]
  | inr e ↦ inl (rw e refl, rw e e)
]

-- a bid that it takes, and EOT
takes_awaiting : (k : Kept Answer) → takes_bid k ≡ true → has_answer k.said ≡ true
takes_awaiting k takes = grind (arith, takes)

pub bid_settles : (k : Kept Answer) → Settles LinkEvent.Bid k (λ given. given ≡ Given.Bid)
bid_settles k = elim (cases_Bool (takes_bid k)) [
  | inl e ↦ inr (takes_awaiting k e, rw e refl, rw e refl)
  | inr e ↦ inl (rw e refl, rw e refl)
]

pub end_settles : (k : Kept Answer) → Settles LinkEvent.End k (λ given. given ≡ Given.End)
end_settles k = elim (cases_Bool (has_answer k.said)) [
  | inl e ↦ inr (e, rw e refl, rw e refl)
  | inr e ↦ inl (rw e refl, rw e e)
]

-- ---- What is given came.

-- each answer that came is one of these
abbrev pub AllCame : (Answer → Type 0) → Events → Type 0
AllCame P [] = Unit {0}
AllCame P (LinkEvent.Answer a ∷ past) = P a × AllCame P past
AllCame P (_ ∷ past) = AllCame P past

abbrev answer_in : Given Answer → Option Answer
answer_in (Given.Answer a) = Some a
answer_in _ = None

some_is : (a b : Answer) → Some a ≡ Some b → a ≡ b
some_is a b e = ap (λ o. elim o [ None ↦ a | Some x ↦ x ]) e

held_after_answer : (a : Answer) (k : Kept Answer) (b : Answer) → (after_answer a k).held ≡ Some b → (a ≡ b) ⊎ (k.held ≡ Some b)
held_after_answer a k b is = elim (cases_Bool (has_answer k.said)) [
  | inl e ↦ elim (cases_Bool k.is_late) [
    | inl late ↦ inl (some_is a b (rw (e, late) at is))
    | inr late ↦ absurd (none-some b (rw (e, late) at is))
  ]
  | inr e ↦ inr (rw e at is)
]

held_after_last : (k : Kept Answer) (h : Option Answer) (b : Answer) → (last_kept k h).held ≡ Some b → ⊥
held_after_last k None b is = none-some b is
held_after_last k (Some a) b is = none-some b is

held_after_vain : (rest : Rest) (k : Kept Answer) (b : Answer) → (after_vain rest k).held ≡ Some b → k.held ≡ Some b
held_after_vain rest k b is = elim (cases_Bool (has_answer k.said)) [
  | inl e ↦ elim (cases_Bool (is_over k)) [
    | inl over ↦ absurd (held_after_last k k.held b (rw (e, over) at is))
    | inr over ↦ rw (e, over) at is
  ]
  | inr e ↦ rw e at is
]

module _ (P : Answer → Type 0) (gives_way : Bool) where
  held_came : (past : Events) (b : Answer) → (kept_of gives_way past).held ≡ Some b → AllCame P past → P b
  held_came [] b is came = absurd (none-some b is)
  held_came (LinkEvent.Says said ∷ past) b is came = absurd (none-some b is)
  held_came (LinkEvent.Answer a ∷ past) b is came = elim (held_after_answer a (kept_of gives_way past) b is) [
    | inl same ↦ subst P same came.0
    | inr held ↦ held_came past b held came.1
  ]
  held_came (LinkEvent.Bid ∷ past) b is came = elim (cases_Bool (takes_bid (kept_of gives_way past))) [
    | inl e ↦ absurd (none-some b (rw e at is))
    | inr e ↦ held_came past b (rw e at is) came
  ]
  held_came (LinkEvent.End ∷ past) b is came = elim (cases_Bool (has_answer (kept_of gives_way past).said)) [
    | inl e ↦ absurd (none-some b (rw e at is))
    | inr e ↦ held_came past b (rw e at is) came
  ]
  held_came (LinkEvent.Text ∷ past) b is came = held_came past b is came
  held_came (LinkEvent.Vain rest ∷ past) b is came = held_came past b (held_after_vain rest (kept_of gives_way past) b is) came

  pub answer_came : (past : Events) (a b : Answer) → given_at (LinkEvent.Answer a) (kept_of gives_way past) ≡ Given.Answer b → P a → P b
  answer_came past a b is came = elim (cases_Bool (has_answer (kept_of gives_way past).said && not (kept_of gives_way past).is_late)) [
    | inl e ↦ subst P (some_is a b (ap answer_in (rw e at is))) came
    | inr e ↦ absurd (none-some b (ap answer_in (rw e at is)))
  ]

  given_last_held : (rest : Rest) (h : Option Answer) (b : Answer) → (elim h [ None ↦ Given.InVain rest | Some a ↦ Given.Answer a ]) ≡ Given.Answer b → h ≡ Some b
  given_last_held rest None b is = absurd (none-some b (ap answer_in is))
  given_last_held rest (Some a) b is = ap answer_in is

  pub vain_came : (past : Events) (rest : Rest) (b : Answer) → given_at (LinkEvent.Vain rest) (kept_of gives_way past) ≡ Given.Answer b → AllCame P past → P b
  vain_came past rest b is came = elim (cases_Bool (has_answer (kept_of gives_way past).said)) [
    | inl e ↦ elim (cases_Bool (is_over (kept_of gives_way past))) [
      | inl over ↦ held_came past b (given_last_held _ _ b (rw (e, over) at is)) came
      | inr over ↦ absurd (none-some b (ap answer_in (rw (e, over) at is)))
    ]
    | inr e ↦ absurd (none-some b (ap answer_in (rw e at is)))
  ]
