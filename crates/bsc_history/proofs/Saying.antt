-- What is said before the grant, and after it.
use Rattle.bsc_link.specs.declared.sound.Sound.{Sound}
use Rattle.bsc_link.specs.declared.say.Say.{Say}
use Rattle.bsc_link.specs.declared.next.Next.{Next}
use Rattle.bsc_history.specs.declared.spoken_turn.SpokenTurn.{SpokenTurn}
use Rattle.bsc_history.specs.History.{History, Plan, what_follows, is_over}
use Rattle.bsc_history.specs.Known.{has_heard_rvi, known, has_grant, is_progress}
use Rattle.bsc_history.specs.SayingRule.{due_after_progress, due_after_delay, due_after_block, due_after_inquiry, due_without_progress, said_of, saying}
use Rattle.std.proofs.Common.{◌≡◌, inl, inr, Bool, true, false, if◌then◌else◌, [], ◌∷◌, refl}
use Rattle.std.proofs.lemmas.Bool.{false≢true, cases_Bool}

abbrev pub IsGranted : Say → Type 0
IsGranted Say.Bid = ⊥
IsGranted Say.Nothing = ⊥
IsGranted _ = Unit {0}

IsGranted-next : (next : Next) (noted pause : Bool) → IsGranted (said_of (due_after_progress next noted pause))
IsGranted-next Next.Done noted pause = tt
IsGranted-next Next.NewJob true pause = tt
IsGranted-next Next.NewJob false true = tt
IsGranted-next Next.NewJob false false = tt
IsGranted-next Next.Block noted true = tt
IsGranted-next Next.Block noted false = tt

IsGranted-block : (heard : Sound) → IsGranted (said_of (due_after_block heard))
IsGranted-block Sound.Nak = tt
IsGranted-block _ = tt

IsGranted-ask : (heard : Sound) → IsGranted (said_of (due_after_inquiry heard))
IsGranted-ask Sound.Nak = tt
IsGranted-ask _ = tt

IsGranted-delay : (heard : Sound) (pause : Bool) → IsGranted (said_of (due_after_delay heard pause))
IsGranted-delay Sound.Nak true = tt
IsGranted-delay Sound.Nak false = tt
IsGranted-delay _ pause = tt

IsGranted-on : (t : SpokenTurn) (said : Say) → t.said ≡ said → IsGranted (said_of (due_without_progress t))
IsGranted-on t Say.Ask e = rw e (IsGranted-ask t.heard)
IsGranted-on t Say.Delay e = rw e (IsGranted-delay t.heard t.pause)
IsGranted-on t Say.Block e = rw e (IsGranted-block t.heard)
IsGranted-on t Say.Again e = rw e (IsGranted-block t.heard)
IsGranted-on t _ e = rw e tt

IsGranted-saying : (plan : Plan) (gives_up : Bool) (past : History) → is_over past ≡ false → has_grant past ≡ true → IsGranted (saying plan gives_up past)
IsGranted-saying plan gives_up [] goes granted = absurd (false≢true granted)
IsGranted-saying plan true (t ∷ past) goes granted = rw goes tt
IsGranted-saying plan false (t ∷ past) goes granted =
    rw (goes, granted) (elim (is_progress past t) as (λ b. IsGranted (said_of (if b then due_after_progress (what_follows plan (known (t ∷ past))) (has_heard_rvi (t ∷ past)) t.pause else due_without_progress t)))
    [ true ↦ IsGranted-next (what_follows plan (known (t ∷ past))) (has_heard_rvi (t ∷ past)) t.pause | false ↦ IsGranted-on t t.said refl ])

-- a bid is said before the grant
pub ungranted-from_bid : (plan : Plan) (gives_up : Bool) (past : History) → is_over past ≡ false → saying plan gives_up past ≡ Say.Bid → has_grant past ≡ false
ungranted-from_bid plan gives_up past goes bid = elim (cases_Bool (has_grant past)) [
  | inl granted ↦ absurd (rw bid at (IsGranted-saying plan gives_up past goes granted))
  | inr ungranted ↦ ungranted
]

abbrev pub IsAfterGrant : Say → Type 0
IsAfterGrant Say.Block = Unit {0}
IsAfterGrant Say.Again = Unit {0}
IsAfterGrant Say.Ask = Unit {0}
IsAfterGrant Say.Delay = Unit {0}
IsAfterGrant _ = ⊥

ungranted-saying : (plan : Plan) (gives_up : Bool) (past : History) → is_over past ≡ false → has_grant past ≡ false → IsAfterGrant (saying plan gives_up past) → ⊥
ungranted-saying plan true past goes none = rw goes (λ x. x)
ungranted-saying plan false past goes none = rw (goes, none) (λ x. x)

pub granted-from_said : (plan : Plan) (gives_up : Bool) (past : History) → is_over past ≡ false → IsAfterGrant (saying plan gives_up past) → has_grant past ≡ true
granted-from_said plan gives_up past goes after = elim (cases_Bool (has_grant past)) [
  | inl granted ↦ granted
  | inr ungranted ↦ absurd (ungranted-saying plan gives_up past goes ungranted after)
]
