-- Blocks are said, and counted, only while some are left.
use Rattle.bsc_link.specs.declared.sound.Sound.{Sound}
use Rattle.bsc_link.specs.declared.say.Say.{Say}
use Rattle.bsc_link.specs.declared.next.Next.{Next}
use Rattle.bsc_history.specs.declared.spoken_turn.SpokenTurn.{SpokenTurn}
use Rattle.bsc_history.specs.History.{History, Plan, what_follows, is_block_turn, is_last, is_over}
use Rattle.bsc_history.specs.Known.{has_heard_rvi, known, is_counting, is_grant, has_grant, is_progress}
use Rattle.bsc_history.specs.Got.{brings_block, got}
use Rattle.bsc_history.specs.SayingRule.{due_after_progress, due_when_granted, said_of, saying}
use Rattle.bsc_history.specs.Fate.{sound_of}
use Rattle.bsc_history.specs.Conversation.{Follows, MayBeSpoken}
use Rattle.bsc_history.specs.Agreement.{StaysWithinPlan}
use Rattle.bsc_history.proofs.Line.{ComesAs, comes}
use Rattle.bsc_history.proofs.Got.{got-brought, got-same}
use Rattle.bsc_history.proofs.Phases.{brings-block, saying-speaks, or-false}
use Rattle.bsc_history.proofs.Agreement.{said-brought, known_before_blocks}
use Rattle.bsc_history.proofs.Saying.{IsAfterGrant, granted-from_said, ungranted-from_bid}
use Rattle.std.proofs.Common.{◌≡◌, ◌≢◌, ◌⊎◌, inl, inr, ℕ, ◌+◌, ◌<◌, ◌≤◌, Bool, true, false, ◌&&◌, ◌||◌, if◌then◌else◌, [], ◌∷◌, length, Option, Some, None, refl, sym, ◌∙◌, arith}
use Rattle.std.specs.Prelude.{slice_get}
use Rattle.std.proofs.lemmas.Bool.{true≢false, false≢true, cases_Bool}
use Rattle.std.proofs.lemmas.Option.{slice_get_within}

left-from_option : (plan : Plan) (n : ℕ) (o : Option Bool) → slice_get plan n ≡ o → elim o [ None ↦ Next.Done | Some begins ↦ if begins then Next.NewJob else Next.Block ] ≢ Next.Done → n < length plan
left-from_option plan n None e more = absurd (more refl)
left-from_option plan n (Some b) e more = slice_get_within plan n b e

left-from_next : (plan : Plan) (n : ℕ) → what_follows plan n ≢ Next.Done → n < length plan
left-from_next plan n more = left-from_option plan n (slice_get plan n) refl more

next-left : (next : Next) (noted pause : Bool) → IsAfterGrant (said_of (due_after_progress next noted pause)) → next ≢ Next.Done
next-left Next.Done noted pause after = absurd after
next-left Next.NewJob noted pause after = λ e. cc
next-left Next.Block noted pause after = λ e. cc

pub or-left-false : (a b : Bool) → (a || b) ≡ false → a ≡ false
or-left-false true b e = e
or-left-false false b e = refl

-- the turn before, where it was no progress and the sender goes on
said-before : (plan : Plan) (gives_up : Bool) (past : History) (t : SpokenTurn) (said : Say) → Follows plan gives_up past t → t.said ≡ said → is_last t ≡ false → is_grant t ≡ false → has_grant (t ∷ past) ≡ true → IsAfterGrant said
said-before plan gives_up past t Say.Block f said going grant granted = tt
said-before plan gives_up past t Say.Again f said going grant granted = tt
said-before plan gives_up past t Say.Ask f said going grant granted = tt
said-before plan gives_up past t Say.Delay f said going grant granted = tt
said-before plan gives_up past t Say.End f said going grant granted = absurd (true≢false (rw said at going))
said-before plan gives_up past t Say.Nothing f said going grant granted = absurd (saying-speaks plan gives_up past f.goes_on (sym f.said ∙ said))
said-before plan gives_up past t Say.Bid f said going grant granted =
    let none : has_grant past ≡ false = ungranted-from_bid plan gives_up past f.goes_on (sym f.said ∙ said) in
    absurd (false≢true (rw (grant, none) at granted))

-- while the sender says blocks, or asks or delays, some block isn't known
pub more-left : (plan : Plan) (gives_up : Bool) (h : History) → MayBeSpoken plan h → is_over h ≡ false → IsAfterGrant (saying plan gives_up h) → known h < length plan
more-left plan true h spoken goes after = absurd (rw goes at after)
more-left plan false [] spoken goes after = absurd after
more-left plan false (t ∷ past) spoken goes after =
    let granted : has_grant (t ∷ past) ≡ true = granted-from_said plan false (t ∷ past) goes after in
    let next : IsAfterGrant (said_of (due_when_granted plan (t ∷ past))) = rw (goes, granted) at after in
    elim (cases_Bool (is_progress past t)) [
      | inl progress ↦ left-from_next plan (known (t ∷ past)) (next-left _ (has_heard_rvi (t ∷ past)) t.pause (rw progress at next))
      | inr none ↦
          let f = spoken.0.1 in
          let grant : is_grant t ≡ false = or-left-false _ _ none in
          let uncounted : is_counting past t ≡ false = or-false (is_grant t) _ none in
          let before : IsAfterGrant t.said = said-before plan spoken.0.0 past t t.said f refl goes grant granted in
          let same_known : known (t ∷ past) ≡ known past = rw uncounted refl in
          rw same_known (more-left plan spoken.0.0 past spoken.1 f.goes_on (rw f.said at before))
    ]

block-turn-after : (t : SpokenTurn) (said : Say) → t.said ≡ said → is_block_turn t ≡ true → IsAfterGrant said
block-turn-after t Say.Block e b = tt
block-turn-after t Say.Again e b = tt
block-turn-after t Say.Ask e b = tt
block-turn-after t Say.Delay e b = tt
block-turn-after t _ e b = absurd (false≢true (rw e at b))

pub and-left : (a b : Bool) → (a && b) ≡ true → a ≡ true
and-left true b e = refl
and-left false b e = e

pub known-within : (plan : Plan) (h : History) → MayBeSpoken plan h → known h ≤ length plan
known-within plan [] spoken = omega arith
known-within plan (t ∷ past) spoken = elim (cases_Bool (is_counting past t)) [
  | inl counting ↦
      let f = spoken.0.1 in
      let spoke : is_block_turn t ≡ true = and-left _ _ counting in
      let after : IsAfterGrant t.said = block-turn-after t t.said refl spoke in
      let left : known past < length plan = more-left plan spoken.0.0 past spoken.1 f.goes_on (rw f.said at after) in
      let more : known (t ∷ past) ≡ known past + 1 = rw counting refl in
      rw more (omega arith)
  | inr uncounted ↦
      let same : known (t ∷ past) ≡ known past = rw uncounted refl in
      rw same (known-within plan past spoken.1)
]

block-after : (said : Say) → (said ≡ Say.Block) ⊎ (said ≡ Say.Again) → IsAfterGrant said
block-after said (inl e) = rw e tt
block-after said (inr e) = rw e tt

got-within : (plan : Plan) (h : History) → MayBeSpoken plan h → length (got h) ≤ length plan
got-within plan [] spoken = omega arith
got-within plan (t ∷ past) spoken = elim (cases_Bool (brings_block t)) [
  | inl brought ↦
      let f = spoken.0.1 in
      let arrived : ComesAs (sound_of t.said) Sound.Block = rw (brings-block t.arrived t.refused brought).0 at (comes _ _ f.arrived) in
      let said = said-brought t.said arrived in
      let after : IsAfterGrant t.said = block-after t.said said in
      let left : known past < length plan = more-left plan spoken.0.0 past spoken.1 f.goes_on (rw f.said at after) in
      let level : length (got past) ≡ known past = known_before_blocks plan t past spoken said in
      let more : length (got (t ∷ past)) ≡ length (got past) + 1 = got-brought t past brought in
      omega arith
  | inr unbrought ↦ rw (got-same t past unbrought) (got-within plan past spoken.1)
]

pub stays_within_plan : StaysWithinPlan
stays_within_plan plan h spoken = (known-within plan h spoken, got-within plan h spoken)
