-- The law of agreement, from the phases.
use Rattle.bsc_link.specs.declared.sound.Sound.{Sound}
use Rattle.bsc_link.specs.declared.say.Say.{Say}
use Rattle.bsc_history.specs.declared.spoken_turn.SpokenTurn.{SpokenTurn}
use Rattle.bsc_history.specs.History.{History, Plan}
use Rattle.bsc_history.specs.Known.{known, gives_up_now}
use Rattle.bsc_history.specs.Got.{brings_block, got}
use Rattle.bsc_history.specs.Fate.{sound_of}
use Rattle.bsc_history.specs.Conversation.{Follows}
use Rattle.bsc_history.specs.Agreement.{first_numbers, GetsAtMostOneMore, KnowsBeforeBlocks, GetsInOrder, ConversationsMayBeSpoken}
use Rattle.bsc_history.proofs.Line.{ComesAs, comes}
use Rattle.bsc_history.proofs.Phases.{Phase, Phase-from_spoken, IsWaiting, brings-block}
use Rattle.std.proofs.Common.{◌≡◌, ◌⊎◌, inl, inr, ℕ, suc, ◌+◌, Bool, List, [], ◌∷◌, ◌++◌, length, refl, sym, ap, ◌∙◌, length-append, add-one}
use Rattle.std.proofs.lemmas.Bool.{cases_Bool}

within : (h : History) → Phase h → (length (got h) ≡ known h) ⊎ (length (got h) ≡ known h + 1)
within h (inl p) = inl (p.none_arrived ∙ sym p.none_known)
within h (inr (inl p)) = inl p.level
within h (inr (inr p)) = inr p.ahead

pub at_most_one_more : GetsAtMostOneMore
at_most_one_more plan h spoken = within h (Phase-from_spoken plan h spoken)

-- a block is said only where each block that arrived is known
before : (plan : Plan) (gives_up : Bool) (past : History) (t : SpokenTurn) → Follows plan gives_up past t → (t.said ≡ Say.Block) ⊎ (t.said ≡ Say.Again) → Phase past → length (got past) ≡ known past
before plan gives_up past t f said (inl p) = p.none_arrived ∙ sym p.none_known
before plan gives_up past t f said (inr (inl p)) = p.level
before plan gives_up past t f (inl said) (inr (inr p)) = absurd (let w : IsWaiting t.said = rw f.said (p.waits plan gives_up) in rw said at w)
before plan gives_up past t f (inr said) (inr (inr p)) = absurd (let w : IsWaiting t.said = rw f.said (p.waits plan gives_up) in rw said at w)

pub known_before_blocks : KnowsBeforeBlocks
known_before_blocks plan t past spoken said = before plan spoken.0.0 past t spoken.0.1 said (Phase-from_spoken plan past spoken.1)

-- what is brought was said
pub said-brought : (said : Say) → ComesAs (sound_of said) Sound.Block → (said ≡ Say.Block) ⊎ (said ≡ Say.Again)
said-brought Say.Block may = inl refl
said-brought Say.Again may = inr refl
said-brought Say.Delay may = absurd (may.0 refl)
said-brought Say.Nothing may = cc
said-brought Say.Bid (inl e) = cc
said-brought Say.Bid (inr (inl e)) = cc
said-brought Say.Bid (inr (inr e)) = cc
said-brought Say.Ask (inl e) = cc
said-brought Say.Ask (inr (inl e)) = cc
said-brought Say.Ask (inr (inr e)) = cc
said-brought Say.End (inl e) = cc
said-brought Say.End (inr (inl e)) = cc
said-brought Say.End (inr (inr e)) = cc

one-more : (xs : List ℕ) (k n : ℕ) → n ≡ k → xs ≡ first_numbers n → xs ++ (k + 1) ∷ [] ≡ first_numbers (n + 1)
one-more xs k n same e = rw (← same, add-one n) (ap (λ ys. ys ++ suc n ∷ []) e)

pub in_order : GetsInOrder
in_order plan [] spoken = refl
in_order plan (t ∷ past) spoken = elim (cases_Bool (brings_block t)) [
  | inl brought ↦
      let f = spoken.0.1 in
      let arrived : ComesAs (sound_of t.said) Sound.Block = rw (brings-block t.arrived t.refused brought).0 at (comes _ _ f.arrived) in
      let same : length (got past) ≡ known past = known_before_blocks plan t past spoken (said-brought t.said arrived) in
      rw (brought, length-append (got past)) (one-more (got past) (known past) (length (got past)) same (in_order plan past spoken.1))
  | inr unbrought ↦ rw unbrought (in_order plan past spoken.1)
]

pub conversations_may_be_spoken : ConversationsMayBeSpoken
conversations_may_be_spoken plan [] c = tt
conversations_may_be_spoken plan (t ∷ past) c = ((gives_up_now past, c.0), conversations_may_be_spoken plan past c.1)
