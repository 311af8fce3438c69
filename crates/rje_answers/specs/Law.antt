-- Which answers an end of a connection takes for those to what it said last (own profile). The premise: a thing is said where no answer is
-- awaited, each thing is answered at most once, in order, and with fewer than two hearings in vain since it was said.
use Rattle.std.specs.Prelude.{◌≡◌, ◌<◌, ◌≤◌, ◌+◌, ◌==◌, ℕ, Bool, true, false, if◌then◌else◌, List, [], ◌∷◌, Option, Some, None}
use Rattle.bsc_link.specs.declared.reply.Reply.{Reply}
use Rattle.rje_answers.specs.declared.link_event.LinkEvent.{LinkEvent}
use Rattle.rje_answers.specs.declared.given.Given.{Given}
use Rattle.rje_answers.specs.Awaiting.{Kept, first_kept, kept_after, given_at, has_answer, takes_bid}

-- an answer, and the number, from 0, of the thing that it answers
pub record Answer : Type 0 where
  pub thing : ℕ
  pub reply : Reply

-- what happened, the newest first
abbrev pub Events : Type 0
Events = List (LinkEvent Answer)

-- what an end keeps after these
abbrev pub kept_of : Bool → Events → Kept Answer
kept_of gives_way [] = first_kept gives_way
kept_of gives_way (e ∷ past) = kept_after e (kept_of gives_way past)

-- how many things were said that are answered
abbrev pub things : Events → ℕ
things [] = 0
things (LinkEvent.Says said ∷ past) = if has_answer said then things past + 1 else things past
things (_ ∷ past) = things past

-- how many hearings were in vain since the thing of this number was said
abbrev pub vain_since : ℕ → Events → ℕ
vain_since k [] = 0
vain_since k (LinkEvent.Says said ∷ past) = if things past == k then 0 else vain_since k past
vain_since k (LinkEvent.Vain heard ∷ past) = vain_since k past + 1
vain_since k (_ ∷ past) = vain_since k past

-- How many things can't be answered any more: they or later ones were answered; or the other end said EOT; or this one gave way to a bid that
-- crossed its own, which an end whose own bid is out passes over.
abbrev pub answered : Bool → Events → ℕ
answered gives_way [] = 0
answered gives_way (LinkEvent.Answer a ∷ past) = a.thing + 1
answered gives_way (LinkEvent.Bid ∷ past) = if takes_bid (kept_of gives_way past) then things past else answered gives_way past
answered gives_way (LinkEvent.End ∷ past) = things past
answered gives_way (_ ∷ past) = answered gives_way past

-- what may happen next
abbrev pub MayHappen : Bool → LinkEvent Answer → Events → Type 0
MayHappen gives_way (LinkEvent.Says said) past = has_answer (kept_of gives_way past).said ≡ false
MayHappen gives_way (LinkEvent.Answer a) past = (answered gives_way past ≤ a.thing) × (a.thing < things past) × (vain_since a.thing past < 2)
MayHappen gives_way _ past = Unit {0}

-- each of these could happen where it did
abbrev pub AllHappen : Bool → Events → Type 0
AllHappen gives_way [] = Unit {0}
AllHappen gives_way (e ∷ past) = MayHappen gives_way e past × AllHappen gives_way past

-- an answer that the station is given is that to the thing said last
abbrev pub GivesOwnAnswers : Type 0
GivesOwnAnswers = (gives_way : Bool) (past : Events) (e : LinkEvent Answer) (a : Answer) → AllHappen gives_way (e ∷ past)
    → given_at e (kept_of gives_way past) ≡ Given.Answer a → a.thing + 1 ≡ things past

-- and one comes only where one is awaited
abbrev pub ComesWhereAwaited : Type 0
ComesWhereAwaited = (gives_way : Bool) (past : Events) (a : Answer) → AllHappen gives_way past → MayHappen gives_way (LinkEvent.Answer a) past
    → (has_answer (kept_of gives_way past).said ≡ true) × (a.thing + 1 ≡ things past)

-- WITHOUT THE NUMBERS, which no end knows

abbrev pub without_number : LinkEvent Answer → LinkEvent Reply
without_number (LinkEvent.Says said) = LinkEvent.Says said
without_number (LinkEvent.Answer a) = LinkEvent.Answer a.reply
without_number LinkEvent.Bid = LinkEvent.Bid
without_number LinkEvent.End = LinkEvent.End
without_number LinkEvent.Text = LinkEvent.Text
without_number (LinkEvent.Vain heard) = LinkEvent.Vain heard

abbrev pub given_without : Given Answer → Given Reply
given_without Given.Nothing = Given.Nothing
given_without (Given.Answer a) = Given.Answer a.reply
given_without Given.Bid = Given.Bid
given_without Given.End = Given.End
given_without (Given.InVain heard) = Given.InVain heard

abbrev pub held_without : Option Answer → Option Reply
held_without None = None
held_without (Some a) = Some a.reply

abbrev pub kept_without : Kept Answer → Kept Reply
kept_without k = record {
  gives_way = k.gives_way;
  said = k.said;
  is_late = k.is_late;
  vain = k.vain;
  held = held_without k.held;
  rest = k.rest;
  has_ended = k.has_ended;
  strayed = k.strayed;
}

-- an end that doesn't know the numbers keeps the same, and gives its station the same
abbrev pub TellsNoNumbers : Type 0
TellsNoNumbers = (e : LinkEvent Answer) (k : Kept Answer)
    → (kept_after (without_number e) (kept_without k) ≡ kept_without (kept_after e k)) × (given_at (without_number e) (kept_without k) ≡ given_without (given_at e k))
