-- What is due of a station stays due once it is said, but for EOT; and what speaking and an answer make where something was due.
use Rattle.std.proofs.Common.{◌≡◌, ◌≢◌, inl, inr, Bool, false, Option, refl, ap, sym, ◌∙◌}
use Rattle.std.proofs.lemmas.Bool.{cases_Bool}
use Rattle.bsc_link.specs.declared.contender_place.ContenderPlace.{ContenderPlace}
use Rattle.bsc_link.specs.declared.rank.Rank.{Rank}
use Rattle.bsc_link.specs.declared.say.Say.{Say}
use Rattle.bsc_link.specs.declared.sender_place.SenderPlace.{SenderPlace}
use Rattle.bsc_link.specs.declared.sound.Sound.{Sound}
use Rattle.bsc_link.specs.Contender.{ContenderState, after_bid}
use Rattle.bsc_link.specs.Sender.{SenderState, place_after_end_sent, say_in, sender_sent_end}
use Rattle.rje_station.specs.Hearing.{HearsSound}
use Rattle.rje_station.specs.Line.{Talk, Passes}
use Rattle.rje_station.specs.Sending.{after_speaking, after_hearing, is_end}
use Rattle.rje_station.specs.Station.{Contending, HeardAnswer, due_at, is_receiving, after_own_speaking, after_answer, contender_said, contender_answered}

-- ---- Of a sending station.

place_kept : (p : SenderPlace) → say_in p ≢ Say.End → place_after_end_sent p ≡ p
place_kept SenderPlace.Bid n = refl
place_kept SenderPlace.Block n = refl
place_kept SenderPlace.Again n = refl
place_kept SenderPlace.Ask n = refl
place_kept SenderPlace.Delay n = refl
place_kept (SenderPlace.End o) n = absurd (n refl)
place_kept (SenderPlace.Over o) n = refl

pub unsent : (s : SenderState) → say_in s.place ≢ Say.End → sender_sent_end s ≡ s
unsent s n = ap (λ p. record s { place = p }) (place_kept s.place n)

-- ---- Of one that sends and receives.

-- where something was due, an answer was listened for
pub answer_heard : (old new : Option Talk) (say : Say) (sound : Sound) → (say ≡ Say.Nothing → ⊥) → HeardAnswer old new say sound → Passes old new (λ t u. HearsSound t u sound)
answer_heard old new Say.Nothing sound n h = absurd (n refl)
answer_heard old new _ sound n h = h

-- what is due stays due, but for EOT
live_at : (s : Contending) (say : Say) → due_at s ≡ say → say ≢ Say.Nothing → s.failed ≡ false
live_at s say e n = elim (cases_Bool s.failed) [ inl f ↦ absurd (n (sym e ∙ rw f refl)) | inr f ↦ f ]

free_at : (s : Contending) (say : Say) → due_at s ≡ say → say ≢ Say.Nothing → is_receiving s.contender.place ≡ false
free_at s say e n = elim (cases_Bool (is_receiving s.contender.place)) [ inl r ↦ absurd (n (sym e ∙ rw (live_at s say e n, r) refl)) | inr r ↦ r ]

pub going_at : (s : Contending) (say : Say) → due_at s ≡ say → say ≢ Say.Nothing → s.sender.over ≡ false
going_at s say e n = elim (cases_Bool s.sender.over) [ inl o ↦ absurd (n (sym e ∙ rw (live_at s say e n, free_at s say e n, o) refl)) | inr o ↦ o ]

pub says_at : (s : Contending) (say : Say) → due_at s ≡ say → say ≢ Say.Nothing → say_in s.sender.core.place ≡ say
says_at s say e n = sym (sym e ∙ rw (live_at s say e n, free_at s say e n, going_at s say e n) refl)

bid_place : (rank : Rank) (place : ContenderPlace) (noted : Bool) → is_receiving (after_bid (record { rank = rank; place = place; bid_noted = noted })).place ≡ is_receiving place
bid_place rank ContenderPlace.Free noted = refl
bid_place rank _ noted = refl

said_place : (say : Say) (c : ContenderState) → say ≢ Say.End → is_receiving (contender_said say c).place ≡ is_receiving c.place
said_place Say.End c n = absurd (n refl)
said_place Say.Bid c n = bid_place c.rank c.place c.bid_noted
said_place _ c n = refl

-- where something was due, this is what speaking makes
pub spoken_of_due : (s : Contending) (say : Say) → due_at s ≡ say → say ≢ Say.Nothing → after_own_speaking s ≡ record s { sender = after_speaking s.sender; contender = contender_said say s.contender }
spoken_of_due s Say.Nothing e n = absurd (n refl)
spoken_of_due s Say.Bid e n = rw (e, after_own_speaking) (ap (λ x. record s { sender = after_speaking s.sender; contender = contender_said x s.contender }) e)
spoken_of_due s Say.Block e n = rw (e, after_own_speaking) (ap (λ x. record s { sender = after_speaking s.sender; contender = contender_said x s.contender }) e)
spoken_of_due s Say.Again e n = rw (e, after_own_speaking) (ap (λ x. record s { sender = after_speaking s.sender; contender = contender_said x s.contender }) e)
spoken_of_due s Say.Delay e n = rw (e, after_own_speaking) (ap (λ x. record s { sender = after_speaking s.sender; contender = contender_said x s.contender }) e)
spoken_of_due s Say.Ask e n = rw (e, after_own_speaking) (ap (λ x. record s { sender = after_speaking s.sender; contender = contender_said x s.contender }) e)
spoken_of_due s Say.End e n = rw (e, after_own_speaking) (ap (λ x. record s { sender = after_speaking s.sender; contender = contender_said x s.contender }) e)

pub answered_of_due : (s : Contending) (say : Say) (heard : Sound) (pause : Bool) → due_at s ≡ say → say ≢ Say.Nothing → after_answer s heard pause ≡ record s { sender = after_hearing s.sender heard pause; contender = contender_answered say heard s.contender }
answered_of_due s Say.Nothing heard pause e n = absurd (n refl)
answered_of_due s Say.Bid heard pause e n = rw (e, after_answer) (ap (λ x. record s { sender = after_hearing s.sender heard pause; contender = contender_answered x heard s.contender }) e)
answered_of_due s Say.Block heard pause e n = rw (e, after_answer) (ap (λ x. record s { sender = after_hearing s.sender heard pause; contender = contender_answered x heard s.contender }) e)
answered_of_due s Say.Again heard pause e n = rw (e, after_answer) (ap (λ x. record s { sender = after_hearing s.sender heard pause; contender = contender_answered x heard s.contender }) e)
answered_of_due s Say.Delay heard pause e n = rw (e, after_answer) (ap (λ x. record s { sender = after_hearing s.sender heard pause; contender = contender_answered x heard s.contender }) e)
answered_of_due s Say.Ask heard pause e n = rw (e, after_answer) (ap (λ x. record s { sender = after_hearing s.sender heard pause; contender = contender_answered x heard s.contender }) e)
answered_of_due s Say.End heard pause e n = rw (e, after_answer) (ap (λ x. record s { sender = after_hearing s.sender heard pause; contender = contender_answered x heard s.contender }) e)

pub not_end : (say : Say) → say ≢ Say.End → is_end say ≡ false
not_end Say.End n = absurd (n refl)
not_end _ n = refl

pub due_kept : (s : Contending) (say : Say) → due_at s ≡ say → say ≢ Say.Nothing → say ≢ Say.End → due_at (after_own_speaking s) ≡ say
due_kept s say e n m =
    let live = live_at s say e n in
    let free = free_at s say e n in
    let says : say_in s.sender.core.place ≡ say = says_at s say e n in
    let core : sender_sent_end s.sender.core ≡ s.sender.core = unsent s.sender.core (λ x. m (sym says ∙ x)) in
    rw (spoken_of_due s say e n, live, said_place say s.contender m, free, says, not_end say m) (ap (λ x. say_in x.place) core ∙ says)
