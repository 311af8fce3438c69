-- What a station's own turn leaves as it is: all but what it sends and its place.
use Rattle.std.proofs.Common.{◌≡◌, false, refl, ◌∙◌}
use Rattle.bsc_link.specs.declared.say.Say.{Say}
use Rattle.bsc_link.specs.declared.sound.Sound.{Sound}
use Rattle.bsc_link.specs.Contender.{ContenderState}
use Rattle.rje_station.specs.Sending.{Sending, after_speaking}
use Rattle.rje_station.specs.Station.{Contending, after_answer, after_own_speaking, contender_answered, contender_said, due_at}
use Rattle.rje_session.specs.Stations.{after_own_turn}

abbrev spoken_as : Contending → (due said : Say) → Contending
spoken_as s due said = elim due [ Say.Nothing ↦ s | _ ↦ record s { sender = after_speaking s.sender; contender = contender_said said s.contender } ]

abbrev heard_as : Contending → (due said : Say) → Sound → Sending → Contending
heard_as s due said heard sender = elim due [ Say.Nothing ↦ s | _ ↦ record s { sender = sender; contender = contender_answered said heard s.contender } ]

module _ {X : Type 0} (P : Contending → X) (leaves : (s : Contending) (sender : Sending) (contender : ContenderState) → P (record s { sender = sender; contender = contender }) ≡ P s) where
  spoke_as : (s : Contending) (due said : Say) → P (spoken_as s due said) ≡ P s
  spoke_as s Say.Nothing said = refl
  spoke_as s Say.Bid said = leaves s _ _
  spoke_as s Say.Block said = leaves s _ _
  spoke_as s Say.Again said = leaves s _ _
  spoke_as s Say.Delay said = leaves s _ _
  spoke_as s Say.Ask said = leaves s _ _
  spoke_as s Say.End said = leaves s _ _

  answered_as : (s : Contending) (due said : Say) (heard : Sound) (sender : Sending) → P (heard_as s due said heard sender) ≡ P s
  answered_as s Say.Nothing said heard sender = refl
  answered_as s Say.Bid said heard sender = leaves s _ _
  answered_as s Say.Block said heard sender = leaves s _ _
  answered_as s Say.Again said heard sender = leaves s _ _
  answered_as s Say.Delay said heard sender = leaves s _ _
  answered_as s Say.Ask said heard sender = leaves s _ _
  answered_as s Say.End said heard sender = leaves s _ _

  pub own_speaking : (s : Contending) → P (after_own_speaking s) ≡ P s
  own_speaking s = spoke_as s (due_at s) (due_at s)

  answered : (s : Contending) (heard : Sound) → P (after_answer (after_own_speaking s) heard false) ≡ P s
  answered s heard = answered_as (after_own_speaking s) (due_at (after_own_speaking s)) (due_at (after_own_speaking s)) heard _ ∙ own_speaking s

  pub own_turn : (s : Contending) (said : Say) (heard : Sound) → P (after_own_turn s said heard) ≡ P s
  own_turn s Say.End heard = own_speaking s
  own_turn s Say.Nothing heard = answered s heard
  own_turn s Say.Bid heard = answered s heard
  own_turn s Say.Block heard = answered s heard
  own_turn s Say.Again heard = answered s heard
  own_turn s Say.Delay heard = answered s heard
  own_turn s Say.Ask heard = answered s heard
