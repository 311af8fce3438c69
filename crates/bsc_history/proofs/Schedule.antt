-- One more turn spoken over a schedule.
use Rattle.std.proofs.Common.{◌≡◌, Bool, true, false, ◌&&◌, List, ◌∷◌, length, slice_get, Some, refl, sym, ◌∙◌}
use Rattle.std.proofs.lemmas.Bool.{false≢true}
use Rattle.bsc_link.specs.declared.sound.Sound.{Sound}
use Rattle.bsc_history.specs.declared.spoken_turn.SpokenTurn.{SpokenTurn}
use Rattle.bsc_history.specs.declared.sound_turn.SoundTurn.{SoundTurn}
use Rattle.bsc_history.specs.History.{History, Plan, is_over}
use Rattle.bsc_history.specs.Known.{gives_up_now}
use Rattle.bsc_history.specs.ReplyRule.{replying}
use Rattle.bsc_history.specs.SayingRule.{saying}
use Rattle.bsc_history.specs.declared.sound_fate.SoundFate.{SoundFate}
use Rattle.bsc_history.specs.Fate.{sound_of, MayBeHeardAs}
use Rattle.bsc_history.specs.Pair.{sound_counted, as_counted}
use Rattle.bsc_history.proofs.Line.{lost-after}
use Rattle.bsc_history.specs.Conversation.{Follows, IsAt, IsSpokenOver, is_block}

pub is_block-sound : (b : Bool) (arrived : Sound) → (b && is_block arrived) ≡ true → arrived ≡ Sound.Block
is_block-sound b Sound.Block e = refl
is_block-sound true _ e = absurd (false≢true e)
is_block-sound false _ e = absurd (false≢true e)

-- what doesn't count comes as if it were lost
pub counted-brought : (bid_out : Bool) (said arrived : Sound) → MayBeHeardAs said arrived → MayBeHeardAs said (sound_counted bid_out arrived)
counted-brought false said arrived may = may
counted-brought true said Sound.Enq may = (SoundFate.Lost, lost-after said)
counted-brought true said _ may = may

block-counted : (bid_out : Bool) (arrived : Sound) → arrived ≡ Sound.Block → sound_counted bid_out arrived ≡ Sound.Block
block-counted true arrived e = rw e refl
block-counted false arrived e = e

-- a turn follows by both rules and its place in the schedule, whether a bid is out or not
pub follows-at : (bid_out : Bool) (plan : Plan) (gives_up : Bool) (past : History) (place : SoundTurn) (t : SpokenTurn) → is_over past ≡ false → IsAt place t → t.said ≡ saying plan gives_up past → t.reply ≡ replying past (sound_counted bid_out t.arrived) t.refused t.wish
    → Follows plan gives_up past (as_counted bid_out t)
follows-at bid_out plan gives_up past place t goes at said replied = record {
  goes_on = goes;
  said = said;
  arrived = counted-brought bid_out (sound_of t.said) t.arrived (place.up, at.up);
  refusal = λ e. block-counted bid_out t.arrived (is_block-sound place.refused t.arrived (sym at.refused ∙ e));
  replied = replied;
  heard = (place.down, at.down);
}

-- a turn that both rules and its place in the schedule give
pub spoken-more : (plan : Plan) (places : List SoundTurn) (h : History) (place : SoundTurn) (t : SpokenTurn) → IsSpokenOver plan places h → is_over h ≡ false → slice_get places (length h) ≡ Some place → IsAt place t
    → t.said ≡ saying plan (gives_up_now h) h → t.reply ≡ replying h t.arrived t.refused t.wish → IsSpokenOver plan places (t ∷ h)
spoken-more plan places h place t spoken goes here at said replied =
    record { conversation = (follows-at false plan (gives_up_now h) h place t goes at said replied, spoken.conversation); placed = ((place, here, at), spoken.placed) }
