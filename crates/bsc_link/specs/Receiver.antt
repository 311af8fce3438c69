-- The receiver of one transmission: its table, line by line. What it does with RVI and TTD, and silence on noise, are this project's
-- profile; the rest is IBM GA27-3004.
use Rattle.std.specs.Prelude.{Bool, true, false, not, ◌||◌, if◌then◌else◌, Option, Some, None}
use Rattle.bsc_link.specs.declared.sound.Sound.{Sound}
use Rattle.bsc_link.specs.declared.wish.Wish.{Wish}
use Rattle.bsc_link.specs.declared.reply.Reply.{Reply}
use Rattle.bsc_link.specs.declared.receiver_place.ReceiverPlace.{ReceiverPlace}
use Rattle.bsc_link.specs.declared.receiver_news.ReceiverNews.{ReceiverNews}

-- what a receiver keeps: its place, whether the blocks accepted are odd in number, its last reply, and whether it made an RVI
pub record ReceiverState : Type 0 where
  pub place : ReceiverPlace
  pub odd_accepted : Bool
  pub last_reply : Option Reply
  pub rvi_made : Bool

-- a new receiver
abbrev pub first_receiver_state : ReceiverState
first_receiver_state = record { place = ReceiverPlace.Idle; odd_accepted = false; last_reply = None; rvi_made = false }

-- the due ACK: ACK0 where the blocks accepted are even in number, ACK1 where they are odd
abbrev pub due_ack : Bool → Reply
due_ack odd_accepted = if odd_accepted then Reply.Ack1 else Reply.Ack0

-- nothing is accepted, and this is the reply, if any
abbrev pub answered : Option Reply → ReceiverNews
answered reply = record { accepted = false; reply = reply; ended = false }

-- nothing is accepted, and nothing answered
abbrev pub silent : ReceiverNews
silent = answered None

-- the block is accepted, with this reply
abbrev pub accepted_with : Reply → ReceiverNews
accepted_with reply = record { accepted = true; reply = Some reply; ended = false }

-- silent, and the transmission ended
abbrev pub ended_now : ReceiverNews
ended_now = record { accepted = false; reply = None; ended = true }

-- THE TABLE: the place that follows, and the news

-- idle
abbrev pub line_when_idle : Sound → Wish → ReceiverPlace × ReceiverNews
-- Enq: in a transmission; WACK with wish Hold, else ACK0
line_when_idle Sound.Enq Wish.Hold = (ReceiverPlace.InTransmission, answered (Some Reply.Wack))
line_when_idle Sound.Enq Wish.Go = (ReceiverPlace.InTransmission, answered (Some Reply.Ack0))
line_when_idle Sound.Enq Wish.Turn = (ReceiverPlace.InTransmission, answered (Some Reply.Ack0))
-- Eot: ended, silent, `ended` true
line_when_idle Sound.Eot wish = (ReceiverPlace.Ended, ended_now)
-- any other (Ack0, Ack1, Nak, Wack, Rvi, Ttd, Abort, Block, Bad, Noise, Quiet): silent, nothing changes
line_when_idle _ wish = (ReceiverPlace.Idle, silent)

-- the reply to a block
abbrev pub reply_to_block : ReceiverState → Wish → Reply
-- with Hold WACK
reply_to_block s Wish.Hold = Reply.Wack
-- with Turn and no RVI made before RVI
reply_to_block s Wish.Turn = if s.rvi_made then due_ack (not s.odd_accepted) else Reply.Rvi
-- else the due ACK, the new block included
reply_to_block s Wish.Go = due_ack (not s.odd_accepted)

-- the last reply again; where that is WACK, with Hold WACK and else the due ACK
abbrev pub last_reply_again : Bool → Option Reply → Wish → Option Reply
last_reply_again odd_accepted (Some Reply.Wack) Wish.Hold = Some Reply.Wack
last_reply_again odd_accepted (Some Reply.Wack) Wish.Go = Some (due_ack odd_accepted)
last_reply_again odd_accepted (Some Reply.Wack) Wish.Turn = Some (due_ack odd_accepted)
-- none, ACK0, ACK1, NAK or RVI
last_reply_again odd_accepted last_reply wish = last_reply

-- the reply to an ENQ in a transmission
abbrev pub reply_to_enq : ReceiverState → Wish → Option Reply
reply_to_enq s wish = last_reply_again s.odd_accepted s.last_reply wish

-- in a transmission
abbrev pub line_in_transmission : ReceiverState → Sound → Wish → ReceiverPlace × ReceiverNews
-- Block: accepted; with Hold WACK; with Turn and no RVI made before RVI; else the due ACK
line_in_transmission s Sound.Block wish = (ReceiverPlace.InTransmission, accepted_with (reply_to_block s wish))
-- Enq, last reply WACK: with Hold WACK, else the due ACK; Enq, another last reply: the last reply again
line_in_transmission s Sound.Enq wish = (ReceiverPlace.InTransmission, answered (reply_to_enq s wish))
-- Bad, Ttd, Abort: NAK
line_in_transmission s Sound.Bad wish = (ReceiverPlace.InTransmission, answered (Some Reply.Nak))
line_in_transmission s Sound.Ttd wish = (ReceiverPlace.InTransmission, answered (Some Reply.Nak))
line_in_transmission s Sound.Abort wish = (ReceiverPlace.InTransmission, answered (Some Reply.Nak))
-- Eot: ended, silent, `ended` true
line_in_transmission s Sound.Eot wish = (ReceiverPlace.Ended, ended_now)
-- Ack0, Ack1, Nak, Wack, Rvi, Noise, Quiet: silent, nothing changes
line_in_transmission s _ wish = (ReceiverPlace.InTransmission, silent)

-- the one line of the table for a state, a sound and a wish; ended: silent, nothing changes
abbrev pub line_at : ReceiverState → Sound → Wish → ReceiverPlace × ReceiverNews
line_at s sound wish = elim s.place [
  | ReceiverPlace.Idle ↦ line_when_idle sound wish
  | ReceiverPlace.InTransmission ↦ line_in_transmission s sound wish
  | ReceiverPlace.Ended ↦ (ReceiverPlace.Ended, silent)
]

-- WHAT A LINE SAYS

-- each reply becomes the last reply
abbrev pub last_reply_after : Option Reply → Option Reply → Option Reply
last_reply_after last_reply None = last_reply
last_reply_after last_reply (Some reply) = Some reply

-- the reply is an RVI
abbrev pub is_rvi : Option Reply → Bool
is_rvi (Some Reply.Rvi) = true
is_rvi _ = false

-- the state after news, at the place that follows
abbrev pub after_news : ReceiverState → ReceiverPlace → ReceiverNews → ReceiverState
after_news s place news = record {
  place = place;
  odd_accepted = if news.accepted then not s.odd_accepted else s.odd_accepted;
  last_reply = last_reply_after s.last_reply news.reply;
  rvi_made = is_rvi news.reply || s.rvi_made;
}

-- the news of one hearing
abbrev pub receiver_news : ReceiverState → Sound → Wish → ReceiverNews
receiver_news s sound wish = (line_at s sound wish).1

-- one hearing
abbrev pub receiver_hears : ReceiverState → Sound → Wish → ReceiverState
receiver_hears s sound wish = after_news s (line_at s sound wish).0 (receiver_news s sound wish)

-- the sender was silent for long: ended, from every place
abbrev pub receiver_quiet_long : ReceiverState → ReceiverState
receiver_quiet_long s = record s { place = ReceiverPlace.Ended }
