-- The reply rule: what a receiver replies after a history. IBM GA27-3004; that it makes one RVI at most, that it replies NAK to a TTD,
-- and nothing to noise are own profile.
use Rattle.std.specs.Prelude.{ℕ, ◌+◌, Bool, true, false, if◌then◌else◌, [], ◌∷◌, length, Option, Some, None}
use Rattle.bsc_link.specs.declared.sound.Sound.{Sound}
use Rattle.bsc_link.specs.declared.wish.Wish.{Wish}
use Rattle.bsc_link.specs.declared.reply.Reply.{Reply}
use Rattle.bsc_history.specs.History.{History, is_even}
use Rattle.bsc_history.specs.Got.{got}

-- some turn's ENQ arrived
abbrev pub was_bid : History → Bool
was_bid [] = false
was_bid (t ∷ past) = elim t.arrived [ Sound.Enq ↦ true | _ ↦ was_bid past ]

-- the last reply, if there is one
abbrev pub last_reply : History → Option Reply
last_reply [] = None
last_reply (t ∷ past) = elim t.reply [ None ↦ last_reply past | Some reply ↦ Some reply ]

-- some reply was an RVI
abbrev pub has_made_rvi : History → Bool
has_made_rvi [] = false
has_made_rvi (t ∷ past) = elim t.reply [ Some reply ↦ elim reply [ Reply.Rvi ↦ true | _ ↦ has_made_rvi past ] | None ↦ has_made_rvi past ]

-- the acknowledgement of block number n
abbrev pub ack_of : ℕ → Reply
ack_of n = if is_even n then Reply.Ack0 else Reply.Ack1

-- the answer to block number n: WACK with Hold; RVI with Turn where none was made before; else its acknowledgement
abbrev pub answer_to_block : ℕ → Bool → Wish → Reply
answer_to_block n made_rvi Wish.Hold = Reply.Wack
answer_to_block n made_rvi Wish.Turn = if made_rvi then ack_of n else Reply.Rvi
answer_to_block n made_rvi Wish.Go = ack_of n

-- the answer to an ENQ, with n blocks got: the last reply again; but after WACK, WACK with Hold and else the acknowledgement of block n
abbrev pub answer_to_enq : ℕ → Option Reply → Wish → Option Reply
answer_to_enq n (Some Reply.Wack) Wish.Hold = Some Reply.Wack
answer_to_enq n (Some Reply.Wack) _ = Some (ack_of n)
answer_to_enq n last _ = last

-- before the first ENQ arrived: to an ENQ WACK with Hold, else ACK0; to all else silence
abbrev pub answer_when_idle : Sound → Wish → Option Reply
answer_when_idle Sound.Enq Wish.Hold = Some Reply.Wack
answer_when_idle Sound.Enq _ = Some Reply.Ack0
answer_when_idle _ _ = None

-- afterwards: NAK to a refused block, to spoiled text, to TTD and to an abort; silence on all else, EOT included
abbrev pub answer_when_bid : History → Sound → Bool → Wish → Option Reply
answer_when_bid past Sound.Block refused wish =
    if refused then Some Reply.Nak else Some (answer_to_block (length (got past) + 1) (has_made_rvi past) wish)
answer_when_bid past Sound.Bad refused wish = Some Reply.Nak
answer_when_bid past Sound.Ttd refused wish = Some Reply.Nak
answer_when_bid past Sound.Abort refused wish = Some Reply.Nak
answer_when_bid past Sound.Enq refused wish = answer_to_enq (length (got past)) (last_reply past) wish
answer_when_bid past _ refused wish = None

-- the receiver's reply after a history to what arrives, or silence
abbrev pub replying : History → Sound → Bool → Wish → Option Reply
replying past arrived refused wish =
    if was_bid past then answer_when_bid past arrived refused wish else answer_when_idle arrived wish
