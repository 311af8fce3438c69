-- The bridge from the rules to the link cores: where the two cores stand after a history whose sounds they heard. Own profile.
use Rattle.std.specs.Prelude.{◌≡◌, ℕ, ◌+◌, Bool, false, not, [], ◌∷◌, length, if◌then◌else◌}
use Rattle.bsc_link.specs.declared.sound.Sound.{Sound}
use Rattle.bsc_link.specs.declared.say.Say.{Say}
use Rattle.bsc_link.specs.declared.next.Next.TheVariants as Next
use Rattle.bsc_link.specs.declared.wish.Wish.{Wish}
use Rattle.bsc_link.specs.declared.receiver_place.ReceiverPlace.{ReceiverPlace}
use Rattle.bsc_link.specs.Sender.{SenderState, first_sender_state, sender_hears, sender_sent_end, say_in, outcome_in, counts_block, line_for}
use Rattle.bsc_link.specs.Receiver.{ReceiverState, first_receiver_state, receiver_hears, receiver_news}
use Rattle.bsc_history.specs.declared.spoken_turn.SpokenTurn.{SpokenTurn}
use Rattle.bsc_history.specs.History.{History, Plan, what_follows, BeginsWithJob, is_over, is_even}
use Rattle.bsc_history.specs.Known.{known, is_counting, has_heard_rvi, tries, holds, gives_up_now}
use Rattle.bsc_history.specs.Got.{got, brings_block}
use Rattle.bsc_history.specs.ReplyRule.{replying, was_bid, last_reply, has_made_rvi}
use Rattle.bsc_history.specs.SayingRule.{saying}
use Rattle.bsc_history.specs.Outcome.{outcome_after}
use Rattle.bsc_history.specs.Conversation.{MayBeSpoken, IsConversation}

-- THE SENDER

-- what a sender makes of what it hears after it spoke, with n blocks known before: after its EOT it doesn't listen, and before the first
-- block the next begins a job
abbrev pub hears_after : Plan → ℕ → SenderState → Say → Sound → Bool → SenderState
hears_after plan n s said heard pause = elim said [
  | Say.End ↦ sender_sent_end s
  | Say.Bid ↦ sender_hears s heard Next.NewJob pause
  | _ ↦ sender_hears s heard (what_follows plan (n + 1)) pause
]

-- one turn of the sender
abbrev pub sender_turn : Plan → ℕ → SenderState → SpokenTurn → SenderState
sender_turn plan n s t = hears_after plan n s t.said t.heard t.pause

-- where a new sender stands after the history
abbrev pub sender_after : Plan → History → SenderState
sender_after plan [] = first_sender_state
sender_after plan (t ∷ past) = sender_turn plan (known past) (sender_after plan past) t

-- the turn follows the saying rule, and after its EOT the sender doesn't listen; what it hears is anything
pub record Speaks (plan : Plan) (past : History) (t : SpokenTurn) : Type 0 where
  pub goes_on : is_over past ≡ false
  pub said : t.said ≡ saying plan (gives_up_now past) past
  pub done : t.said ≡ Say.End → t.heard ≡ Sound.Quiet

-- each turn does
abbrev pub IsSpoken : Plan → History → Type 0
IsSpoken plan [] = Unit {0}
IsSpoken plan (t ∷ past) = Speaks plan past t × IsSpoken plan past

-- what the core keeps: the parity of the blocks known, whether an RVI was heard, and, while it neither is over nor gives up, its tries
-- and holds
pub record KeepsSender (h : History) (s : SenderState) : Type 0 where
  pub parity : s.odd_counted ≡ not (is_even (known h))
  pub rvi : s.rvi_noted ≡ has_heard_rvi h
  pub tries : is_over h ≡ false → gives_up_now h ≡ false → s.tries ≡ tries h
  pub holds : is_over h ≡ false → gives_up_now h ≡ false → s.holds ≡ holds h

-- whatever is heard, the sender's core is due to say what the saying rule says, and ends as the outcome says
abbrev pub SenderCoreSays : Type 0
SenderCoreSays =
    (plan : Plan) (h : History) → BeginsWithJob plan → IsSpoken plan h
    → (say_in (sender_after plan h).place ≡ saying plan (gives_up_now h) h) × (outcome_in (sender_after plan h).place ≡ outcome_after plan h)

-- it keeps what the history says
abbrev pub SenderCoreKeeps : Type 0
SenderCoreKeeps = (plan : Plan) (h : History) → BeginsWithJob plan → IsSpoken plan h → KeepsSender h (sender_after plan h)

-- it reports a block as counted in the counting turns, and in no others
abbrev pub SenderCoreCounts : Type 0
SenderCoreCounts =
    (plan : Plan) (t : SpokenTurn) (past : History) → BeginsWithJob plan → IsSpoken plan (t ∷ past)
    → counts_block (line_for (sender_after plan past) t.heard t.pause) ≡ is_counting past t

-- THE RECEIVER

-- what goes to the receiver's core: a refused block goes there as a spoiled one
abbrev pub taken : Sound → Bool → Sound
taken Sound.Block refused = if refused then Sound.Bad else Sound.Block
taken arrived refused = arrived

-- where a new receiver stands after the history
abbrev pub receiver_after : History → ReceiverState
receiver_after [] = first_receiver_state
receiver_after (t ∷ past) = receiver_hears (receiver_after past) (taken t.arrived t.refused) t.wish

-- what the core keeps: its place, the parity of the blocks got, the last reply, and whether it made an RVI
pub record KeepsReceiver (h : History) (s : ReceiverState) : Type 0 where
  pub place : s.place ≡ (if was_bid h then ReceiverPlace.InTransmission else ReceiverPlace.Idle)
  pub parity : s.odd_accepted ≡ not (is_even (length (got h)))
  pub last : s.last_reply ≡ last_reply h
  pub made : s.rvi_made ≡ has_made_rvi h

-- while a conversation goes on, the receiver's core keeps what the history says
abbrev pub ReceiverCoreKeeps : Type 0
ReceiverCoreKeeps = (plan : Plan) (h : History) → MayBeSpoken plan h → is_over h ≡ false → KeepsReceiver h (receiver_after h)

-- it replies by the reply rule to whatever arrives next
abbrev pub ReceiverCoreReplies : Type 0
ReceiverCoreReplies =
    (plan : Plan) (past : History) (arrived : Sound) (refused : Bool) (wish : Wish) → MayBeSpoken plan past → is_over past ≡ false
    → (receiver_news (receiver_after past) (taken arrived refused) wish).reply ≡ replying past arrived refused wish

-- and accepts just the blocks that are brought
abbrev pub ReceiverCoreAccepts : Type 0
ReceiverCoreAccepts =
    (plan : Plan) (t : SpokenTurn) (past : History) → MayBeSpoken plan (t ∷ past)
    → (receiver_news (receiver_after past) (taken t.arrived t.refused) t.wish).accepted ≡ brings_block t

-- a conversation is one in which the sender speaks by its rule
abbrev pub ConversationsAreSpoken : Type 0
ConversationsAreSpoken = (plan : Plan) (h : History) → IsConversation plan h → IsSpoken plan h
