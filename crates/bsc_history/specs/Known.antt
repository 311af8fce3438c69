-- What a sender knows: the blocks that count as received, and how long it has been without progress. That ACK0 and ACK1 take turns is
-- IBM GA27-3004's; what RVI does, that WACK counts nothing, and the limits are own profile.
use Rattle.std.specs.Prelude.{ℕ, ◌+◌, Bool, true, false, not, ◌&&◌, ◌||◌, if◌then◌else◌, [], ◌∷◌}
use Rattle.bsc_link.specs.declared.sound.Sound.{Sound}
use Rattle.bsc_link.specs.declared.say.Say.{Say}
use Rattle.bsc_link.specs.Sender.{is_enough}
use Rattle.bsc_history.specs.declared.spoken_turn.SpokenTurn.{SpokenTurn}
use Rattle.bsc_history.specs.History.{History, is_block_turn, is_last, is_even}

abbrev pub is_rvi_sound : Sound → Bool
is_rvi_sound Sound.Rvi = true
is_rvi_sound _ = false

-- a block turn of the history heard an RVI
abbrev pub has_heard_rvi : History → Bool
has_heard_rvi [] = false
has_heard_rvi (t ∷ past) = (is_block_turn t && is_rvi_sound t.heard) || has_heard_rvi past

-- the sound acknowledges block number n: ACK1 an odd one, ACK0 an even one, and an RVI either, where none was heard before
abbrev pub acknowledges : ℕ → Bool → Sound → Bool
acknowledges n heard_rvi Sound.Ack0 = is_even n
acknowledges n heard_rvi Sound.Ack1 = not (is_even n)
acknowledges n heard_rvi Sound.Rvi = not heard_rvi
acknowledges n heard_rvi _ = false

-- after n counting turns, and with an RVI heard or not, this turn counts too: a block turn in which block n + 1 was acknowledged
abbrev pub counts : ℕ → Bool → SpokenTurn → Bool
counts n heard_rvi t = is_block_turn t && acknowledges (n + 1) heard_rvi t.heard

-- how many blocks the sender knows to be received: the number of counting turns
abbrev pub known : History → ℕ
known [] = 0
known (t ∷ past) = if counts (known past) (has_heard_rvi past) t then known past + 1 else known past

-- a counting turn
abbrev pub is_counting : History → SpokenTurn → Bool
is_counting past t = counts (known past) (has_heard_rvi past) t

-- a grant: a bid that heard ACK0
abbrev pub is_grant : SpokenTurn → Bool
is_grant t = elim t.said [ Say.Bid ↦ elim t.heard [ Sound.Ack0 ↦ true | _ ↦ false ] | _ ↦ false ]

-- some bid was granted
abbrev pub has_grant : History → Bool
has_grant [] = false
has_grant (t ∷ past) = is_grant t || has_grant past

-- progress: a grant or a counting turn
abbrev pub is_progress : History → SpokenTurn → Bool
is_progress past t = is_grant t || is_counting past t

-- the receiver asked to wait: WACK, or NAK to a TTD
abbrev pub asks_to_wait : SpokenTurn → Bool
asks_to_wait t = elim t.heard [ Sound.Wack ↦ true | Sound.Nak ↦ elim t.said [ Say.Delay ↦ true | _ ↦ false ] | _ ↦ false ]

-- a hold: a turn without progress in which the receiver asked to wait
abbrev pub is_hold : History → SpokenTurn → Bool
is_hold past t = not (is_progress past t) && asks_to_wait t

-- a try: any other turn without progress in which EOT was neither said nor heard
abbrev pub is_try : History → SpokenTurn → Bool
is_try past t = not (is_progress past t) && not (is_hold past t) && not (is_last t)

-- n tries, and then one more turn; progress begins the count again
abbrev pub tries_on : ℕ → History → SpokenTurn → ℕ
tries_on n past t = if is_progress past t then 0 else (if is_try past t then n + 1 else n)

-- n holds, and then one more turn
abbrev pub holds_on : ℕ → History → SpokenTurn → ℕ
holds_on n past t = if is_progress past t then 0 else (if is_hold past t then n + 1 else n)

-- the tries since the last progress, or else since the start
abbrev pub tries : History → ℕ
tries [] = 0
tries (t ∷ past) = tries_on (tries past) past t

-- the holds since the last progress, or else since the start
abbrev pub holds : History → ℕ
holds [] = 0
holds (t ∷ past) = holds_on (holds past) past t

-- the sender gives up now: seven tries or three hundred holds without progress
abbrev pub gives_up_now : History → Bool
gives_up_now past = is_enough (tries past) (holds past)
