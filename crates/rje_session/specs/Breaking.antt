-- When a transmission breaks, so that its connection is left: an answer to it may come to the next one (own profile).
use Rattle.std.specs.Prelude.{Bool, true, false, not, ◌&&◌, ◌||◌, Option, Some, None}
use Rattle.bsc_link.specs.declared.outcome.Outcome.{Outcome}
use Rattle.bsc_link.specs.declared.say.Say.{Say}
use Rattle.bsc_link.specs.declared.sound.Sound.{Sound}
use Rattle.rje_station.specs.declared.arrival.Arrival.{Arrival}

abbrev pub is_bid : Say → Bool
is_bid Say.Bid = true
is_bid _ = false

abbrev pub is_eot : Sound → Bool
is_eot Sound.Eot = true
is_eot _ = false

-- the other end said a word: more came than noise
abbrev pub is_word : Sound → Bool
is_word Sound.Quiet = false
is_word Sound.Noise = false
is_word _ = true

-- this answers what was said: a reply, EOT, or to a bid one of the other end's
abbrev pub is_answer : Say → Sound → Bool
is_answer said Sound.Ack0 = true
is_answer said Sound.Ack1 = true
is_answer said Sound.Nak = true
is_answer said Sound.Wack = true
is_answer said Sound.Rvi = true
is_answer said Sound.Eot = true
is_answer said Sound.Enq = is_bid said
is_answer said _ = false

-- what was said wasn't answered; nothing answers EOT
abbrev pub is_unanswered : Say → Sound → Bool
is_unanswered Say.End heard = false
is_unanswered said heard = not (is_answer said heard)

-- the bid was granted before this was said
abbrev pub is_granted : Say → Bool
is_granted Say.Block = true
is_granted Say.Again = true
is_granted Say.Ask = true
is_granted Say.Delay = true
is_granted _ = false

abbrev pub is_given_up : Option Outcome → Bool
is_given_up (Some Outcome.GaveUp) = true
is_given_up _ = false

-- the transmission gave up after its bid was granted
abbrev pub gives_up : Say → Option Outcome → Bool
gives_up said outcome = is_granted said && is_given_up outcome

-- It breaks in a turn in which this was said and heard, and it ended so, if it did: what was said wasn't answered, but where a host may leave
-- that; or it gave up after its bid was granted.
abbrev pub breaks : (host : Bool) → Say → Sound → Option Outcome → Bool
breaks host said heard outcome = (not host && is_unanswered said heard) || gives_up said outcome

-- a block is transmitted once more
abbrev pub is_again : Say → Bool
is_again Say.Again = true
is_again _ = false

-- What is due may be said: anything while all was answered in time, and after that anything but a block once more. A block is due once more because
-- of an answer: NAK, or the acknowledgement of the other parity to ENQ (GA27-3004). After something wasn't answered in time, such an answer may be a
-- late one, to what was said before the block. The other end has the block then, and would take it for a new one (own profile).
abbrev pub may_be_said : (broken : Bool) → Say → Bool
may_be_said broken due = not (broken && is_again due)

-- EOT came
abbrev pub heard_end : Option Arrival → Bool
heard_end None = false
heard_end (Some arrival) = is_eot arrival.sound
