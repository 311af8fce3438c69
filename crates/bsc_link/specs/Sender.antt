-- The sender of one transmission: its table, line by line. What RVI and TTD do, that a block counts only at the ACK after a WACK, and
-- the limits of 7 and 300 are this project's profile; the rest is IBM GA27-3004.
use Rattle.std.specs.Prelude.{ℕ, ◌+◌, Bool, true, false, not, ◌||◌, if◌then◌else◌, nat_le, Option, Some, None}
use Rattle.bsc_link.specs.declared.sound.Sound.{Sound}
use Rattle.bsc_link.specs.declared.say.Say.{Say}
use Rattle.bsc_link.specs.declared.next.Next.{Next}
use Rattle.bsc_link.specs.declared.outcome.Outcome.{Outcome}
use Rattle.bsc_link.specs.declared.sender_place.SenderPlace.{SenderPlace}
use Rattle.bsc_link.specs.declared.table_line.TableLine.{TableLine}

-- what a sender keeps: its place, whether the blocks counted are odd in number, whether an RVI was noted, and the turns without progress since the last progress
pub record SenderState : Type 0 where
  pub place : SenderPlace
  pub odd_counted : Bool
  pub rvi_noted : Bool
  pub tries : ℕ
  pub holds : ℕ

-- a new sender
abbrev pub first_sender_state : SenderState
first_sender_state = record { place = SenderPlace.Bid; odd_counted = false; rvi_noted = false; tries = 0; holds = 0 }

-- what is due at a place
abbrev pub say_in : SenderPlace → Say
say_in SenderPlace.Bid = Say.Bid
say_in SenderPlace.Block = Say.Block
say_in SenderPlace.Again = Say.Again
say_in SenderPlace.Ask = Say.Ask
say_in SenderPlace.Delay = Say.Delay
say_in (SenderPlace.End outcome) = Say.End
say_in (SenderPlace.Over outcome) = Say.Nothing

-- the outcome at a place: none at Bid, Block, Again, Ask and Delay
abbrev pub outcome_in : SenderPlace → Option Outcome
outcome_in (SenderPlace.End outcome) = Some outcome
outcome_in (SenderPlace.Over outcome) = Some outcome
outcome_in _ = None

-- THE TABLE

-- Bid
abbrev pub line_at_bid : Sound → TableLine
-- Ack0: progress
line_at_bid Sound.Ack0 = TableLine.Progress
-- Wack: holds + 1, Bid
line_at_bid Sound.Wack = TableLine.Hold SenderPlace.Bid
-- Eot: Over, outcome Ended
line_at_bid Sound.Eot = TableLine.HearsEot
-- any other (Enq, Ack1, Nak, Rvi, Ttd, Abort, Block, Bad, Noise, Quiet): tries + 1, Bid
line_at_bid _ = TableLine.Try SenderPlace.Bid

-- Block, said Block or Again; odd_counted: the right ACK is ACK0, and the wrong one ACK1
abbrev pub line_at_block : Bool → Bool → Sound → TableLine
-- the right ACK: counted, progress; the wrong ACK: tries + 1, Ask
line_at_block odd_counted rvi_noted Sound.Ack0 = if odd_counted then TableLine.Count else TableLine.Try SenderPlace.Ask
line_at_block odd_counted rvi_noted Sound.Ack1 = if odd_counted then TableLine.Try SenderPlace.Ask else TableLine.Count
-- new Rvi: counted, RVI noted, progress; old Rvi: tries + 1, Ask
line_at_block odd_counted rvi_noted Sound.Rvi = if rvi_noted then TableLine.Try SenderPlace.Ask else TableLine.CountByRvi
-- Nak: tries + 1, Again
line_at_block odd_counted rvi_noted Sound.Nak = TableLine.Try SenderPlace.Again
-- Wack: holds + 1, Ask
line_at_block odd_counted rvi_noted Sound.Wack = TableLine.Hold SenderPlace.Ask
-- Eot: Over, outcome Ended
line_at_block odd_counted rvi_noted Sound.Eot = TableLine.HearsEot
-- any other (Enq, Ttd, Abort, Block, Bad, Noise, Quiet): tries + 1, Ask
line_at_block odd_counted rvi_noted _ = TableLine.Try SenderPlace.Ask

-- Block, said Ask; odd_counted: the right ACK is ACK0, and the wrong one ACK1
abbrev pub line_at_ask : Bool → Bool → Sound → TableLine
-- the right ACK: counted, progress; the wrong ACK: tries + 1, Again
line_at_ask odd_counted rvi_noted Sound.Ack0 = if odd_counted then TableLine.Count else TableLine.Try SenderPlace.Again
line_at_ask odd_counted rvi_noted Sound.Ack1 = if odd_counted then TableLine.Try SenderPlace.Again else TableLine.Count
-- new Rvi: counted, RVI noted, progress; old Rvi: tries + 1, Again
line_at_ask odd_counted rvi_noted Sound.Rvi = if rvi_noted then TableLine.Try SenderPlace.Again else TableLine.CountByRvi
-- Nak: tries + 1, Again
line_at_ask odd_counted rvi_noted Sound.Nak = TableLine.Try SenderPlace.Again
-- Wack: holds + 1, Ask
line_at_ask odd_counted rvi_noted Sound.Wack = TableLine.Hold SenderPlace.Ask
-- Eot: Over, outcome Ended
line_at_ask odd_counted rvi_noted Sound.Eot = TableLine.HearsEot
-- any other (Enq, Ttd, Abort, Block, Bad, Noise, Quiet): tries + 1, Ask
line_at_ask odd_counted rvi_noted _ = TableLine.Try SenderPlace.Ask

-- Delay
abbrev pub line_at_delay : Bool → Sound → TableLine
-- Nak: holds + 1; Delay with pause, else Block
line_at_delay pause Sound.Nak = TableLine.Hold (if pause then SenderPlace.Delay else SenderPlace.Block)
-- Wack: holds + 1, Delay
line_at_delay pause Sound.Wack = TableLine.Hold SenderPlace.Delay
-- Eot: Over, outcome Ended
line_at_delay pause Sound.Eot = TableLine.HearsEot
-- any other (Enq, Ack0, Ack1, Rvi, Ttd, Abort, Block, Bad, Noise, Quiet): tries + 1, Delay
line_at_delay pause _ = TableLine.Try SenderPlace.Delay

-- the one line of the table for a state and a sound; at End and Over nothing changes
abbrev pub line_for : SenderState → Sound → Bool → TableLine
line_for s sound pause = elim s.place [
  | SenderPlace.Bid ↦ line_at_bid sound
  | SenderPlace.Block ↦ line_at_block s.odd_counted s.rvi_noted sound
  | SenderPlace.Again ↦ line_at_block s.odd_counted s.rvi_noted sound
  | SenderPlace.Ask ↦ line_at_ask s.odd_counted s.rvi_noted sound
  | SenderPlace.Delay ↦ line_at_delay pause sound
  | SenderPlace.End outcome ↦ TableLine.NoChange
  | SenderPlace.Over outcome ↦ TableLine.NoChange
]

-- WHAT A LINE SAYS

-- where progress leads: to End where all is done, or where an RVI was noted and the next block begins a job; else to Delay with pause, else to a new Block
abbrev pub place_after_progress : Next → Bool → Bool → SenderPlace
place_after_progress Next.Done rvi_noted pause = SenderPlace.End Outcome.Done
place_after_progress Next.NewJob rvi_noted pause = if rvi_noted then SenderPlace.End Outcome.Turned else (if pause then SenderPlace.Delay else SenderPlace.Block)
place_after_progress Next.Block rvi_noted pause = if pause then SenderPlace.Delay else SenderPlace.Block

-- progress sets tries and holds to 0
abbrev pub after_progress : Bool → Bool → Next → Bool → SenderState
after_progress odd_counted rvi_noted next pause =
    record { place = place_after_progress next rvi_noted pause; odd_counted = odd_counted; rvi_noted = rvi_noted; tries = 0; holds = 0 }

-- these counts make the sender give up
abbrev pub is_enough : ℕ → ℕ → Bool
is_enough tries holds = nat_le 7 tries || nat_le 300 holds

-- a turn without progress leads on to this place with these counts; where they are enough, the sender goes to End and counts no further
abbrev pub after_wait : SenderState → SenderPlace → ℕ → ℕ → SenderState
after_wait s place tries holds =
    if is_enough tries holds then record s { place = SenderPlace.End Outcome.GaveUp } else record s { place = place; tries = tries; holds = holds }

-- what a line says of the state
abbrev pub follow : TableLine → SenderState → Next → Bool → SenderState
follow TableLine.Progress s next pause = after_progress s.odd_counted s.rvi_noted next pause
follow TableLine.Count s next pause = after_progress (not s.odd_counted) s.rvi_noted next pause
follow TableLine.CountByRvi s next pause = after_progress (not s.odd_counted) true next pause
follow (TableLine.Try place) s next pause = after_wait s place (s.tries + 1) s.holds
follow (TableLine.Hold place) s next pause = after_wait s place s.tries (s.holds + 1)
follow TableLine.HearsEot s next pause = record s { place = SenderPlace.Over Outcome.Ended }
follow TableLine.NoChange s next pause = s

-- one hearing
abbrev pub sender_hears : SenderState → Sound → Next → Bool → SenderState
sender_hears s sound next pause = follow (line_for s sound pause) s next pause

-- the lines that count the outstanding block: no line but these two does
abbrev pub counts_block : TableLine → Bool
counts_block TableLine.Count = true
counts_block TableLine.CountByRvi = true
counts_block _ = false

-- where EOT being sent leads: from End to Over; Bid, Block, Again, Ask, Delay and Over stay
abbrev pub place_after_end_sent : SenderPlace → SenderPlace
place_after_end_sent (SenderPlace.End outcome) = SenderPlace.Over outcome
place_after_end_sent place = place

-- EOT was sent: nothing but the place changes
abbrev pub sender_sent_end : SenderState → SenderState
sender_sent_end s = record s { place = place_after_end_sent s.place }

-- the sender gives way: at Bid its tries and holds begin again, elsewhere nothing changes
abbrev pub sender_yielded : SenderState → SenderState
sender_yielded s = elim s.place [ SenderPlace.Bid ↦ record s { tries = 0; holds = 0 } | _ ↦ s ]
