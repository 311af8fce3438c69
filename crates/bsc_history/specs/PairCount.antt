-- The counts of a secondary: they begin again where it gives way to the primary's bid. Own profile.
use Rattle.std.specs.Prelude.{ℕ, Bool, true, false, not, ◌&&◌, if◌then◌else◌, [], ◌∷◌, Option, Some, None}
use Rattle.bsc_link.specs.declared.sound.Sound.{Sound}
use Rattle.bsc_link.specs.Sender.{is_enough}
use Rattle.bsc_history.specs.declared.spoken_turn.SpokenTurn.{SpokenTurn}
use Rattle.bsc_history.specs.History.{History}
use Rattle.bsc_history.specs.Known.{tries_on, holds_on}
use Rattle.bsc_history.specs.Pair.{PairHistory, up, down, is_bid_out, counted}

-- the tries and the holds that count
pub record Spent : Type 0 where
  pub tries : ℕ
  pub holds : ℕ

abbrev pub nothing_spent : Spent
nothing_spent = record { tries = 0; holds = 0 }

-- and then one more turn
abbrev pub spent_on : Spent → History → SpokenTurn → Spent
spent_on s past t = record { tries = tries_on s.tries past t; holds = holds_on s.holds past t }

abbrev pub is_enough_spent : Spent → Bool
is_enough_spent s = is_enough s.tries s.holds

-- an ENQ arrived
abbrev pub brings_enq : Option SpokenTurn → Bool
brings_enq None = false
brings_enq (Some t) = elim t.arrived [ Sound.Enq ↦ true | _ ↦ false ]

-- an ENQ of the primary begins the count again, unless it is enough
abbrev pub begun_again : Bool → Spent → Spent
begun_again enq s = if enq && not (is_enough_spent s) then nothing_spent else s

-- the secondary's tries and holds since its last progress or the primary's last ENQ, or else since the start
abbrev pub spent : PairHistory → Spent
spent [] = nothing_spent
spent (t ∷ past) = elim (counted (is_bid_out (up past)) t.secondary) [
  | Some u ↦ spent_on (spent past) (down past) u
  | None ↦ begun_again (brings_enq t.primary) (spent past)
]

-- the secondary gives up now
abbrev pub down_gives_up : PairHistory → Bool
down_gives_up past = is_enough_spent (spent past)

-- the secondary gave up before its last turn
abbrev pub down_gave_up : PairHistory → Bool
down_gave_up [] = false
down_gave_up (t ∷ past) = elim t.secondary [ Some u ↦ down_gives_up past | None ↦ down_gave_up past ]
