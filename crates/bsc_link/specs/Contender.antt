-- Contention of two stations that both have jobs: its table, call by call. Own profile; that a primary doesn't give way and a secondary
-- does is IBM GA27-3004.
use Rattle.std.specs.Prelude.{Bool, true, false, not, if◌then◌else◌}
use Rattle.bsc_link.specs.declared.rank.Rank.{Rank}
use Rattle.bsc_link.specs.declared.contender_place.ContenderPlace.{ContenderPlace}

-- what a contender keeps: its rank, its place, and whether its bid is out
pub record ContenderState : Type 0 where
  pub rank : Rank
  pub place : ContenderPlace
  pub bid_noted : Bool

-- a new contender
abbrev pub first_contender_state : Rank → ContenderState
first_contender_state rank = record { rank = rank; place = ContenderPlace.Free; bid_noted = false }

-- THE TABLE

-- said_bid; Free: the bid is noted
abbrev pub after_bid : ContenderState → ContenderState
after_bid c = elim c.place [ ContenderPlace.Free ↦ record c { bid_noted = true } | _ ↦ c ]

-- granted; Free: Sending
abbrev pub after_grant : ContenderState → ContenderState
after_grant c = elim c.place [ ContenderPlace.Free ↦ record c { place = ContenderPlace.Sending } | _ ↦ c ]

-- hear_enq; Receiving: true; Sending: false; Free: true with no bid noted, and of a Secondary, false of a Primary with a bid noted
abbrev pub takes : Rank → ContenderPlace → Bool → Bool
takes rank ContenderPlace.Receiving bid_noted = true
takes rank ContenderPlace.Sending bid_noted = false
takes Rank.Primary ContenderPlace.Free bid_noted = not bid_noted
takes Rank.Secondary ContenderPlace.Free bid_noted = true

abbrev pub takes_enq : ContenderState → Bool
takes_enq c = takes c.rank c.place c.bid_noted

-- hear_enq; Free and taken: Receiving, note cleared
abbrev pub after_enq : ContenderState → ContenderState
after_enq c = elim c.place [
  | ContenderPlace.Free ↦ if takes_enq c then record c { place = ContenderPlace.Receiving; bid_noted = false } else c
  | _ ↦ c
]

-- own_end; Free, Sending: Free, note cleared
abbrev pub after_own_end : ContenderState → ContenderState
after_own_end c = elim c.place [ ContenderPlace.Receiving ↦ c | _ ↦ record c { place = ContenderPlace.Free; bid_noted = false } ]

-- other_end; Receiving: Free
abbrev pub after_other_end : ContenderState → ContenderState
after_other_end c = elim c.place [ ContenderPlace.Receiving ↦ record c { place = ContenderPlace.Free } | _ ↦ c ]
