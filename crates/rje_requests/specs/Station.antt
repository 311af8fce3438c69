-- Who gives way where both ends of a station's connection bid at once, as the words of `station` choose it (own profile).
use Rattle.std.specs.Prelude.{Bool, false, Option}
use Rattle.bsc_link.specs.declared.rank.Rank.{Rank}
use Rattle.rje_requests.specs.declared.station.Partner.{Partner}
use Rattle.rje_requests.specs.declared.station.Partner.TheVariants.{Calls, Listens}
use Rattle.rje_requests.specs.Callers.{are_several}
use Rattle.rje_requests.specs.Connection.{rank_of}

-- the end that calls is the primary
abbrev pub partner_rank : Partner → Rank
partner_rank (Calls host) = Rank.Primary
partner_rank (Listens address callers) = Rank.Secondary

-- the rank that the options for the two ranks choose, as for `exchange`
abbrev pub station_rank : Partner → (primary secondary : Bool) → Option Rank
station_rank partner = rank_of (partner_rank partner)

-- a station that is called takes the calls of more than one address that is named
abbrev pub has_callers : Partner → Bool
has_callers (Calls host) = false
has_callers (Listens address callers) = are_several callers
