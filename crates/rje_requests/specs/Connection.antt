-- Who gives way where both ends of a connection bid at once, as the words of `exchange` choose it (own profile).
use Rattle.std.specs.Prelude.{Bool, true, false, Option, Some, None}
use Rattle.bsc_link.specs.declared.rank.Rank.{Rank}
use Rattle.rje_requests.specs.declared.connection.Meeting.{Meeting}
use Rattle.rje_requests.specs.declared.connection.Meeting.TheVariants.{Calls, Listens}

-- the end that calls is the primary
abbrev pub rank_at : Meeting → Rank
rank_at (Calls address) = Rank.Primary
rank_at (Listens address callers) = Rank.Secondary

-- the rank that the options for the two ranks choose: the usual one where neither is given, and none where both are
abbrev pub rank_of : (usual : Rank) → (primary secondary : Bool) → Option Rank
rank_of usual true false = Some Rank.Primary
rank_of usual false true = Some Rank.Secondary
rank_of usual false false = Some usual
rank_of usual true true = None

-- the rank that these options choose for an end that meets the other so
abbrev pub rank_chosen : Meeting → (primary secondary : Bool) → Option Rank
rank_chosen place = rank_of (rank_at place)
