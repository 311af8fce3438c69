-- Schedules of pairs that tell schedules of sounds.
use Rattle.std.proofs.Common.{List, [], ◌∷◌, ◌++◌, length, refl}
use Rattle.bsc_frame.specs.Laws.{EveryHearing}
use Rattle.line_world.proofs.ForPairs.{told_turn, get_append}
use Rattle.pair_world.specs.declared.pair_turn.PairTurn.{PairTurn}
use Rattle.bsc_history.specs.History.{Plan}
use Rattle.bsc_history.specs.Pair.{PairHistory}
use Rattle.bsc_history.specs.PairSchedule.{PairPlace, ArePairsAt, IsPairSpokenOver}
use Rattle.pair_world.specs.PairRun.{TellsPair}

-- any turn tells one of sounds
abbrev pub told_pair : EveryHearing → (turn : PairTurn) → (place : PairPlace) × TellsPair turn place
told_pair every x = let one = told_turn every x.turn in (record { bids = x.bids; place = one.0 }, record { bids = refl; tells = one.1 })

-- what is at its place stays there in a longer schedule
pub pairs_at_more : (places more : List PairPlace) (h : PairHistory) → ArePairsAt places h → ArePairsAt (places ++ more) h
pairs_at_more places more [] a = tt
pairs_at_more places more (t ∷ past) a = ((a.0.0, get_append places more (length past) a.0.0 a.0.1, a.0.2), pairs_at_more places more past a.1)

pub pairs_longer : (p q : Plan) (places more : List PairPlace) (h : PairHistory) → IsPairSpokenOver p q places h → IsPairSpokenOver p q (places ++ more) h
pairs_longer p q places more h s = record { conversation = s.conversation; placed = pairs_at_more places more h s.placed }
