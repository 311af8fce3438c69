-- The run of two stations that both have jobs over a schedule of losses and damage. Own profile.
use Rattle.std.specs.Prelude.{◌≡◌, ◌⊎◌, ℕ, ◌+◌, false, List, length, map, reverse, take, slice_get, Option, Some, None}
use Rattle.std.specs.List.{AllByRecursion}
use Rattle.bsc_codes.specs.declared.block.Block.{Block}
use Rattle.bsc_link.specs.declared.outcome.Outcome.{Outcome}
use Rattle.bsc_link.specs.declared.sound.Sound.{Sound}
use Rattle.rje_jobs.specs.declared.job.Job.{Job}
use Rattle.rje_jobs.specs.Blocks.{blocks}
use Rattle.rje_jobs.specs.Fitting.{JobFits}
use Rattle.rje_jobs.specs.Joined.{joined}
use Rattle.rje_station.specs.Sending.{ended_by, outcome_of}
use Rattle.rje_station.specs.Station.{Contending}
use Rattle.rje_station.specs.StationFault.{IsFirstUnfit}
use Rattle.line_world.specs.declared.fate.Fate.{Fate}
use Rattle.bsc_history.specs.declared.sound_turn.SoundTurn.{SoundTurn}
use Rattle.line_world.specs.declared.spoken.Spoken.{Spoken}
use Rattle.bsc_history.specs.declared.spoken_turn.SpokenTurn.{SpokenTurn}
use Rattle.line_world.specs.declared.turn.Turn.{Turn}
use Rattle.line_world.specs.declared.world_fault.WorldFault.{WorldFault}
use Rattle.bsc_history.specs.History.{History}
use Rattle.bsc_history.specs.Known.{known, gives_up_now}
use Rattle.bsc_history.specs.Got.{got}
use Rattle.bsc_history.specs.Outcome.{outcome}
use Rattle.line_world.specs.Plan.{plan_of, numbered}
use Rattle.line_world.specs.Damage.{HasBadCut, IsNoDamage}
use Rattle.line_world.specs.Run.{TellsTurn, TurnByTurn, FitsTurn, FitsAtItsPlace, BreaksTurn, spoken_of}
use Rattle.pair_world.specs.declared.pair_spoken.PairSpoken.{PairSpoken}
use Rattle.pair_world.specs.declared.pair_turn.PairTurn.{PairTurn}
use Rattle.pair_world.specs.declared.side.Side.{Side}
use Rattle.bsc_history.specs.Pair.{SpokenPair, PairHistory, up, down, is_bid_out, sound_counted}
use Rattle.bsc_history.specs.PairCount.{down_gives_up}
use Rattle.bsc_history.specs.PairConversation.{down_outcome}
use Rattle.bsc_history.specs.PairSchedule.{PairPlace, IsPairSpokenOver, IsPairConversationOver, OfOneSpeaker}

-- WHAT A SCHEDULE TELLS

pub record TellsPair (turn : PairTurn) (place : PairPlace) : Type 0 where
  pub bids : place.bids ≡ turn.bids
  pub tells : TellsTurn turn.turn place.place

-- turn by turn
abbrev pub TellsPairs : List PairTurn → List PairPlace → Type 0
TellsPairs turns places = TurnByTurn TellsPair turns places

-- THE FATES THAT ARE LOOKED AT

-- where one station speaks alone
abbrev pub FitParts : List Block → List Block → PairHistory → Turn → Option SpokenTurn → Option SpokenTurn → Type 0
FitParts ups downs past turn (Some t) None = FitsTurn ups (gives_up_now (up past)) (up past) t turn
FitParts ups downs past turn None (Some u) = FitsTurn downs (down_gives_up past) (down past) u turn
FitParts ups downs past turn _ _ = Unit {0}

abbrev pub AllPairsFit : List Block → List Block → List PairTurn → PairHistory → Type 0
AllPairsFit ups downs turns h = FitsAtItsPlace (λ past t turn. FitParts ups downs past turn.turn t.primary t.secondary) turns h

-- THE CONVERSATION

-- the conversation of these blocks over a schedule, which tells these turns of sounds
pub record IsPairConversationOn (ups downs : List Block) (turns : List PairTurn) (places : List PairPlace) (h : PairHistory) : Type 0 where
  pub told : TellsPairs turns places
  pub conversation : IsPairConversationOver (plan_of ups) (plan_of downs) places h
  pub fits : AllPairsFit ups downs turns h

-- a part of a turn without the wish and the pause of its place
abbrev pub part_of : Option SpokenTurn → Option Spoken
part_of None = None
part_of (Some t) = Some (spoken_of t)

abbrev pub pair_of : SpokenPair → PairSpoken
pair_of t = record { primary = part_of t.primary; secondary = part_of t.secondary }

-- the turns of the history, the oldest first
abbrev pub spoken_pairs : PairHistory → List PairSpoken
spoken_pairs h = map pair_of (reverse h)

-- what became of the jobs of one station: the jobs of the blocks that the other got, and how many jobs the blocks end that it knows to be
-- received
pub record IsSide (jobs : List Job) (own : History) (handed : List Job) (counted : ℕ) : Type 0 where
  pub handed_is : handed ≡ joined (numbered (blocks jobs) (got own))
  pub counted_is : counted ≡ ended_by (take (known own) (blocks jobs))

-- one side of a report
pub record Told : Type 0 where
  pub handed : List Job
  pub counted : ℕ
  pub ending : Option Outcome

abbrev pub told : Side → Told
told s = record { handed = s.handed; counted = s.counted; ending = s.outcome }

-- what the first station hands out of what the second one sent
abbrev pub told_by : Contending → Contending → Told
told_by receives sends = record { handed = receives.receiver.jobs; counted = sends.sender.counted; ending = outcome_of sends.sender }

-- what a run of these jobs over this schedule tells
pub record IsPairRun (ups downs : List Job) (turns : List PairTurn) (spoken : List PairSpoken) (u d : Told) : Type 0 where
  pub history : PairHistory
  pub places : List PairPlace
  pub conversation : IsPairConversationOn (blocks ups) (blocks downs) turns places history
  pub spoken_is : spoken ≡ spoken_pairs history
  pub up_side : IsSide ups (up history) u.handed u.counted
  pub down_side : IsSide downs (down history) d.handed d.counted
  pub up_ending : u.ending ≡ outcome (plan_of (blocks ups)) (up history)
  pub down_ending : d.ending ≡ down_outcome (plan_of (blocks downs)) history

-- THE REFUSALS

-- a fate of the turn breaks a rule, where one station speaks alone
abbrev pub BreaksPairTurn : (Fate → Sound → List ℕ → Type 0) → List Block → List Block → PairHistory → PairTurn → SoundTurn → Type 0
BreaksPairTurn Breaks ups downs past turn place =
    OfOneSpeaker (plan_of ups) (plan_of downs) past turn.bids
    (BreaksTurn Breaks (sound_counted false) ups (gives_up_now (up past)) (up past) turn.turn place)
    (BreaksTurn Breaks (sound_counted (is_bid_out (up past))) downs (down_gives_up past) (down past) turn.turn place)

-- turn n, counted from 1, is the first of which a looked-at fate breaks a rule: it comes after the conversation of the turns before it
pub record BreaksPairFirst (Breaks : Fate → Sound → List ℕ → Type 0) (ups downs : List Block) (turns : List PairTurn) (places : List PairPlace) (n : ℕ) : Type 0 where
  pub told : TellsPairs turns places
  pub past : PairHistory
  pub before : length past + 1 ≡ n
  pub spoken : IsPairSpokenOver (plan_of ups) (plan_of downs) places past
  pub fits : AllPairsFit ups downs turns past
  pub turn : PairTurn
  pub here : slice_get turns (length past) ≡ Some turn
  pub place : PairPlace
  pub there : slice_get places (length past) ≡ Some place
  pub breaks : BreaksPairTurn Breaks ups downs past turn place.place

-- the fault holds of driving stations of these jobs over this schedule; of memory nothing is said
abbrev pub IsPairDriveFault : List Job → List Job → List PairTurn → WorldFault → Type 0
IsPairDriveFault ups downs turns WorldFault.OutOfMemory = Unit {0}
IsPairDriveFault ups downs turns (WorldFault.NotDamage attempt turn) = (attempt ≡ 1) × ((places : List PairPlace) × BreaksPairFirst IsNoDamage (blocks ups) (blocks downs) turns places turn)
IsPairDriveFault ups downs turns (WorldFault.BadCut attempt turn) = (attempt ≡ 1) × ((places : List PairPlace) × BreaksPairFirst HasBadCut (blocks ups) (blocks downs) turns places turn)
IsPairDriveFault ups downs turns (WorldFault.BadJob job) = ⊥

-- the first job that can't be sent, of the primary's jobs, and after them of the secondary's
abbrev pub IsFirstUnfitPair : List Job → List Job → ℕ → Type 0
IsFirstUnfitPair ups downs number =
    IsFirstUnfit ups number ⊎ (AllByRecursion JobFits ups × ((n : ℕ) × IsFirstUnfit downs n × (number ≡ length ups + n)))

-- the fault holds of a run: the first job that can't be sent, looked for before any turn; or else, of jobs that can, a fault of driving
abbrev pub IsPairRunFault : List Job → List Job → List PairTurn → WorldFault → Type 0
IsPairRunFault ups downs turns (WorldFault.BadJob job) = IsFirstUnfitPair ups downs job
IsPairRunFault ups downs turns fault = (AllByRecursion JobFits ups × AllByRecursion JobFits downs) × IsPairDriveFault ups downs turns fault

-- WHAT HOLDS OF SCHEDULES

-- where a looked-at fate is no damage, there is no conversation of the pair with the same refusals
abbrev pub NoDamageNoPair : Type 0
NoDamageNoPair =
    (ups downs : List Block) (turns : List PairTurn) (places : List PairPlace) (h : PairHistory) (n : ℕ)
    → IsPairConversationOn ups downs turns places h → BreaksPairFirst IsNoDamage ups downs turns places n → ⊥

-- nor where one has a bad cut
abbrev pub BadCutNoPair : Type 0
BadCutNoPair =
    (ups downs : List Block) (turns : List PairTurn) (places : List PairPlace) (h : PairHistory) (n : ℕ)
    → IsPairConversationOn ups downs turns places h → BreaksPairFirst HasBadCut ups downs turns places n → ⊥
