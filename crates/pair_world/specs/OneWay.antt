-- Two stations of which the secondary has no jobs: the run of one transmission. Own profile.
use Rattle.std.specs.Prelude.{◌≡◌, List, [], map, Some, None}
use Rattle.bsc_link.specs.declared.outcome.Outcome.{Outcome}
use Rattle.rje_jobs.specs.declared.job.Job.{Job}
use Rattle.pair_world.specs.declared.pair_spoken.PairSpoken.{PairSpoken}
use Rattle.pair_world.specs.declared.pair_turn.PairTurn.{PairTurn}
use Rattle.line_world.specs.declared.spoken.Spoken.{Spoken}
use Rattle.line_world.specs.Run.{IsRun}
use Rattle.pair_world.specs.PairRun.{Told, IsPairRun}

-- the primary alone spoke
abbrev pub spoken_alone : Spoken → PairSpoken
spoken_alone t = record { primary = Some t; secondary = None }

-- the run of a pair is the run of the primary's jobs over the same turns, and of the secondary nothing is told
pub record IsRunOneWay (jobs : List Job) (turns : List PairTurn) (spoken : List PairSpoken) (u d : Told) : Type 0 where
  pub alone : List Spoken
  pub spoken_is : spoken ≡ map spoken_alone alone
  pub run : IsRun jobs (map (λ turn. turn.turn) turns) alone u.handed u.counted u.ending
  pub down : d ≡ record { handed = []; counted = 0; ending = Some Outcome.Done }

abbrev pub WithoutDownJobs : Type 0
WithoutDownJobs =
    (jobs : List Job) (turns : List PairTurn) (spoken : List PairSpoken) (u d : Told) → IsPairRun jobs [] turns spoken u d
    → IsRunOneWay jobs turns spoken u d
