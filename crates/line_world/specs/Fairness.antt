-- A fair line: it may lose much, but is good again and again, and nobody asks to wait. Own profile.
use Rattle.std.specs.Prelude.{◌≡◌, ◌⊎◌, ℕ, ◌+◌, ◌*◌, ◌≤◌, false, List, [], ◌∷◌, length, take, drop, Option}
use Rattle.std.specs.List.{AllByRecursion}
use Rattle.bsc_link.specs.declared.outcome.Outcome.{Outcome}
use Rattle.bsc_link.specs.declared.wish.Wish.{Wish}
use Rattle.rje_jobs.specs.declared.job.Job.{Job}
use Rattle.rje_jobs.specs.Blocks.{blocks}
use Rattle.rje_jobs.specs.Fitting.{JobFits}
use Rattle.line_world.specs.declared.spoken.Spoken.{Spoken}
use Rattle.line_world.specs.declared.turn.Turn.{Turn}
use Rattle.line_world.specs.GoodTurn.{IsGood}
use Rattle.line_world.specs.Run.{IsRun}

-- two neighbouring turns of these are good
abbrev pub HasGoodPair : List Turn → Type 0
HasGoodPair [] = ⊥
HasGoodPair (turn ∷ []) = ⊥
HasGoodPair (turn ∷ next ∷ turns) = (IsGood turn × IsGood next) ⊎ HasGoodPair (next ∷ turns)

-- a fair schedule: the receiver wishes nothing in any turn, the sender's next block never waits, and each eight neighbouring turns hold two
-- neighbouring good ones. Fewer than eight turns may all be lost
pub record IsFair (turns : List Turn) : Type 0 where
  pub goes : AllByRecursion (λ turn. turn.wish ≡ Wish.Go) turns
  pub unpaused : AllByRecursion (λ turn. turn.pause ≡ false) turns
  pub good : (i : ℕ) → i + 8 ≤ length turns → HasGoodPair (take 8 (drop i turns))

-- how many turns are enough on a fair line: seven for the bid, and seven for each block
abbrev pub turns_for : List Job → ℕ
turns_for jobs = 7 + 7 * length (blocks jobs)

-- on a fair schedule of as many turns a run without a refusal counts and hands out every job
abbrev pub FairLineIsEnough : Type 0
FairLineIsEnough =
    (jobs : List Job) (turns : List Turn) (spoken : List Spoken) (handed : List Job) (counted : ℕ) (ending : Option Outcome)
    → AllByRecursion JobFits jobs → IsFair turns → turns_for jobs ≤ length turns
    → IsRun jobs turns spoken handed counted ending → AllByRecursion (λ t. t.refused ≡ false) spoken
    → (counted ≡ length jobs) × (handed ≡ jobs)
