-- A worked example, the newest first. Two jobs of one block are put out at the primary, and one at the secondary. In the first exchange both ends
-- bid at once, and the secondary gives way; the primary's first job comes, but its answer doesn't, and that is all. In the second they bid at once
-- again, and the second job is sent. So the first job is in doubt, and isn't sent again; the secondary's is, and lies ready still. Own profile.
use Rattle.std.specs.Prelude.{◌≡◌, List, [], ◌∷◌, None}
use Rattle.bsc_codes.specs.declared.block.Block.{Block}
use Rattle.bsc_codes.specs.declared.block.Closing.TheVariants.{Etx}
use Rattle.bsc_link.specs.declared.rank.Rank.{Rank}
use Rattle.rje_text.specs.declared.unpacked.Unpacked.{Unpacked}
use Rattle.rje_text.specs.Reading.{IsRead}
use Rattle.rje_day.specs.declared.ended.Ended.{Ended}
use Rattle.rje_jobs.specs.declared.job.Job.{Job}
use Rattle.rje_jobs.specs.Blocks.{blocks}
use Rattle.rje_jobs.specs.Fitting.{JobFits}
use Rattle.day_world.specs.Day.{Exchanged, Happening, IsDay, PutOut}
use Rattle.day_world.specs.Passage.{Named, Passage}

-- a job that can be sent, in one block
pub record IsOfOneBlock (job : Job) : Type 0 where
  pub fits : JobFits job
  pub block : Block
  pub is : blocks (job ∷ []) ≡ block ∷ []
  pub last : block.closing ≡ Etx
  pub content : Unpacked
  pub read : IsRead block None content

-- of one job
abbrev pub passage : Named → Ended → (kept : List Job) → Passage
passage g ended kept = record { given = g ∷ []; ended = ended; kept = kept }

abbrev pub worked_day : (first second other : Named) → List Happening
worked_day first second other =
    Exchanged (passage second Ended.Done (second.job ∷ [])) (passage other (Ended.Early 0) [])
    ∷ Exchanged (passage first (Ended.InDoubt 0) (first.job ∷ [])) (passage other (Ended.Early 0) [])
    ∷ PutOut Rank.Secondary other.name
    ∷ PutOut Rank.Primary second.name
    ∷ PutOut Rank.Primary first.name
    ∷ []

-- that is a day
abbrev pub JobInDoubtMakesADay : Type 0
JobInDoubtMakesADay =
    (first second other : Named) → IsOfOneBlock first.job → IsOfOneBlock second.job → JobFits other.job → (first.name ≡ second.name → ⊥)
    → IsDay (worked_day first second other)
