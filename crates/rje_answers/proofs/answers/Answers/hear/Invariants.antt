use Rattle.std.proofs.Common.{◌≤◌, ◌-◌, length, take}
use Rattle.rje_answers.specs.declared.given.Given.{Given}
use Rattle.rje_answers.specs.Hearing.{Hears}
use Rattle.rje_answers.proofs.answers.Answers.hear.Given as goal

abbrev pub invariant-loop-place : goal.invariant-loop-place
invariant-loop-place l = (l.place ≤ length l.piece) × Hears l.fn.self (take l.place l.piece) Given.Nothing l.self

abbrev pub decreases-loop-place : goal.decreases-loop-place
decreases-loop-place l = length l.piece - l.place
