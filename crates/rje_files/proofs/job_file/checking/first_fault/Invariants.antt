use Rattle.std.proofs.Common.{◌-◌, ◌≤◌, length, take}
use Rattle.rje_files.specs.JobFile.{IsFileUpTo}
use Rattle.rje_files.specs.Inside.Reading.Reader.{HasRead}
use Rattle.rje_files.proofs.job_file.checking.first_fault.Given as goal

abbrev pub invariant-loop-place : goal.invariant-loop-place
invariant-loop-place l = record {
  within : l.place ≤ length l.bytes;
  read : HasRead (IsFileUpTo l.newest) (take l.place l.bytes) l.reader;
}

abbrev pub decreases-loop-place : goal.decreases-loop-place
decreases-loop-place l = length l.bytes - l.place
