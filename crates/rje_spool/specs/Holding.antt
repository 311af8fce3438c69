-- Which jobs a receiving station can hold (own profile).
use Rattle.std.specs.Prelude.{ℕ, ◌+◌, ◌≤◌, length}
use Rattle.std.specs.List.{flat_map}
use Rattle.rje_files.specs.JobFile.{record_bytes}
use Rattle.rje_jobs.specs.declared.job.Job.{Job}

-- how many bytes the job file of a job alone has: 33 before its records, and those of its records
abbrev pub bytes_alone : Job → ℕ
bytes_alone job = 33 + length (flat_map record_bytes job.records)

-- that file is no longer than what a station keeps
abbrev pub IsShortEnough : Job → Type 0
IsShortEnough job = bytes_alone job ≤ 16760832

-- it is so, and the job has no more records than a station holds
abbrev pub CanBeHeld : Job → Type 0
CanBeHeld job = (length job.records ≤ 750000) × IsShortEnough job
