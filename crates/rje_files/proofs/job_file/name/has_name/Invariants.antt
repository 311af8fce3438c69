use Rattle.std.proofs.Common.{◌≡◌, drop}
use Rattle.rje_files.specs.Entry.{is_job_name, is_name_from}
use Rattle.rje_files.proofs.job_file.name.has_name.Given as goal

abbrev pub invariant-loop-byte : goal.invariant-loop-byte
invariant-loop-byte l = is_job_name l.fn.name ≡ is_name_from l.ended (drop l.byte-index l.name)
