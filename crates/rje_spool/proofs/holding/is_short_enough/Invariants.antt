use Rattle.std.proofs.Common.{◌≡◌, ◌+◌, ◌≤◌, length}
use Rattle.std.specs.List.{flat_map}
use Rattle.rje_files.specs.JobFile.{record_bytes}
use Rattle.rje_spool.specs.Holding.{bytes_alone}
use Rattle.rje_spool.proofs.holding.is_short_enough.Given as goal

abbrev pub invariant-loop-record : goal.invariant-loop-record
invariant-loop-record l = (l.bytes ≤ 16760832) × (l.bytes + length (flat_map record_bytes l.record-iterator) ≡ bytes_alone l.fn.job)
