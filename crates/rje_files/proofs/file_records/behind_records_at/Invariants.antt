use Rattle.std.proofs.Common.{◌≡◌, ◌-◌}
use Rattle.rje_files.specs.Inside.Reading.Stored.{AreRecordsHere, behind_records}
use Rattle.rje_files.proofs.file_records.behind_records_at.Given as goal

abbrev pub invariant-loop-i : goal.invariant-loop-i
invariant-loop-i l = record {
  here : AreRecordsHere (l.count - l._i) l.rest;
  behind : behind_records (l.count - l._i) l.rest ≡ behind_records l.count l.fn.bytes;
}
