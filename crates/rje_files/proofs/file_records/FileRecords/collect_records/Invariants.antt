use Rattle.std.proofs.Common.{◌≡◌, ◌++◌, ◌-◌}
use Rattle.rje_files.specs.Inside.Reading.Stored.{AreRecordsHere, records_in}
use Rattle.rje_files.proofs.file_records.FileRecords.collect_records.Given as goal

abbrev pub invariant-loop-i : goal.invariant-loop-i
invariant-loop-i l = record {
  here : AreRecordsHere (l._i-end - l._i) l.rest;
  read : l.records ++ records_in (l._i-end - l._i) l.rest ≡ l.fn.self;
}
