use Rattle.std.proofs.Common.{◌≡◌, ◌++◌, ◌-◌, length}
use Rattle.std.specs.List.{flat_map, AllByRecursion}
use Rattle.rje_files.specs.JobFile.{entry_bytes, FitsFields}
use Rattle.rje_files.specs.Inside.Reading.Grammar.{Entries}
use Rattle.rje_files.proofs.job_file.collecting.collect_file_entries.Given as goal

abbrev pub invariant-loop-i : goal.invariant-loop-i
invariant-loop-i l = record {
  many : length l.entries.items ≡ l.i;
  spelled : l.initial.rest ≡ flat_map (entry_bytes l.version) l.entries.items ++ l.rest;
  fit : AllByRecursion (FitsFields l.version) l.entries.items;
  more : Entries l.version (l.count - l.i) l.rest;
}
