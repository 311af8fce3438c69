use Rattle.std.proofs.Common.{◌≡◌, ◌-◌, ◌≤◌, ◌++◌, List, Some, length, drop}
use Rattle.rje_text.specs.declared.record.Record.{Record}
use Rattle.rje_text.specs.Reading.{records_in}
use Rattle.rje_text.proofs.unpacking.collect.Given as goal

abbrev pub invariant-loop-start : goal.invariant-loop-start
invariant-loop-start l = record {
  within : l.start ≤ length l.text;
  rest : (more : List Record) × (records_in (drop l.start l.text) ≡ Some more) × (records_in l.text ≡ Some (l.records ++ more));
}

abbrev pub decreases-loop-start : goal.decreases-loop-start
decreases-loop-start l = length l.text - l.start
