use Rattle.std.proofs.Common.{◌≡◌, ◌+◌, ◌++◌, drop}
use Rattle.rje_print.specs.JobTexts.{shown_from}
use Rattle.rje_print.proofs.job_texts.entries_text.Given as goal

abbrev pub invariant-loop-entry : goal.invariant-loop-entry
invariant-loop-entry l = record {
  counted : l.number ≡ l.entry-index + 1;
  lines : l.text.items ++ shown_from l.choice l.records l.number (drop l.entry-index l.entries) ≡ shown_from l.choice l.records 1 l.entries;
}
