use Rattle.std.proofs.Common.{◌≡◌, ◌+◌, ◌++◌, length}
use Rattle.rje_print.specs.JobTexts.{record_lines}
use Rattle.rje_print.proofs.job_texts.push_records.Given as goal

abbrev pub invariant-loop-item : goal.invariant-loop-item
invariant-loop-item l = record {
  counted : l.before + length l.item-iterator ≡ l.count;
  lines : l.text.items ++ record_lines (l.before + 1) l.item-iterator ≡ l.fn.text.items ++ record_lines 1 l.entry.job.records;
}
