use Rattle.std.proofs.Common.{◌≡◌, ◌+◌, ◌++◌, drop}
use Rattle.rje_print.specs.JobTexts.{cut_from}
use Rattle.rje_print.proofs.job_texts.cut_text.Given as goal

abbrev pub invariant-loop-entry : goal.invariant-loop-entry
invariant-loop-entry l = record {
  counted : l.number ≡ l.entry-index + 1;
  lines : l.text.items ++ cut_from l.choice l.number (drop l.entry-index l.entries) ≡ cut_from l.choice 1 l.entries;
}
