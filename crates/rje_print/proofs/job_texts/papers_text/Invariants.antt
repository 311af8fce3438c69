use Rattle.std.proofs.Common.{◌≡◌, ◌+◌, ◌++◌, drop}
use Rattle.rje_print.specs.JobTexts.{paper_from}
use Rattle.rje_print.proofs.job_texts.papers_text.Given as goal

abbrev pub invariant-loop-entry : goal.invariant-loop-entry
invariant-loop-entry l = record {
  counted : l.number ≡ l.entry-index + 1;
  papers : l.text.items ++ paper_from l.choice l.form l.number (drop l.entry-index l.entries) ≡ paper_from l.choice l.form 1 l.entries;
}
