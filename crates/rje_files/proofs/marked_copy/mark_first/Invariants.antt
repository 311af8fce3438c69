use Rattle.std.proofs.Common.{drop}
use Rattle.rje_files.specs.declared.job_file.version.FileVersion.TheVariants.{Second}
use Rattle.rje_files.specs.JobFile.{file_of}
use Rattle.rje_files.specs.Unsent.{with_sent}
use Rattle.rje_files.proofs.MarkedCopy.{Becomes}
use Rattle.rje_files.proofs.marked_copy.mark_first.Given as goal

abbrev pub invariant-loop-entry : goal.invariant-loop-entry
invariant-loop-entry l = Becomes l.bytes l.start l.left (drop l.entry-index l.entries) (file_of Second (with_sent l.fn.count l.fn.entries))
