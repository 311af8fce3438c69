use Rattle.std.proofs.Common.{[]}
use Rattle.rje_files.specs.declared.job_file.reader.Due.TheVariants.{Head}
use Rattle.rje_files.proofs.Steps.{at_due, head_ends}
use Rattle.rje_files.proofs.job_file.reader.Reader.is_done.Goals as goal

pub returns-in-Head-clause-more : goal.returns-in-Head-clause-more
returns-in-Head-clause-more c _ h = head_ends c.args.self.now.version c.in-Head.field-0 (rw c.in-Head.is at c.requires) (at_due c.args.self.now (Head c.in-Head.field-0) [] c.in-Head.is h)
