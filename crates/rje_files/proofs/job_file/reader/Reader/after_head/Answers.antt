use Rattle.rje_files.proofs.Steps.{head_refused, head_step}
use Rattle.rje_files.proofs.job_file.reader.Reader.after_head.Goals as goal

pub returns-then-byte-place-clause-refused : goal.returns-then-byte-place-clause-refused
returns-then-byte-place-clause-refused c = head_refused c.args.self.now c.args.place c.args.byte c.requires.due c.requires.place c.if-byte-place.true

pub returns-else-place-eq4-clause-step : goal.returns-else-place-eq4-clause-step
returns-else-place-eq4-clause-step c =
    rw c.at-else-place-eq4.ensures (head_step c.args.self.now c.args.place c.args.byte c.requires.due c.requires.place c.if-place-eq4.false c.if-byte-place.false)
