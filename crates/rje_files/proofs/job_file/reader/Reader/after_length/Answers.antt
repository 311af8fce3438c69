use Rattle.rje_files.proofs.Steps.{length_step}
use Rattle.rje_files.proofs.job_file.reader.Reader.after_length.Goals as goal

pub returns-then-byte-le-MAX_RECORD-clause-step : goal.returns-then-byte-le-MAX_RECORD-clause-step
returns-then-byte-le-MAX_RECORD-clause-step c =
    rw c.at.ensures (length_step c.args.self.now c.args.byte c.requires c.if-byte-eq0.false c.if-byte-le-MAX_RECORD.true)
