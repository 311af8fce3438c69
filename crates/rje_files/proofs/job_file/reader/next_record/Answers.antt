use Rattle.std.proofs.Common.{◌-◌, arith}
use Rattle.rje_files.proofs.Steps.{entry_there, entry_back}
use Rattle.rje_files.proofs.job_file.reader.next_record.Goals as goal

pub returns-then-jobs-gt0-clause-there : goal.returns-then-jobs-gt0-clause-there
returns-then-jobs-gt0-clause-there c =
    entry_there c.args.version c.first_due.result c.args.records c.args.jobs (c.args.jobs - 1) c.first_due.ensures.first c.first_due.ensures.second
    (omega (arith, c.if-records-gt0.false)) (omega (arith, c.if-jobs-gt0.true))

pub returns-then-jobs-gt0-clause-back : goal.returns-then-jobs-gt0-clause-back
returns-then-jobs-gt0-clause-back c =
    entry_back c.args.version c.first_due.result c.args.records c.args.jobs (c.args.jobs - 1) c.first_due.ensures.first c.first_due.ensures.second
    (omega (arith, c.if-records-gt0.false)) (omega (arith, c.if-jobs-gt0.true))
