use Rattle.std.proofs.Common.{◌-◌, sym, arith}
use Rattle.rje_files.proofs.Steps.{name_step, name_sound}
use Rattle.rje_files.proofs.job_file.reader.Reader.after_name.Goals as goal

pub returns-else-left-eq1-clause-step : goal.returns-else-left-eq1-clause-step
returns-else-left-eq1-clause-step c =
    let sound = name_sound c.args.self.now c.args.left c.args.ended c.requires.due c.requires.sound in
    rw c.at-else-left-eq1.ensures
    (name_step c.args.self.now c.args.left (c.args.left - 1) c.args.ended c.args.byte c.requires.due (omega (arith, sound.0))
    (omega (arith, sound.0, c.if-left-eq1.false)) (omega (arith, sound.1)) (sym c.if-not-may_stand.ensures))
