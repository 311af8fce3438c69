use Rattle.std.proofs.Common.{◌-◌, arith}
use Rattle.rje_files.proofs.Steps.{count_step, count_sound}
use Rattle.rje_files.proofs.job_file.reader.Reader.after_job_count.Goals as goal

pub returns-else-left-eq1 : goal.returns-else-left-eq1
returns-else-left-eq1 c =
    let sound = count_sound c.args.self.now c.args.left c.args.so_far c.requires.due c.requires.sound in
    rw c.at.ensures
    (count_step c.args.self.now c.args.left (c.args.left - 1) c.args.so_far c.with_byte-number.result c.args.byte c.requires.due (omega (arith, sound.0))
    (omega (arith, sound.0, c.if-left-eq1.false)) (omega (arith, sound.1)) c.with_byte-number.ensures.value c.with_byte-number.ensures.bound c.ranges.byte.fits)
