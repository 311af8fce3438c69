use Rattle.std.proofs.Common.{arith}
use Rattle.rje_files.proofs.Numbers.{more_room, in_word}
use Rattle.rje_files.proofs.job_file.reader.with_byte.Goals as goal

pub overflow_mul-result : goal.overflow_mul-result
overflow_mul-result c = let m = in_word c.args.left c.args.so_far c.args.byte c.requires.more c.requires.left c.requires.fits c.ranges.byte.fits in omega (arith, m)

pub overflow_add-result : goal.overflow_add-result
overflow_add-result c = let m = in_word c.args.left c.args.so_far c.args.byte c.requires.more c.requires.left c.requires.fits c.ranges.byte.fits in omega (arith, m)

pub returns-clause-bound : goal.returns-clause-bound
returns-clause-bound c = more_room c.args.left c.args.so_far c.args.byte c.requires.more c.requires.left c.requires.fits c.ranges.byte.fits
