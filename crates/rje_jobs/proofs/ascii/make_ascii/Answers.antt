use Rattle.std.proofs.Common.{arith}
use Rattle.rje_jobs.specs.Ascii.{shown}
use Rattle.rje_jobs.proofs.InPlace.{one_more}
use Rattle.rje_jobs.proofs.ascii.make_ascii.Goals as goal

pub loop-byte-preserved : goal.loop-byte-preserved
loop-byte-preserved c = one_more shown c.args.bytes.now c.loop-byte.bytes c.loop-byte.byte-index c.character.result (omega arith) c.loop-byte.invariant c.character.ensures
