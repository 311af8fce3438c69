use Rattle.std.proofs.Common.{arith}
use Rattle.bsc_codes.proofs.Reverse.{entry_is}
use Rattle.bsc_codes.proofs.code_page.character_or_zero.Goals as goal

pub returns : goal.returns
returns c = rw c.from.ensures (entry_is c.args.ebcdic (omega arith))
