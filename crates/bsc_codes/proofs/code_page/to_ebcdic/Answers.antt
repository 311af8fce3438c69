use Rattle.std.proofs.Common.{sym, arith, ◌∙◌}
use Rattle.bsc_codes.proofs.Tables.{low_none, high_get}
use Rattle.bsc_codes.proofs.code_page.to_ebcdic.Goals as goal

pub returns-then-ascii-lt-FIRST : goal.returns-then-ascii-lt-FIRST
returns-then-ascii-lt-FIRST c = sym (low_none c.args.ascii (omega arith))

pub returns : goal.returns
returns c = c.entry.ensures ∙ high_get c.args.ascii (omega arith) (omega arith)
