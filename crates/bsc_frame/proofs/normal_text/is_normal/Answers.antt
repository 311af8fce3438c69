use Rattle.std.proofs.Common.{sym, subst}
use Rattle.bsc_frame.proofs.NormalBytes.{Says, tested, test_is}
use Rattle.bsc_frame.proofs.normal_text.is_normal.Goals as goal

pub returns-clause-means : goal.returns-clause-means
returns-clause-means c = subst (Says c.args.byte) (sym (test_is c.args.byte c.is_normal_text.result c.is_normal_text.ensures)) (tested c.args.byte)

pub returns-clause-test : goal.returns-clause-test
returns-clause-test c = test_is c.args.byte c.is_normal_text.result c.is_normal_text.ensures
