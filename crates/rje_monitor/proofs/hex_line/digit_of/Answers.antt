use Rattle.std.proofs.Common.{arith}
use Rattle.std.proofs.lemmas.Bool.Decides.{nat_tests}
use Rattle.rje_monitor.proofs.Pairs.{digit_character}
use Rattle.rje_monitor.proofs.hex_line.digit_of.Goals as goal

pub returns-in_default-clause-value : goal.returns-in_default-clause-value
returns-in_default-clause-value c = λ value is. let hex = digit_character value c.args.character is in grind (arith, nat_tests)

pub returns-in_default-2-clause-value : goal.returns-in_default-2-clause-value
returns-in_default-2-clause-value c = λ value is. let hex = digit_character value c.args.character is in grind (arith, nat_tests)

pub returns-in_default-3-clause-value : goal.returns-in_default-3-clause-value
returns-in_default-3-clause-value c = λ value is. let hex = digit_character value c.args.character is in grind (arith, nat_tests)

pub returns-in_default-4-clause-value : goal.returns-in_default-4-clause-value
returns-in_default-4-clause-value c = λ value is. let hex = digit_character value c.args.character is in grind (arith, nat_tests)
