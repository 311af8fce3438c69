use Rattle.std.proofs.Common.{arith}
use Rattle.std.proofs.lemmas.Bool.Decides.{nat_tests}
use Rattle.rje_print.proofs.Fates.{digit_character}
use Rattle.rje_print.proofs.script.fate_word.digit_of.Goals as goal

pub returns-in_default-clause-value : goal.returns-in_default-clause-value
returns-in_default-clause-value c = λ value h is. let hex = digit_character value c.args.character h is in grind (arith, nat_tests)

pub returns-in_default-2-clause-value : goal.returns-in_default-2-clause-value
returns-in_default-2-clause-value c = λ value h is. let hex = digit_character value c.args.character h is in grind (arith, nat_tests)

pub returns-in_default-3-clause-value : goal.returns-in_default-3-clause-value
returns-in_default-3-clause-value c = λ value h is. let hex = digit_character value c.args.character h is in grind (arith, nat_tests)

pub returns-in_default-4-clause-value : goal.returns-in_default-4-clause-value
returns-in_default-4-clause-value c = λ value h is. let hex = digit_character value c.args.character h is in grind (arith, nat_tests)
