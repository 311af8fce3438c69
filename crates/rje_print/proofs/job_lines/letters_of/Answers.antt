use Rattle.std.proofs.Common.{◌==◌, sym, ◌∙◌}
use Rattle.rje_print.proofs.Names.{before_found, before_none}
use Rattle.rje_print.proofs.job_lines.letters_of.Goals as goal

pub returns-in-Some-clause-letters : goal.returns-in-Some-clause-letters
returns-in-Some-clause-letters c = before_found (λ x. x == 0x20) c.args.name.now c.in-Some.end (sym c.first_blank.ensures ∙ c.in-Some.is)

pub returns-in-None-clause-letters : goal.returns-in-None-clause-letters
returns-in-None-clause-letters c = before_none (λ x. x == 0x20) c.args.name.now (sym c.first_blank.ensures ∙ c.in-None.is)
