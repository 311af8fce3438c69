use Rattle.rje_answers.proofs.Spelled.{start_is_bad}
use Rattle.rje_answers.proofs.spelling.spell_rest.Goals as goal

pub returns-in-Bad : goal.returns-in-Bad
returns-in-Bad c = rw (c.in-Bad.is, c.put_start_of_text.ensures) start_is_bad
