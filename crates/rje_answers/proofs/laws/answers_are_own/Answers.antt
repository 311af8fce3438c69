use Rattle.rje_answers.proofs.Own.{comes_where_awaited, gives_own}
use Rattle.rje_answers.proofs.laws.answers_are_own.Goals as goal

pub returns-clause-own : goal.returns-clause-own
returns-clause-own c = gives_own

pub returns-clause-awaited : goal.returns-clause-awaited
returns-clause-awaited c = comes_where_awaited
