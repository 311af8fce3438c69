use Rattle.rje_answers.proofs.Numbers.{tells_no_numbers}
use Rattle.rje_answers.proofs.laws.machine_tells_no_answers_apart.Goals as goal

pub returns : goal.returns
returns c = tells_no_numbers
