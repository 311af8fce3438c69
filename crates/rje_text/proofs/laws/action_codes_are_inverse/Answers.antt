use Rattle.rje_text.proofs.ActionCodes.{action_of-code, code_of-action}
use Rattle.rje_text.proofs.laws.action_codes_are_inverse.Goals as goal

pub returns : goal.returns
returns c = λ a code. (action_of-code a code, code_of-action a code)
