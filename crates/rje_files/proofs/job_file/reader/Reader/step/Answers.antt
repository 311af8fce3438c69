use Rattle.std.proofs.Common.{sym}
use Rattle.rje_files.proofs.Steps.{action_step}
use Rattle.rje_files.proofs.job_file.reader.Reader.step.Goals as goal

pub returns-then-is_action-clause-step : goal.returns-then-is_action-clause-step
returns-then-is_action-clause-step c =
    rw c.at-then-is_action.ensures (action_step c.args.self.now c.args.byte c.in-Action.is (sym c.if-is_action.ensures))
