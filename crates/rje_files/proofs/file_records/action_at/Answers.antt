use Rattle.std.proofs.Common.{refl}
use Rattle.rje_text.specs.Action.{action_of}
use Rattle.rje_files.proofs.file_records.action_at.Goals as goal

pub returns-in-0 : goal.returns-in-0
unfolding action_of
returns-in-0 c = rw c.in-0.is refl
