use Rattle.std.proofs.Common.{◌∙◌}
use Rattle.rje_folder.proofs.taking_over.move_back.Goals as goal

pub returns-clause-asks : goal.returns-clause-asks
returns-clause-asks g c = λ told. rw (c.as_str.ensures.value ∙ c.in_ok-path.ensures, c.as_str-2.ensures.value ∙ c.in_ok-ready.ensures) at (c.move_file.ensures.asks told)
