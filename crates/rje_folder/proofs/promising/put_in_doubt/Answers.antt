use Rattle.std.proofs.Common.{◌∙◌}
use Rattle.rje_folder.proofs.promising.put_in_doubt.Goals as goal

pub returns-clause-asks : goal.returns-clause-asks
returns-clause-asks g c = λ told. rw (c.as_str.ensures.value ∙ c.in_ok-first.ensures) at (c.move_file.ensures.asks told)
