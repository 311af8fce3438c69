use Rattle.std.proofs.Common.{◌∙◌}
use Rattle.rje_folder.proofs.promising.take_back.Goals as goal

pub returns-in-Err-2-clause-asks : goal.returns-in-Err-2-clause-asks
returns-in-Err-2-clause-asks g c = λ told. rw (c.as_str.ensures.value ∙ c.in_ok-ready.ensures) at (c.drop_name.ensures.asks told)

pub returns-clause-asks : goal.returns-clause-asks
returns-clause-asks g c = λ told. rw (c.as_str.ensures.value ∙ c.in_ok-ready.ensures) at (c.drop_name.ensures.asks told)
