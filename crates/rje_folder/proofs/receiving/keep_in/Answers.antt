use Rattle.std.proofs.Common.{◌∙◌}
use Rattle.rje_folder.proofs.receiving.keep_in.Goals as goal

pub returns-clause-asks : goal.returns-clause-asks
returns-clause-asks g c = λ told. rw (c.as_str.ensures.value ∙ c.in_ok-stem.ensures, c.as_str-2.ensures.value ∙ c.in_ok-own.ensures) at (c.keep.ensures.asks told)
