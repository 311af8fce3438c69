use Rattle.std.proofs.Common.{◌∙◌}
use Rattle.rje_folder.proofs.receiving.explain.Goals as goal

pub returns-in_err-kept-clause-asks : goal.returns-in_err-kept-clause-asks
returns-in_err-kept-clause-asks g c = λ told.
    rw (c.as_str.ensures.value ∙ c.in_ok-own.ensures, c.as_str-2.ensures.value ∙ c.in_ok-name.ensures, c.as_bytes.ensures.value) at (c.keep.ensures.asks told)

pub returns-clause-asks : goal.returns-clause-asks
returns-clause-asks g c = λ told.
    rw (c.as_str.ensures.value ∙ c.in_ok-own.ensures, c.as_str-2.ensures.value ∙ c.in_ok-name.ensures, c.as_bytes.ensures.value) at (c.keep.ensures.asks told)
