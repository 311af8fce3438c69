use Rattle.std.proofs.Common.{◌∙◌}
use Rattle.rje_accounts.proofs.promising.drop_promise.Goals as goal

pub returns-in_err-take_away-clause-asks : goal.returns-in_err-take_away-clause-asks
returns-in_err-take_away-clause-asks g c = λ told. rw (c.as_str.ensures.value ∙ c.in_ok-path.ensures) at (c.take_away.ensures.asks told)

pub returns-clause-asks : goal.returns-clause-asks
returns-clause-asks g c = λ told. rw (c.as_str.ensures.value ∙ c.in_ok-path.ensures) at (c.take_away.ensures.asks told)

pub returns-clause-gone : goal.returns-clause-gone
returns-clause-gone g c = λ told. rw (c.as_str.ensures.value ∙ c.in_ok-path.ensures) at (c.in_ok-take_away.ensures.gone told)
