use Rattle.std.proofs.Common.{rules, sym, ◌∙◌}
use Rattle.std.proofs.lemmas.Bool.{false≢true}
use Rattle.rje_requests.proofs.Numbers.{both_ways, last_number, none_first, others_first}
use Rattle.rje_requests.proofs.job_numbers.are_job_numbers.Goals as goal

pub loop-first-preserved : goal.loop-first-preserved
loop-first-preserved c = (
  search rules,
  both_ways c.loop-first.invariant.1 (others_first c.loop-first.rest.now c.in-Some.first.now c.in-Some.more.now c.in-Some.ensures.parts
      (c.is_another.ensures.0 c.if-not-is_another.false)),
)

pub returns-then-not-is_another : goal.returns-then-not-is_another
returns-then-not-is_another c = (
  (λ e. absurd (false≢true e)),
  (λ h. absurd (none_first c.loop-first.rest.now c.in-Some.first.now c.in-Some.more.now c.in-Some.ensures.parts
      (λ another. absurd (false≢true (sym c.if-not-is_another.true ∙ c.is_another.ensures.1 another))) (c.loop-first.invariant.1.0 h))),
)

pub returns : goal.returns
returns c =
    let last = last_number c.loop-first.rest.now c.number_of.result c.in_default.ensures.parts c.number_of.ensures in
    ((λ e. c.loop-first.invariant.1.1 (last.0 (sym c.is_some.ensures ∙ e))), (λ h. c.is_some.ensures ∙ last.1 (c.loop-first.invariant.1.0 h)))
