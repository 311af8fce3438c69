use Rattle.std.proofs.Common.{◌∙◌, inl, inr, rules}
use Rattle.rje_settle.proofs.NameTexts.{behind_dash, last_cases, no_place, place_parts}
use Rattle.rje_settle.proofs.name_reading.read_place.Goals as goal

pub returns-in_default-split_once : goal.returns-in_default-split_once
returns-in_default-split_once c place is e =
    no_place c.in-Some.rest.now place c.in_default-split_once.ensures ((rw c.as_slice.ensures at c.in-Some.ensures.cases.1) ∙ behind_dash c.args.text.now place e)

pub returns-in_default-read_mark : goal.returns-in_default-read_mark
returns-in_default-read_mark c place is e =
    let rest = (rw c.as_slice.ensures at c.in-Some.ensures.cases.1) ∙ behind_dash c.args.text.now place e in
    let parts = place_parts c.in-Some.rest.now c.in-Some-split_once.mark.now c.in-Some-split_once.last.now place is c.in-Some-split_once.ensures rest in
    c.in_default-read_mark.ensures place.mark is parts.0

pub returns-else-eq-2 : goal.returns-else-eq-2
returns-else-eq-2 c place is e =
    let rest = (rw c.as_slice.ensures at c.in-Some.ensures.cases.1) ∙ behind_dash c.args.text.now place e in
    let parts = place_parts c.in-Some.rest.now c.in-Some-split_once.mark.now c.in-Some-split_once.last.now place is c.in-Some-split_once.ensures rest in
    elim (last_cases place.is_last c.in-Some-split_once.last.now parts.1) [
      | inl one ↦ search rules
      | inr nought ↦ search rules
    ]
