use Rattle.std.proofs.Common.{◌∙◌, arith}
use Rattle.rje_settle.proofs.CountedTexts.{first_forty, forty_behind, front_parts, not_split}
use Rattle.rje_settle.proofs.counted.read_counted.Goals as goal

pub returns-in_default : goal.returns-in_default
returns-in_default c r behind can e = not_split c.args.between c.args.text.now r behind c.in_default.ensures e

pub returns-then-rest-lt40 : goal.returns-then-rest-lt40
returns-then-rest-lt40 c r behind can e =
    let parts = front_parts c.args.between c.args.text.now c.in-Some.number.now c.in-Some.rest.now r behind c.requires can c.in-Some.ensures e in
    let long = forty_behind r.digest.bytes c.in-Some.rest.now behind can.digest parts.1 in
    absurd (omega arith)

pub returns-in_default-number_of : goal.returns-in_default-number_of
returns-in_default-number_of c r behind can e =
    let parts = front_parts c.args.between c.args.text.now c.in-Some.number.now c.in-Some.rest.now r behind c.requires can c.in-Some.ensures e in
    c.in_default-number_of.ensures r.kept can.number parts.0

pub returns-in_default-read : goal.returns-in_default-read
returns-in_default-read c r behind can e =
    let parts = front_parts c.args.between c.args.text.now c.in-Some.number.now c.in-Some.rest.now r behind c.requires can c.in-Some.ensures e in
    c.in_default-read.ensures r.digest can.digest (c.split_at.ensures.front ∙ first_forty r.digest.bytes c.in-Some.rest.now behind can.digest parts.1)
