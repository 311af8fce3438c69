use Rattle.std.proofs.Common.{rules}
use Rattle.rje_settle.proofs.NameTexts.{nothing_behind}
use Rattle.rje_settle.proofs.name_reading.read_receipt.Goals as goal

pub returns-else-is_empty : goal.returns-else-is_empty
returns-else-is_empty c r can e =
    let none = nothing_behind c.args.text.now c.in-Some.receipt r c.in-Some.behind.now c.in-Some.ensures.0 can c.in-Some.ensures.1 e in
    search rules
