use Rattle.std.proofs.Common.{◌≡◌, ◌∙◌, ◌++◌, rules, sym, lit<}
use Rattle.rje_settle.specs.Receipt.{counted_text}
use Rattle.rje_settle.proofs.CountedTexts.{card_is, one_front, same_card, words_behind}
use Rattle.rje_settle.proofs.receipt.Receipt.read.Goals as goal

pub returns-in_default : goal.returns-in_default
returns-in_default c r can e =
    let is = card_is c.args.card.now r e in
    let begins = rw is at c.in_default.ensures.cases in
    cc begins

pub returns-in_default-read_counted : goal.returns-in_default-read_counted
returns-in_default-read_counted c r can e =
    let is = card_is c.args.card.now r e in
    let rest : c.in-Some.rest.now ≡ counted_text 0x20 r ++ words_behind r = rw is at c.in-Some.ensures.cases.1 in
    c.in_default-read_counted.ensures r (words_behind r) can rest

pub returns-else-eq : goal.returns-else-eq
returns-else-eq c r can e =
    let is = card_is c.args.card.now r e in
    let rest : c.in-Some.rest.now ≡ counted_text 0x20 r ++ words_behind r = rw is at c.in-Some.ensures.cases.1 in
    let front = one_front 0x20 c.in-Some-read_counted.receipt r c.in-Some-read_counted.field-0-1.now (words_behind r) (lit< tt) c.in-Some-read_counted.ensures.0 can
    (sym c.in-Some-read_counted.ensures.1 ∙ rest) in
    let same : c.card.result ≡ c.args.card.now = same_card c.card.result c.args.card.now c.in-Some-read_counted.receipt r front.0 c.card.ensures e in
    search rules
