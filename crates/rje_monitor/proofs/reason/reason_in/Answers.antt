-- Why a text is no transmission is told rightly at each way out.
-- An invariant says what of the text was read as data; from there each item shows why no frame begins so (ItemsRead).
use Rattle.std.proofs.Common.{◌≡◌, ◌<◌, ℕ, List, [], ◌∷◌, ◌++◌, length, subst, sym, rules, arith}
use Rattle.std.proofs.lemmas.Bool.Decides.{nat_tests}
use Rattle.bsc_frame.specs.Inside.Listening.HeardSoFar.{Text}
use Rattle.rje_monitor.specs.declared.item.Item.{Item}
use Rattle.rje_monitor.specs.Inside.Items.{IsItem, IsAt, IsLineEnd}
use Rattle.rje_monitor.proofs.ItemsRead.{data_more, data_full, fill_more, end_more, line_cut, other_spoils}
use Rattle.rje_monitor.proofs.reason.reason_in.Goals as goal

pub returns-then-is_full : goal.returns-then-is_full
returns-then-is_full c = λ bytes none at.
    let item : IsItem c.args.transparent (Item.Data c.in-Data.byte) c.loop-item.rest.now c.in-Some.more.now =
    subst (λ i. IsItem c.args.transparent i c.loop-item.rest.now c.in-Some.more.now) c.in-Data.is c.in-Some.ensures.item in
    let full : length c.loop-item.text.items ≡ 512 = grind (arith, nat_tests) in
    data_full c.args.transparent c.loop-item.text.items c.loop-item.rest.now c.in-Some.more.now bytes c.in-Data.byte (c.loop-item.invariant bytes at) item.0 item.1 full

pub returns-in-End : goal.returns-in-End
returns-in-End c = λ bytes none at.
    let item : IsItem c.args.transparent (Item.End c.in-End.closing) c.loop-item.rest.now c.in-Some.more.now =
    subst (λ i. IsItem c.args.transparent i c.loop-item.rest.now c.in-Some.more.now) c.in-End.is c.in-Some.ensures.item in
    c.reason_at_check.ensures bytes
    (end_more c.args.transparent c.loop-item.text.items c.loop-item.rest.now c.in-Some.more.now bytes c.in-End.closing (c.loop-item.invariant bytes at) item)

pub returns-in-Other : goal.returns-in-Other
returns-in-Other c = λ bytes none at.
    let item : IsItem c.args.transparent Item.Other c.loop-item.rest.now c.in-Some.more.now =
    subst (λ i. IsItem c.args.transparent i c.loop-item.rest.now c.in-Some.more.now) c.in-Other.is c.in-Some.ensures.item in
    other_spoils c.args.transparent c.loop-item.text.items c.loop-item.rest.now c.in-Some.more.now bytes item.0 none (c.loop-item.invariant bytes at) item.1 item.2
    item.3 item.4 item.5

pub loop-item-preserved-in-Fill : goal.loop-item-preserved-in-Fill
loop-item-preserved-in-Fill c = λ bytes at.
    let item : IsItem c.args.transparent Item.Fill c.loop-item.rest.now c.in-Some.more.now =
    subst (λ i. IsItem c.args.transparent i c.loop-item.rest.now c.in-Some.more.now) c.in-Fill.is c.in-Some.ensures.item in
    fill_more c.args.transparent c.loop-item.text.items c.loop-item.rest.now c.in-Some.more.now bytes (c.loop-item.invariant bytes at) item

pub loop-item-preserved : goal.loop-item-preserved
loop-item-preserved c = λ bytes at.
    let item : IsItem c.args.transparent (Item.Data c.in-Data.byte) c.loop-item.rest.now c.in-Some.more.now =
    subst (λ i. IsItem c.args.transparent i c.loop-item.rest.now c.in-Some.more.now) c.in-Data.is c.in-Some.ensures.item in
    let short : length c.loop-item.text.items < 512 = grind (arith, nat_tests) in
    let pushed : c.push.new.self.items ≡ c.loop-item.text.items ++ c.in-Data.byte ∷ [] = search rules in
    subst (λ (t : List ℕ). IsAt bytes (Text c.args.transparent t) c.in-Some.more.now) (sym pushed)
    (data_more c.args.transparent c.loop-item.text.items c.loop-item.rest.now c.in-Some.more.now bytes c.in-Data.byte (c.loop-item.invariant bytes at) item.0 item.1 short)

pub returns : goal.returns
returns c = λ bytes none at.
    let ends : IsLineEnd c.args.transparent c.loop-item.rest.now = search rules in
    line_cut c.args.transparent c.loop-item.text.items c.loop-item.rest.now bytes (c.loop-item.invariant bytes at) ends
