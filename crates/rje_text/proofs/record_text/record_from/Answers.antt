-- The data of a record's text.
-- An invariant: what is built so far is what the bytes so far expand to (`IsBuilt`).
use Rattle.std.proofs.Common.{arith, subst, sym, List, ℕ, ◌+◌, length}
use Rattle.rje_text.proofs.Expanding.{IsBuilt, nothing_built, built_front, built_count}
use Rattle.rje_text.proofs.record_text.record_from.Goals as goal

pub loop-i-init : goal.loop-i-init
loop-i-init c =
    subst (λ (bytes : List ℕ). IsBuilt c.args.text.now c.head_of-action.result.1 c.head_of-action.result.0 bytes) (sym c.new-bytes.ensures)
    (nothing_built c.args.text.now c.head_of-action.result.1 c.head_of-action.result.0 c.head_of-action.ensures c.requires)

pub append-requires : goal.append-requires
append-requires c =
    let front = built_front c.args.text.now c.split_at.result.1.now c.split_at-in-loop-i.result.0.now c.loop-i.i c.first_place.result c.head_of-action.result.0
    c.loop-i.bytes.items c.loop-i.invariant (omega arith) c.split_at.ensures.back c.split_at-in-loop-i.ensures.front c.first_place.ensures.within
    c.first_place.ensures.before c.first_place.ensures.at in
    (omega arith, front.0)

pub bounds-text-i : goal.bounds-text-i
bounds-text-i c =
    let front = built_front c.args.text.now c.split_at.result.1.now c.split_at-in-loop-i.result.0.now c.loop-i.i c.first_place.result c.head_of-action.result.0
    c.loop-i.bytes.items c.loop-i.invariant (omega arith) c.split_at.ensures.back c.split_at-in-loop-i.ensures.front c.first_place.ensures.within
    c.first_place.ensures.before c.first_place.ensures.at in
    let step = built_count c.args.text.now _ c.head_of-action.result.0 _ front.1 c.if-i-text.true (front.2 c.if-i-text.true) in
    step.0

pub overflow_sub-text : goal.overflow_sub-text
overflow_sub-text c =
    let front = built_front c.args.text.now c.split_at.result.1.now c.split_at-in-loop-i.result.0.now c.loop-i.i c.first_place.result c.head_of-action.result.0
    c.loop-i.bytes.items c.loop-i.invariant (omega arith) c.split_at.ensures.back c.split_at-in-loop-i.ensures.front c.first_place.ensures.within
    c.first_place.ensures.before c.first_place.ensures.at in
    let step = built_count c.args.text.now _ c.head_of-action.result.0 _ front.1 c.if-i-text.true (front.2 c.if-i-text.true) in
    omega (arith, step.1)

pub fill-requires : goal.fill-requires
fill-requires c =
    let front = built_front c.args.text.now c.split_at.result.1.now c.split_at-in-loop-i.result.0.now c.loop-i.i c.first_place.result c.head_of-action.result.0
    c.loop-i.bytes.items c.loop-i.invariant (omega arith) c.split_at.ensures.back c.split_at-in-loop-i.ensures.front c.first_place.ensures.within
    c.first_place.ensures.before c.first_place.ensures.at in
    let built = subst (λ (bytes : List ℕ). IsBuilt c.args.text.now (c.loop-i.i + length c.split_at-in-loop-i.result.0.now) c.head_of-action.result.0 bytes)
    (sym c.append.ensures) front.1 in
    let step = built_count c.args.text.now _ c.head_of-action.result.0 _ built c.if-i-text.true (front.2 c.if-i-text.true) in
    step.2

pub loop-i-preserved-then-i-text : goal.loop-i-preserved-then-i-text
loop-i-preserved-then-i-text c =
    let front = built_front c.args.text.now c.split_at.result.1.now c.split_at-in-loop-i.result.0.now c.loop-i.i c.first_place.result c.head_of-action.result.0
    c.loop-i.bytes.items c.loop-i.invariant (omega arith) c.split_at.ensures.back c.split_at-in-loop-i.ensures.front c.first_place.ensures.within
    c.first_place.ensures.before c.first_place.ensures.at in
    let at = c.loop-i.i + length c.split_at-in-loop-i.result.0.now in
    let built = subst (λ (bytes : List ℕ). IsBuilt c.args.text.now at c.head_of-action.result.0 bytes) (sym c.append.ensures) front.1 in
    let step = built_count c.args.text.now at c.head_of-action.result.0 _ built c.if-i-text.true (front.2 c.if-i-text.true) in
    subst (λ (bytes : List ℕ). IsBuilt c.args.text.now (at + 2) c.head_of-action.result.0 bytes) (sym c.fill.ensures) step.3

pub loop-i-preserved : goal.loop-i-preserved
loop-i-preserved c =
    let front = built_front c.args.text.now c.split_at.result.1.now c.split_at-in-loop-i.result.0.now c.loop-i.i c.first_place.result c.head_of-action.result.0
    c.loop-i.bytes.items c.loop-i.invariant (omega arith) c.split_at.ensures.back c.split_at-in-loop-i.ensures.front c.first_place.ensures.within
    c.first_place.ensures.before c.first_place.ensures.at in
    subst (λ (bytes : List ℕ). IsBuilt c.args.text.now (c.loop-i.i + length c.split_at-in-loop-i.result.0.now) c.head_of-action.result.0 bytes)
    (sym c.append.ensures) front.1
