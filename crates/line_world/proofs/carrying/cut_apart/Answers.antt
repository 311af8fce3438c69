-- Each piece goes from the last cut to the next one.
use Rattle.std.proofs.Common.{rules, arith, refl, ◌≡◌, ◌∙◌, ◌-◌, length, take, drop, get_or}
use Rattle.line_world.proofs.Cutting.{next_cut, go_on, at_last, all_taken}
use Rattle.line_world.proofs.carrying.cut_apart.Goals as goal

pub loop-cut-init : goal.loop-cut-init
loop-cut-init c = record { within = c.requires.within; ahead = c.requires.cuts; come = rw c.new-pieces.ensures.items refl }

pub slice_bounds-from_slice-count : goal.slice_bounds-from_slice-count
slice_bounds-from_slice-count c =
    let next = next_cut _ _ 0 _ _ c.loop-cut-test.true c.loop-cut.invariant.ahead in
    omega (arith, next.0)

pub loop-cut-preserved : goal.loop-cut-preserved
loop-cut-preserved c =
    let next = next_cut _ _ 0 _ _ c.loop-cut-test.true c.loop-cut.invariant.ahead in
    record {
      within = omega (arith, next.1);
      ahead = next.2;
      come = go_on (λ p. p.items) c.loop-cut.pieces.items c.push.new.self.items c.in_ok-from_slice.field-0 c.args.bytes.now (drop c.args.from c.args.bytes.now) c.loop-cut.place (get_or c.args.cuts.now c.loop-cut.cut-index 0) (omega (arith, next.0)) (search rules) (search rules) c.loop-cut.invariant.come;
    }

pub returns : goal.returns
returns c =
    let piece : c.in_ok-from_slice-2.field-0.items ≡ take (length c.args.bytes.now - c.loop-cut.place) (drop c.loop-cut.place c.args.bytes.now) = search rules in
    record { bytes = at_last (λ p. p.items) c.loop-cut.pieces.items c.push-2.new.self.items c.in_ok-from_slice-2.field-0 c.args.bytes.now (drop c.args.from c.args.bytes.now) c.loop-cut.place (search rules) (piece ∙ all_taken c.args.bytes.now c.loop-cut.place) c.loop-cut.invariant.come }
