use Rattle.std.proofs.Common.{◌<◌, ◌≤◌, length, drop, inl, inr, arith}
use Rattle.std.proofs.lemmas.List.{length-drop}
use Rattle.rje_answers.specs.Hearing.{Takes}
use Rattle.rje_answers.proofs.Pieces.{hears_on, hears_out}
use Rattle.rje_answers.proofs.answers.Answers.hear.Goals as goal

pub loop-place-preserved : goal.loop-place-preserved
loop-place-preserved c =
    let takes : Takes c.loop-place.self (drop c.loop-place.place c.args.piece.now) c.take-used.result c.take-used.new.self = rw c.split_at.ensures.back at c.take-used.ensures.takes in
    let used : c.take-used.result.used ≤ length (drop c.loop-place.place c.args.piece.now) = rw c.split_at.ensures.back at c.take-used.ensures.used in
    let left = length-drop c.loop-place.place c.args.piece.now in
    (omega (arith, used, left, c.loop-place-test.true), hears_on c.args.self.now c.loop-place.self c.args.piece.now c.loop-place.place c.take-used.result c.take-used.new.self c.loop-place.invariant.1 takes c.in-Nothing.is)

pub returns-then-used-eq0 : goal.returns-then-used-eq0
returns-then-used-eq0 c =
    let takes : Takes c.loop-place.self (drop c.loop-place.place c.args.piece.now) c.take-used.result c.take-used.new.self = rw c.split_at.ensures.back at c.take-used.ensures.takes in
    let left = length-drop c.loop-place.place c.args.piece.now in
    let some : 0 < length (drop c.loop-place.place c.args.piece.now) = omega (arith, left, c.loop-place-test.true) in
    hears_out c.args.self.now c.loop-place.self c.args.piece.now c.loop-place.place c.take-used.result c.take-used.new.self c.loop-place.invariant.1 takes some (inr c.if-used-eq0.true)

pub returns-in_default : goal.returns-in_default
returns-in_default c =
    let takes : Takes c.loop-place.self (drop c.loop-place.place c.args.piece.now) c.take-used.result c.take-used.new.self = rw c.split_at.ensures.back at c.take-used.ensures.takes in
    let left = length-drop c.loop-place.place c.args.piece.now in
    let some : 0 < length (drop c.loop-place.place c.args.piece.now) = omega (arith, left, c.loop-place-test.true) in
    hears_out c.args.self.now c.loop-place.self c.args.piece.now c.loop-place.place c.take-used.result c.take-used.new.self c.loop-place.invariant.1 takes some (inl c.in_default.not-Nothing)
