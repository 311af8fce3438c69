use Rattle.std.proofs.Common.{subst, arith, ◌-◌, length, drop, take, List, ℕ}
use Rattle.std.proofs.lemmas.List.{take_rest, length-drop}
use Rattle.std.specs.Array.{IsFirstChunk}
use Rattle.std.specs.List.{AllByRecursion}
use Rattle.bsc_frame.specs.Body.{IsNormalText}
use Rattle.bsc_frame.specs.FrameFault.{IsFirstBad}
use Rattle.bsc_frame.proofs.FirstBad.{rest_normal, piece_normal, first_of_rest, first_of_piece}
use Rattle.bsc_frame.proofs.normal_text.first_bad.Goals as goal

-- a piece of the rest of the text stands at the place that was passed
of_rest : (text piece : List ℕ) (passed : ℕ) → IsFirstChunk (take (length text - passed) (drop passed text)) piece 32 → IsFirstChunk (drop passed text) piece 32
of_rest text piece passed chunk = subst (λ (rest : List ℕ). IsFirstChunk rest piece 32) (take_rest text passed) chunk

pub returns-in-Some-first_bad_in_piece : goal.returns-in-Some-first_bad_in_piece
returns-in-Some-first_bad_in_piece c =
    let chunk = of_rest c.args.text.now c.in-Some.piece.now c.loop-piece.passed c.in-Some.ensures.cases in
    first_of_piece c.args.text.now c.in-Some.piece.now c.loop-piece.passed 32 c.in-Some-first_bad_in_piece.place c.loop-piece.invariant.1 chunk c.in-Some-first_bad_in_piece.ensures

pub overflow_add-result : goal.overflow_add-result
overflow_add-result c = let bad = returns-in-Some-first_bad_in_piece c in omega (arith, bad.within)

pub loop-piece-preserved : goal.loop-piece-preserved
loop-piece-preserved c =
    let chunk = of_rest c.args.text.now c.in-Some.piece.now c.loop-piece.passed c.in-Some.ensures.cases in
    (omega (arith, chunk.enough, length-drop c.loop-piece.passed c.args.text.now), piece_normal c.args.text.now c.in-Some.piece.now c.loop-piece.passed 32 c.loop-piece.invariant.1 chunk c.in_default-first_bad_in_piece.ensures)

pub returns-in-Some-first_bad_one_by_one : goal.returns-in-Some-first_bad_one_by_one
returns-in-Some-first_bad_one_by_one c =
    first_of_rest c.args.text.now c.loop-piece.passed c.in-Some-first_bad_one_by_one.place c.loop-piece.invariant.1
    (subst (λ (rest : List ℕ). IsFirstBad rest c.in-Some-first_bad_one_by_one.place) (take_rest c.args.text.now c.loop-piece.passed) c.in-Some-first_bad_one_by_one.ensures)

pub returns-in-None : goal.returns-in-None
returns-in-None c =
    rest_normal c.args.text.now c.loop-piece.passed c.loop-piece.invariant.1 (subst (AllByRecursion IsNormalText) (take_rest c.args.text.now c.loop-piece.passed) c.in-None.ensures)
