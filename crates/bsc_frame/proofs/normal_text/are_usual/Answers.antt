use Rattle.std.proofs.Common.{get_or, length, ◌≤◌, below_more, arith}
use Rattle.std.proofs.lemmas.Bool.{and_parts}
use Rattle.bsc_frame.specs.Body.{IsNormalText}
use Rattle.bsc_frame.proofs.FirstBad.{all_normal}
use Rattle.bsc_frame.proofs.normal_text.are_usual.Goals as goal

pub loop-byte-preserved : goal.loop-byte-preserved
loop-byte-preserved c t =
    let both = and_parts c.loop-byte.all c.is_usual-all.result t in
    below_more (λ k. IsNormalText (get_or c.args.piece.now k 0)) c.loop-byte.byte-index (c.loop-byte.invariant both.0) (c.is_usual-all.ensures both.1)

pub returns : goal.returns
returns c t = all_normal c.args.piece.now (λ k h. c.loop-byte.invariant t k (let l : length c.args.piece.now ≤ c.loop-byte.byte-index = omega arith in omega arith))
