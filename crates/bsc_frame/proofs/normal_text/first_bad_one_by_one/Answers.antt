use Rattle.std.proofs.Common.{get_or, below_more, ◌≤◌, length, arith}
use Rattle.bsc_frame.specs.Body.{IsNormalText}
use Rattle.bsc_frame.proofs.FirstBad.{all_normal}
use Rattle.bsc_frame.proofs.normal_text.first_bad_one_by_one.Goals as goal

pub loop-i-preserved : goal.loop-i-preserved
loop-i-preserved c =
    below_more (λ k. IsNormalText (get_or c.args.text.now k 0)) c.loop-i.i c.loop-i.invariant c.if-not-is_normal.ensures.means

pub returns : goal.returns
returns c = all_normal c.args.text.now (λ k h. c.loop-i.invariant k (let l : length c.args.text.now ≤ c.loop-i.i = omega arith in omega arith))
