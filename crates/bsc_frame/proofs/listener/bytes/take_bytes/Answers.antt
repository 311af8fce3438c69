use Rattle.std.proofs.Common.{◌+◌, get_or, refl, sym, ◌∙◌, arith}
use Rattle.bsc_frame.specs.FrameKind.{frame_of}
use Rattle.bsc_frame.specs.Inside.Listening.Stage.{so_far_of}
use Rattle.bsc_frame.proofs.Feeding.{feed_kept, feed_last, feed_more}
use Rattle.bsc_frame.proofs.listener.bytes.take_bytes.Goals as goal

pub returns-in-Some-clause-frame : goal.returns-in-Some-clause-frame
returns-in-Some-clause-frame c =
    let piece = c.args.piece.now in
    let used = c.loop-used.used in
    let kept = c.keep_data-kept.result in
    let before = so_far_of c.loop-used.now c.loop-used.text.items in
    let so_far = so_far_of c.loop-used.now c.keep_data-kept.new.text.items in
    sym c.loop-used.invariant.goes_on ∙ sym (feed_kept before so_far piece used kept c.keep_data-kept.ensures.goes_on)
    ∙ feed_last so_far (frame_of c.in-Some.kind c.step.new.text.items) piece (used + kept) (get_or piece (used + kept) 0) (omega arith) refl
    c.in-Some.ensures.next

pub loop-used-preserved-in_default : goal.loop-used-preserved-in_default
loop-used-preserved-in_default c =
    let piece = c.args.piece.now in
    let used = c.loop-used.used in
    let kept = c.keep_data-kept.result in
    let before = so_far_of c.loop-used.now c.loop-used.text.items in
    let so_far = so_far_of c.loop-used.now c.keep_data-kept.new.text.items in
    let after = so_far_of c.step.new.stage c.step.new.text.items in
    record {
      within = omega arith;
      goes_on =
          feed_more so_far after piece (used + kept) (get_or piece (used + kept) 0) (omega arith) refl c.in_default.ensures.next
          ∙ feed_kept before so_far piece used kept c.keep_data-kept.ensures.goes_on ∙ c.loop-used.invariant.goes_on;
      runs = c.in_default.ensures.runs;
    }
