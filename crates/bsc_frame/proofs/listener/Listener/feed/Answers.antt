use Rattle.std.proofs.Common.{sym, ap, ◌∙◌}
use Rattle.bsc_frame.specs.FrameKind.{frame_of}
use Rattle.bsc_frame.specs.Inside.Listening.Run.{run}
use Rattle.bsc_frame.specs.Inside.Listening.Stage.{so_far_of}
use Rattle.bsc_frame.proofs.Feeding.{feed_found, feed_on, feed_none}
use Rattle.bsc_frame.proofs.listener.Listener.feed.Goals as goal

pub returns-clause-frame : goal.returns-clause-frame
returns-clause-frame c = λ bytes h.
    let piece = c.args.piece.now in
    let used = c.take_bytes-used.result.0 in
    let found = rw c.in-Some.is at c.take_bytes-used.ensures.frame in
    rw c.into_frame.ensures.frame (feed_found c.args.self.now (frame_of c.in-Some.kind c.take_bytes-used.new.text.items) bytes piece used h
    (ap (λ p. run p piece) (sym c.self.view_is) ∙ found))

pub returns-in_default-clause-none : goal.returns-in_default-clause-none
returns-in_default-clause-none c = λ bytes h.
    let piece = c.args.piece.now in
    let on = rw c.in_default.is at c.take_bytes-used.ensures.on in
    feed_none c.args.self.now (so_far_of c.take_bytes-used.new.stage c.take_bytes-used.new.text.items) bytes piece h (ap (λ p. run p piece) (sym c.self.view_is) ∙ on)

pub returns-in_default-clause-on : goal.returns-in_default-clause-on
returns-in_default-clause-on c = λ bytes h.
    let piece = c.args.piece.now in
    let on = rw c.in_default.is at c.take_bytes-used.ensures.on in
    feed_on c.args.self.now (so_far_of c.take_bytes-used.new.stage c.take_bytes-used.new.text.items) bytes piece h (ap (λ p. run p piece) (sym c.self.view_is) ∙ on)
