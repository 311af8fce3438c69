-- What the other end's turn does: the job that came is kept once, before the reply, at each way out.
-- What was answered begins as what was kept (Keeps), and an arrival is passed over or taken as Passed says.
use Rattle.std.proofs.Common.{◌≡◌, false, rules}
use Rattle.rje_session.proofs.Keeps.{answered_begins, answered_kept, failed_begins, failed_kept, others_begin, others_kept}
use Rattle.rje_session.proofs.Passed.{others_answered}
use Rattle.rje_session.proofs.in_hand.InHand.take_others_turn.Goals as goal

pub invariant_of-self-in_err-answer_other : goal.invariant_of-self-in_err-answer_other
invariant_of-self-in_err-answer_other g c =
    let s = c.self.inside.station in
    let mid = c.hear_other.new.station in
    let refused = c.in_ok-arrival.arrival.refused in
    let fault = c.in_err-answer_other.field-0.0 in
    let heard = c.in_ok-arrival.ensures.heard in
    let live : s.receiver.over ≡ false = search rules in
    let kept = others_kept c.self.inside.kept c.in-Ok.kept s mid c.jobs.result.now heard.what refused heard.state (search rules) (c.self.invariant.kept live) c.in-Ok.ensures.next in record {
      begins = failed_begins mid c.answer_other.new.station fault c.self.inside.from c.in_err-answer_other.ensures.fault
          (others_begin s heard.what refused mid c.self.inside.from heard.state c.self.invariant.begins);
      kept = λ _. failed_kept c.in-Ok.kept mid c.answer_other.new.station fault c.in_err-answer_other.ensures.fault kept;
    }

pub invariant_of-self-2 : goal.invariant_of-self-2
invariant_of-self-2 g c =
    let s = c.self.inside.station in
    let mid = c.hear_other.new.station in
    let refused = c.in_ok-arrival.arrival.refused in
    let heard = c.in_ok-arrival.ensures.heard in
    let live : s.receiver.over ≡ false = search rules in
    let kept = others_kept c.self.inside.kept c.in-Ok.kept s mid c.jobs.result.now heard.what refused heard.state (search rules) (c.self.invariant.kept live) c.in-Ok.ensures.next in record {
      begins = answered_begins mid c.answer_other.new.station c.self.inside.from c.in_ok-answer_other.ensures.answers.0
          (others_begin s heard.what refused mid c.self.inside.from heard.state c.self.invariant.begins);
      kept = λ _. answered_kept c.in-Ok.kept mid c.answer_other.new.station c.in_ok-answer_other.ensures.answers.0 kept;
    }

pub returns-clause-kept : goal.returns-clause-kept
returns-clause-kept g c =
    let s = c.self.inside.station in
    let mid = c.hear_other.new.station in
    let heard = c.in_ok-arrival.ensures.heard in
    let live : s.receiver.over ≡ false = search rules in
    let kept = others_kept c.self.inside.kept c.in-Ok.kept s mid c.jobs.result.now heard.what c.in_ok-arrival.arrival.refused heard.state (search rules) (c.self.invariant.kept live)
    c.in-Ok.ensures.next in
    answered_kept c.in-Ok.kept mid c.answer_other.new.station c.in_ok-answer_other.ensures.answers.0 kept

pub returns-clause-takes : goal.returns-clause-takes
returns-clause-takes g c =
    let s = c.self.inside.station in
    let at : c.args.self.now.station ≡ s = search rules in
    let turn = others_answered s c.hear_other.new.station c.answer_other.new.station c.in_ok-arrival.arrival c.in_ok-arrival.field-0-1
    (g.L.Line.talk c.args.line.now, g.L.Line.transmissions c.args.line.now) (g.L.Line.talk c.hear_other.new.line, g.L.Line.transmissions c.hear_other.new.line)
    (g.L.Line.talk c.answer_other.new.line, g.L.Line.transmissions c.answer_other.new.line) c.in_ok-arrival.ensures.heard c.hear_other.ensures.none c.in_ok-answer_other.ensures.answers in
    rw at (c.in_ok-arrival.field-0-1, turn.0, turn.1)

pub returns-then-not-can_hold-clause-left : goal.returns-then-not-can_hold-clause-left
returns-then-not-can_hold-clause-left g c =
    let heard = c.in_ok-arrival.ensures.heard in
    (c.hear_other.ensures.none, (heard.what, c.in_ok-arrival.arrival.refused, search rules, search rules))

pub returns-in-Err-clause-left : goal.returns-in-Err-clause-left
returns-in-Err-clause-left g c =
    let heard = c.in_ok-arrival.ensures.heard in
    (c.hear_other.ensures.none, (heard.what, c.in_ok-arrival.arrival.refused, search rules, search rules))
