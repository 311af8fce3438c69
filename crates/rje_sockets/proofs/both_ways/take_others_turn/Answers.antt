-- The other's turn: what it takes, what is kept of it, and what is left where the line or the file fails.
-- The cases of the reply, one by one: `others_answered` says what the station took, BothFiles what that leaves in the file.
use Rattle.std.proofs.Common.{rules, ◌≡◌, ap, refl, ◌∙◌}
use Rattle.rje_station.specs.Receiving.{Receiving}
use Rattle.rje_session.proofs.Passed.{others_answered}
use Rattle.rje_sockets.specs.declared.transfer_error.TransferError.{TransferError}
use Rattle.rje_sockets.specs.Inside.Keeping.{GoesOnKeeping}
use Rattle.rje_sockets.specs.Inside.BothFiles.{kept_of}
use Rattle.rje_sockets.proofs.BothFiles.{answer_leaves, other_kept, refusal_leaves}
use Rattle.rje_sockets.proofs.BothWays.{fails_as}
use Rattle.rje_sockets.proofs.Growing.{still_keeps}
use Rattle.rje_sockets.proofs.both_ways.take_others_turn.Goals as goal

pub returns-clause-kept : goal.returns-clause-kept
returns-clause-kept g c =
    let heard = c.in-Ok.ensures.heard in
    let mid = c.hear_other.new.station in
    other_kept c.args.station.now mid heard.what c.in-Ok.came.0.refused c.args.keeper.now c.keep.new.self c.jobs.result.now c.answer_other.new.station.receiver.jobs
    (g.S.Store.files c.args.store.now) (g.S.Store.files c.keep.new.store) heard.state (c.jobs.ensures ∙ ap (λ (r : Receiving). r.jobs) c.receiver-receiver.ensures)
    (answer_leaves mid c.answer_other.new.station mid.receiver.over c.in_ok-answer_other.ensures.answers.0) c.keep.ensures.file (search rules) (search rules)

pub returns-in_err-answer_other-clause-broken : goal.returns-in_err-answer_other-clause-broken
returns-in_err-answer_other-clause-broken g c =
    let heard = c.in-Ok.ensures.heard in
    let mid = c.hear_other.new.station in
    let fault = c.in_err-answer_other.field-0.0 in
    fails_as c.from_residual.result (TransferError.Line fault)
    (λ broken. GoesOnKeeping c.args.keeper.now c.keep.new.self c.args.station.now.receiver.jobs (kept_of c.args.station.now c.answer_other.new.station broken)
    (g.S.Store.files c.args.store.now) (g.S.Store.files c.keep.new.store)) c.from_residual.ensures.1
    (other_kept c.args.station.now mid heard.what c.in-Ok.came.0.refused c.args.keeper.now c.keep.new.self c.jobs.result.now c.answer_other.new.station.receiver.jobs
    (g.S.Store.files c.args.store.now) (g.S.Store.files c.keep.new.store) heard.state (c.jobs.ensures ∙ ap (λ (r : Receiving). r.jobs) c.receiver-receiver.ensures)
    (refusal_leaves fault mid c.answer_other.new.station c.in_err-answer_other.ensures.fault) c.keep.ensures.file (search rules) (search rules))

pub returns-clause-takes : goal.returns-clause-takes
returns-clause-takes g c is =
    let turn =
    others_answered c.args.station.now c.hear_other.new.station c.answer_other.new.station c.in-Ok.came.0 c.in-Ok.came.1
    (g.L.Line.talk c.args.line.now, g.L.Line.transmissions c.args.line.now) (g.L.Line.talk c.hear_other.new.line, g.L.Line.transmissions c.hear_other.new.line)
    (g.L.Line.talk c.answer_other.new.line, g.L.Line.transmissions c.answer_other.new.line) c.in-Ok.ensures.heard c.hear_other.ensures.none c.in_ok-answer_other.ensures.answers in
    (c.in-Ok.came.0, c.in-Ok.came.1, turn.0, turn.1, c.receiver_took-2.ensures.saw, turn.2)

pub returns-in-Err-clause-fault : goal.returns-in-Err-clause-fault
returns-in-Err-clause-fault g c = search rules

pub returns-in-Err-Line-Closed-clause-hung_up : goal.returns-in-Err-Line-Closed-clause-hung_up
returns-in-Err-Line-Closed-clause-hung_up g c = search rules

pub returns-in-Err-keep-clause-takes : goal.returns-in-Err-keep-clause-takes
returns-in-Err-keep-clause-takes g c = search rules

pub returns-in-Err-keep-clause-broken : goal.returns-in-Err-keep-clause-broken
returns-in-Err-keep-clause-broken g c =
    let same : c.keep.new.self ≡ c.args.keeper.now = c.in-Err-keep.ensures.unchanged in
    rw same (
      refl,
      λ files k. still_keeps c.args.keeper.now c.args.station.now.receiver.jobs files (g.S.Store.files c.args.store.now) (g.S.Store.files c.keep.new.store) k c.in-Err-keep.ensures.same,
    )
