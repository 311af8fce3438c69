-- One turn of a receiver: what it takes, keeps and replies, and what is left where it breaks off.
-- The cases of what came, one by one: Answering says what the station took, Keeping what that leaves in the file.
use Rattle.std.proofs.Common.{rules, ◌≡◌, inl, inr, ap, ◌∙◌, Err}
use Rattle.rje_station.specs.declared.station_fault.StationFault.{StationFault}
use Rattle.rje_station.specs.Line.{one_more}
use Rattle.rje_station.specs.Receiving.{Receiving, after_abandon, after_refusal, with_reply}
use Rattle.rje_session.proofs.Passed.{last_passed, reply_passed}
use Rattle.rje_sockets.specs.declared.transfer_error.TransferError.{TransferError}
use Rattle.rje_sockets.proofs.Answering.{line_failed, refusal_jobs}
use Rattle.rje_sockets.proofs.Failing.{line_fails}
use Rattle.rje_sockets.proofs.Growing.{goes_still}
use Rattle.rje_sockets.proofs.Keeping.{goes_nowhere, turn_kept}
use Rattle.rje_sockets.proofs.NamedFiles.{station_names}
use Rattle.rje_sockets.proofs.OverLine.{over_owes}
use Rattle.rje_sockets.proofs.Watched.{last_turn, reply_turn}
use Rattle.rje_sockets.proofs.one_way.hear_keep_and_speak.Goals as goal

pub returns-in-Ok-clause-turn : goal.returns-in-Ok-clause-turn
returns-in-Ok-clause-turn g c =
    let heard = c.in_ok-reply.ensures.heard in
    reply_turn g.W.Observer.saw_receiver c.args.station.now c.hear.new.self c.speak.new.self (g.L.Line.talk c.args.line.now, g.L.Line.transmissions c.args.line.now) (g.L.Line.talk c.speak.new.line, g.L.Line.transmissions c.speak.new.line) c.args.watch.now c.receiver_took-in-Ok.new.self heard.what heard.refused c.in-Some.arrival c.in_ok-reply.reply
    heard.may heard.state c.in-Ok.ensures.state (search rules) heard.reply_is
    (reply_passed heard.what c.in_ok-reply.reply _ _ _ (g.L.Line.talk c.hear.new.line) heard.told heard.reply_is c.in-Ok.ensures.sent
    (c.in-Ok.ensures.once ∙ ap (with_reply _) c.in_ok-reply.ensures.none)) c.receiver_took-in-Ok.ensures.saw

pub returns-in-Err-Over-clause-turn : goal.returns-in-Err-Over-clause-turn
returns-in-Err-Over-clause-turn g c =
    let heard = c.in_ok-reply.ensures.heard in
    last_turn g.W.Observer.saw_receiver c.args.station.now c.hear.new.self c.speak.new.self (g.L.Line.talk c.args.line.now, g.L.Line.transmissions c.args.line.now) (g.L.Line.talk c.speak.new.line, g.L.Line.transmissions c.speak.new.line) c.args.watch.now c.receiver_took-in-Err-Over.new.self heard.what heard.refused c.in-Some.arrival c.in_ok-reply.reply
    heard.may heard.state (search rules) (search rules) heard.reply_is
    (last_passed heard.what c.in_ok-reply.reply _ _ (g.L.Line.talk c.hear.new.line) heard.told
    (heard.reply_is ∙ over_owes c.args.station.now c.hear.new.self heard.what heard.refused heard.state (search rules)) (search rules) (search rules)) c.receiver_took-in-Err-Over.ensures.saw

pub returns-in-Ok-clause-kept : goal.returns-in-Ok-clause-kept
returns-in-Ok-clause-kept g c =
    let heard = c.in_ok-reply.ensures.heard in
    turn_kept c.args.station.now c.hear.new.self c.speak.new.self heard.what heard.refused c.args.keeper.now c.keep.new.self c.jobs.result.now
    (g.S.Store.files c.args.store.now) (g.S.Store.files c.keep.new.store) heard.state c.jobs.ensures (search rules) c.keep.ensures.file (search rules) (search rules)

pub returns-in-Err-Over-clause-kept : goal.returns-in-Err-Over-clause-kept
returns-in-Err-Over-clause-kept g c =
    let heard = c.in_ok-reply.ensures.heard in
    turn_kept c.args.station.now c.hear.new.self c.speak.new.self heard.what heard.refused c.args.keeper.now c.keep.new.self c.jobs.result.now
    (g.S.Store.files c.args.store.now) (g.S.Store.files c.keep.new.store) heard.state c.jobs.ensures (search rules) c.keep.ensures.file (search rules) (search rules)

pub returns-in_err-reply-clause-broken : goal.returns-in_err-reply-clause-broken
returns-in_err-reply-clause-broken g c =
    let fault = c.in_err-reply.field-0.0 in
    let is : c.from_residual.result ≡ Err (TransferError.Line fault) = search rules in
    rw is (inl (c.in_err-reply.ensures.kept, c.in_err-reply.ensures.none, goes_nowhere c.args.keeper.now c.args.station.now.jobs (g.S.Store.files c.args.store.now)))

pub returns-in-Err-clause-broken : goal.returns-in-Err-clause-broken
returns-in-Err-clause-broken g c =
    let heard = c.in_ok-reply.ensures.heard in (
      heard.what,
      heard.refused,
      heard.may,
      c.abandon.ensures ∙ ap after_abandon heard.state,
      c.in_ok-reply.ensures.none,
      goes_still c.args.keeper.now c.keep.new.self c.args.station.now.jobs (g.S.Store.files c.args.store.now) (g.S.Store.files c.keep.new.store) c.in-Err.ensures.unchanged c.in-Err.ensures.same,
    )

pub returns-in-Err-speak : goal.returns-in-Err-speak
returns-in-Err-speak g c =
    let heard = c.in_ok-reply.ensures.heard in
    let fault : StationFault = c.in-Err-speak.fault in
    let jobs = ap (λ (s : Receiving). s.jobs) c.in-Err-speak.ensures.kept ∙ refusal_jobs fault c.hear.new.self in
    record {
      turn = tt;
      over = tt;
      kept = tt;
      status = line_fails fault _ _ _ c.in-Err-speak.ensures.cause;
      names = station_names fault _ _;
      broken = inr (
        heard.what,
        heard.refused,
        heard.may,
        c.in-Err-speak.ensures.kept ∙ ap (after_refusal fault) heard.state,
        line_failed fault _ _ (g.L.Line.transmissions c.hear.new.line) (g.L.Line.transmissions c.speak.new.line) (search rules) c.in-Err-speak.ensures.cause c.in-Err-speak.ensures.tried ∙ ap one_more c.in_ok-reply.ensures.none,
        turn_kept c.args.station.now c.hear.new.self c.speak.new.self heard.what heard.refused c.args.keeper.now c.keep.new.self c.jobs.result.now
            (g.S.Store.files c.args.store.now) (g.S.Store.files c.keep.new.store) heard.state c.jobs.ensures jobs c.keep.ensures.file (search rules) (search rules),
      );
    }
