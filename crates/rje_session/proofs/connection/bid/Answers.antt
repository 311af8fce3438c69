use Rattle.std.proofs.Common.{◌≡◌, ap, length, refl, rules, ◌∙◌}
use Rattle.rje_day.specs.declared.next_action.NextAction.{NextAction}
use Rattle.rje_day.specs.declared.day_event.DayEvent.{DayEvent}
use Rattle.rje_session.specs.Account.{IsInStep}
use Rattle.rje_session.specs.Turns.{Carried}
use Rattle.rje_session.proofs.DayOn.{day_then, free_step}
use Rattle.rje_session.proofs.LedgerInStep.{first_in_step, given_settled}
use Rattle.rje_session.proofs.connection.bid.Goals as goal

pub returns-in-Err-clause-day : goal.returns-in-Err-clause-day
returns-in-Err-clause-day g c = free_step c.args.day.now c.note.new.self c.args.seen NextAction.Bid DayEvent.Disconnected c.requires.next c.requires.free refl refl c.note.ensures.exact

pub returns-in_err-carry-in-Ok-new-clause-day : goal.returns-in_err-carry-in-Ok-new-clause-day
returns-in_err-carry-in-Ok-new-clause-day g c =
    day_then c.args.day.now c.note-in-Ok-new.new.self c.carry.new.day
    (free_step c.args.day.now c.note-in-Ok-new.new.self c.args.seen NextAction.Bid DayEvent.OwnBegan c.requires.next c.requires.free refl refl c.note-in-Ok-new.ensures.exact) c.carry.ensures.day

pub returns-in-Ok-new-clause-day : goal.returns-in-Ok-new-clause-day
returns-in-Ok-new-clause-day g c =
    day_then c.args.day.now c.note-in-Ok-new.new.self c.carry.new.day
    (free_step c.args.day.now c.note-in-Ok-new.new.self c.args.seen NextAction.Bid DayEvent.OwnBegan c.requires.next c.requires.free refl refl c.note-in-Ok-new.ensures.exact) c.carry.ensures.day

pub returns-clause-day : goal.returns-clause-day
returns-clause-day g c = free_step c.args.day.now c.note-in-Err-new.new.self c.args.seen NextAction.Bid DayEvent.Disconnected c.requires.next c.requires.free refl refl c.note-in-Err-new.ensures.exact

pub returns-in-Ok-new-clause-settled : goal.returns-in-Ok-new-clause-settled
returns-in-Ok-new-clause-settled g c shows =
    let held = c.in-Ok-new.held in
    let jobs = c.as_slice.result.now in
    let is = c.in-Ok-new.ensures.new in
    let before : IsInStep held (g.S.Spool.ledger c.next.new.self) =
    rw (c.in-Ok.ensures.given shows) (first_in_step held c.in-Ok.jobs.items (g.S.Spool.ledger c.args.spool.now) (ap (λ (x : Carried). x.station.sender.counted) is)
    (ap (λ (x : Carried). x.may_have_come) is)) in
    let long : c.len.result ≡ length jobs = search rules in
    rw c.ended.ensures (given_settled c.carry.new.held jobs (g.S.Spool.ledger c.carry.new.spool) c.len.result
    (c.in_ok-carry-in-Ok-new.ensures.jobs ∙ ap (λ (x : Carried). x.station.sender.jobs) is) long (c.in_ok-carry-in-Ok-new.ensures.settled shows before))
