-- Turn after turn the ledger stays in step with the station, also where a line or a spool fails.
-- An invariant: what the ledger has grown by is what the turns so far enter (LedgerInStep); each way out adds its last turn.
use Rattle.std.proofs.Common.{◌≡◌, ◌∙◌, ap, arith, rules, slice_get, sym}
use Rattle.rje_station.specs.Station.{Contending}
use Rattle.rje_session.specs.Account.{UnlessSpoolFailed, IsInStep}
use Rattle.rje_session.specs.Turns.{Carried}
use Rattle.rje_session.proofs.LedgerInStep.{ended_stays, fails_on, few_quiet, others_in_step, others_leave, others_leave_jobs, others_stay, own_in_step, own_leaves, own_leaves_jobs, own_steps, still_in_step}
use Rattle.rje_session.proofs.in_hand.InHand.take_turns.Goals as goal

pub loop-preserved-then-is_own_turn : goal.loop-preserved-then-is_own_turn
loop-preserved-then-is_own_turn g c =
    let takes = c.in_ok-take_own_turn.ensures.takes in
    let steps = own_steps c.loop.self.station c.take_own_turn.new.self.station takes.0 c.in_ok-take_own_turn.field-0 takes.1 in record {
      step = λ shows in_step. own_in_step c.loop.self c.take_own_turn.new.self (g.S.Spool.ledger c.show.new.spool) (g.S.Spool.ledger c.take_own_turn.new.spool) steps
          (c.in_ok-take_own_turn.ensures.entered shows) c.in_ok-take_own_turn.ensures.may_have_come (rw (c.show.ensures shows) (c.loop.invariant.step shows in_step));
      jobs = steps.0 ∙ c.loop.invariant.jobs;
      few = omega (arith, c.loop.invariant.few);
    }

pub loop-preserved : goal.loop-preserved
loop-preserved g c =
    let takes = c.in_ok-arrival.ensures.takes in
    let stays = others_stay c.loop.self.station c.take_others_turn.new.self.station c.in_ok-arrival.arrival takes.0 takes.1 in record {
      step = λ shows in_step. others_in_step c.loop.self c.take_others_turn.new.self (slice_get c.take_others_turn.new.self.station.receiver.jobs c.loop.self.kept) (g.S.Spool.ledger c.show.new.spool)
          (g.S.Spool.ledger c.take_others_turn.new.spool) stays (ap (λ (x : Carried). x.may_have_come) c.take_others_turn.ensures.rest) (c.in_ok-arrival.ensures.entered shows) (rw (c.show.ensures shows) (c.loop.invariant.step shows in_step));
      jobs = stays.0 ∙ c.loop.invariant.jobs;
      few = few_quiet c.quiet_after-quiet.result c.loop.quiet c.loop.counter _ c.quiet_after-quiet.ensures c.loop.invariant.few;
    }

pub returns-then-quiet-terms-clause-jobs : goal.returns-then-quiet-terms-clause-jobs
returns-then-quiet-terms-clause-jobs g c =
    let takes = c.in_ok-arrival.ensures.takes in
    let stays = others_stay c.loop.self.station c.take_others_turn.new.self.station c.in_ok-arrival.arrival takes.0 takes.1 in
    let at : c.take_others_turn.new.self.station ≡ c.self-in-loop.inside.station = search rules in
    (ended_stays c.self-in-loop.inside.station c.other_ended.new.self c.other_ended.ensures).0 ∙ ap (λ (x : Contending). x.sender.jobs) (sym at) ∙ stays.0 ∙ c.loop.invariant.jobs

pub returns-in_err-arrival-clause-left_jobs : goal.returns-in_err-arrival-clause-left_jobs
returns-in_err-arrival-clause-left_jobs g c =
    let left = others_leave_jobs (g.L.Line.transmissions c.take_others_turn.new.line ≡ g.L.Line.transmissions c.loop.line) c.loop.self c.take_others_turn.new.self c.args.self.now.station.sender.jobs
    c.take_others_turn.result c.loop.invariant.jobs c.take_others_turn.ensures.left in
    fails_on c.take_others_turn.result c.in_err-arrival.field-0.0 c.from_residual-in_err-arrival.result
    (λ leaving. UnlessSpoolFailed leaving (c.take_others_turn.new.self.station.sender.jobs ≡ c.args.self.now.station.sender.jobs)) c.in_err-arrival.was left c.from_residual-in_err-arrival.ensures.1

pub returns-in_err-take_own_turn-clause-left_jobs : goal.returns-in_err-take_own_turn-clause-left_jobs
returns-in_err-take_own_turn-clause-left_jobs g c =
    let left = own_leaves_jobs (c.take_own_turn.new.line ≡ c.loop.line) c.loop.self c.take_own_turn.new.self c.args.self.now.station.sender.jobs
    c.take_own_turn.result c.loop.invariant.jobs c.take_own_turn.ensures.left in
    fails_on c.take_own_turn.result c.in_err-take_own_turn.field-0.0 c.from_residual.result
    (λ leaving. UnlessSpoolFailed leaving (c.take_own_turn.new.self.station.sender.jobs ≡ c.args.self.now.station.sender.jobs)) c.in_err-take_own_turn.was left c.from_residual.ensures.1

pub returns-then-quiet-terms-clause-in_step : goal.returns-then-quiet-terms-clause-in_step
returns-then-quiet-terms-clause-in_step g c shows in_step =
    let takes = c.in_ok-arrival.ensures.takes in
    let on = others_in_step c.loop.self c.take_others_turn.new.self (slice_get c.take_others_turn.new.self.station.receiver.jobs c.loop.self.kept) (g.S.Spool.ledger c.show.new.spool)
    (g.S.Spool.ledger c.take_others_turn.new.spool) (others_stay c.loop.self.station c.take_others_turn.new.self.station c.in_ok-arrival.arrival takes.0 takes.1) (ap (λ (x : Carried). x.may_have_come) c.take_others_turn.ensures.rest)
    (c.in_ok-arrival.ensures.entered shows) (rw (c.show.ensures shows) (c.loop.invariant.step shows in_step)) in
    let at : c.take_others_turn.new.self.station ≡ c.self-in-loop.inside.station = search rules in
    let left : Carried = record { station = c.other_ended.new.self; may_have_come = c.self-in-loop.inside.may_have_come; kept = c.self-in-loop.inside.kept; answered = c.self-in-loop.inside.answered; broken = c.self-in-loop.inside.broken } in
    still_in_step c.take_others_turn.new.self left (g.S.Spool.ledger c.take_others_turn.new.spool)
    (rw at (ended_stays c.self-in-loop.inside.station c.other_ended.new.self c.other_ended.ensures)) (search rules) on

pub returns-in_err-arrival-clause-left : goal.returns-in_err-arrival-clause-left
returns-in_err-arrival-clause-left g c shows in_step =
    let left =
    others_leave (g.L.Line.transmissions c.take_others_turn.new.line ≡ g.L.Line.transmissions c.loop.line) c.loop.self c.take_others_turn.new.self
    (slice_get c.take_others_turn.new.self.station.receiver.jobs c.loop.self.kept) (g.S.Spool.ledger c.show.new.spool) (g.S.Spool.ledger c.take_others_turn.new.spool) c.take_others_turn.result
    c.take_others_turn.ensures.left (ap (λ (x : Carried). x.may_have_come) c.take_others_turn.ensures.rest) (c.take_others_turn.ensures.left_entered shows) (rw (c.show.ensures shows) (c.loop.invariant.step shows in_step)) in
    fails_on c.take_others_turn.result c.in_err-arrival.field-0.0 c.from_residual-in_err-arrival.result
    (λ leaving. UnlessSpoolFailed leaving (IsInStep c.take_others_turn.new.self (g.S.Spool.ledger c.take_others_turn.new.spool))) c.in_err-arrival.was left c.from_residual-in_err-arrival.ensures.1

pub returns-in_err-take_own_turn-clause-left : goal.returns-in_err-take_own_turn-clause-left
returns-in_err-take_own_turn-clause-left g c shows in_step =
    let left =
    own_leaves (c.take_own_turn.new.line ≡ c.loop.line) c.loop.self c.take_own_turn.new.self (g.S.Spool.ledger c.show.new.spool) (g.S.Spool.ledger c.take_own_turn.new.spool) c.take_own_turn.result
    c.take_own_turn.ensures.left (c.take_own_turn.ensures.left_entered shows) (rw (c.show.ensures shows) (c.loop.invariant.step shows in_step)) in
    fails_on c.take_own_turn.result c.in_err-take_own_turn.field-0.0 c.from_residual.result
    (λ leaving. UnlessSpoolFailed leaving (IsInStep c.take_own_turn.new.self (g.S.Spool.ledger c.take_own_turn.new.spool))) c.in_err-take_own_turn.was left c.from_residual.ensures.1
