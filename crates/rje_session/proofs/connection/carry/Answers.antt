use Rattle.std.proofs.Common.{◌≡◌, rules}
use Rattle.rje_day.specs.declared.day_event.DayEvent.{DayEvent}
use Rattle.rje_session.proofs.DayOn.{day_then}
use Rattle.rje_session.proofs.LedgerInStep.{begins_once, settled_else, still_begun}
use Rattle.rje_session.proofs.connection.carry.Goals.{then-eq+in_ok-go_on-2, else-eq}
use Rattle.rje_session.proofs.connection.carry.Goals as goal

pub returns-in_err-go_on-2-clause-day : goal.returns-in_err-go_on-2-clause-day
returns-in_err-go_on-2-clause-day g c = day_then c.args.day.now c.go_on.new.day c.go_on-then-eq.new.day c.go_on.ensures.day c.go_on-then-eq.ensures.day

pub returns-clause-day : goal.returns-clause-day
returns-clause-day g c = elim c.if-eq.branch [
  | then-eq+in_ok-go_on-2 w ↦ rw w.day-is (day_then c.args.day.now c.go_on.new.day w.go_on-then-eq.new.day c.go_on.ensures.day w.go_on-then-eq.ensures.day)
  | else-eq w ↦ rw w.day-is c.go_on.ensures.day
]

pub returns-clause-settled : goal.returns-clause-settled
returns-clause-settled g c shows in_step =
    let first = c.in_ok-go_on.field-0 in
    let near = c.go_on.new.held in
    let accounted = c.in_ok-go_on.ensures.accounted shows in_step in
    elim c.if-eq.branch [
      | then-eq+in_ok-go_on-2 w ↦
          let is : first ≡ DayEvent.OtherBegan = search rules in
          let later = w.go_on-then-eq.new.held in
          rw (w.held-is, w.spool-is) (settled_else w.in_ok-go_on-2.field-0 later (g.S.Spool.ledger w.go_on-then-eq.new.spool)
          (begins_once first w.in_ok-go_on-2.field-0 c.args.held.now near later is c.in_ok-go_on.ensures.comes w.in_ok-go_on-2.ensures.comes)
          (w.in_ok-go_on-2.ensures.accounted shows (still_begun first near (g.S.Spool.ledger c.go_on.new.spool) is accounted)))
      | else-eq w ↦
          let not : first ≡ DayEvent.OtherBegan → ⊥ = search rules in rw (w.held-is, w.spool-is) (settled_else first near (g.S.Spool.ledger c.go_on.new.spool) not accounted)
    ]
