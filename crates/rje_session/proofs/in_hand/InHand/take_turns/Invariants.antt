use Rattle.std.specs.Prelude.{◌≡◌, ◌≤◌}
use Rattle.rje_session.specs.Account.{IsInStep}
use Rattle.rje_session.proofs.in_hand.InHand.take_turns.Given as goal

abbrev pub invariant-loop : goal.invariant-loop
invariant-loop g l = record {
  step : g.S.Spool.discloses → IsInStep l.initial.self (g.S.Spool.ledger l.initial.spool) → IsInStep l.self (g.S.Spool.ledger l.spool);
  jobs : l.self.station.sender.jobs ≡ l.initial.self.station.sender.jobs;
  few : l.quiet ≤ l.counter;
}
