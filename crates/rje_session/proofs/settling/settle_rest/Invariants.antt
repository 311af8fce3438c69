use Rattle.rje_session.specs.Account.{SettlesRest}
use Rattle.rje_session.proofs.settling.settle_rest.Given as goal

abbrev pub invariant-loop-job : goal.invariant-loop-job
invariant-loop-job g l = g.S.Spool.discloses → SettlesRest l.ended l.first l.job (g.S.Spool.ledger l.initial.spool) (g.S.Spool.ledger l.spool)
