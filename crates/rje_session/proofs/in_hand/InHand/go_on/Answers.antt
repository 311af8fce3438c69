use Rattle.std.proofs.Common.{rules}
use Rattle.rje_session.proofs.LedgerInStep.{begun_cut, keeps_cut}
use Rattle.rje_session.proofs.in_hand.InHand.go_on.Goals.{then-ne+in_ok-finish, else-ne}
use Rattle.rje_session.proofs.in_hand.InHand.go_on.Goals as goal

pub returns-clause-cut : goal.returns-clause-cut
returns-clause-cut g c shows = elim c.if-ne.branch [
  | then-ne+in_ok-finish w ↦ rw w.spool-is (keeps_cut c.match-take_turns.event c.match-take_turns.self (g.S.Spool.ledger w.finish.new.spool) (w.in_ok-finish.ensures.cut shows))
  | else-ne w ↦ rw w.spool-is (begun_cut c.match-take_turns.event c.match-take_turns.self (g.S.Spool.ledger c.take_turns.new.spool) (search rules))
]
