use Rattle.std.proofs.Common.{sym}
use Rattle.rje_answers.proofs.Spelled.{written_heard}
use Rattle.rje_answers.proofs.spelling.spell.Goals as goal

pub returns-in-Answer : goal.returns-in-Answer
returns-in-Answer c = rw (c.in-Answer.is, sym c.frame_of.ensures) (written_heard _ _ c.put_frame.ensures)

pub returns-in-Bid : goal.returns-in-Bid
returns-in-Bid c = rw c.in-Bid.is (written_heard _ _ c.put_frame-in-Bid.ensures)

pub returns-in-End : goal.returns-in-End
returns-in-End c = rw c.in-End.is (written_heard _ _ c.put_frame-in-End.ensures)
