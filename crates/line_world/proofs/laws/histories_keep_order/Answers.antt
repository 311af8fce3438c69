-- Each clause is a law of proofs/Headline.antt.
use Rattle.line_world.proofs.Headline.{histories_in_order, histories_counted_whole, histories_first_jobs}
use Rattle.line_world.proofs.laws.histories_keep_order.Goals as goal

pub returns-clause-in_order : goal.returns-clause-in_order
returns-clause-in_order c = histories_in_order c.cut_reads_back.ensures

pub returns-clause-counted_whole : goal.returns-clause-counted_whole
returns-clause-counted_whole c = histories_counted_whole c.cut_reads_back.ensures

pub returns-clause-first_jobs : goal.returns-clause-first_jobs
returns-clause-first_jobs c = histories_first_jobs c.cut_reads_back.ensures
