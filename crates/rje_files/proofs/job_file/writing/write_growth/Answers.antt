use Rattle.std.proofs.Common.{[]}
use Rattle.rje_files.proofs.OneMore.{growth_written, front_long}
use Rattle.rje_files.proofs.job_file.writing.write_growth.Goals as goal

pub returns-clause-grows : goal.returns-clause-grows
returns-clause-grows c =
    growth_written c.write_received.result c.args.count _ c.args.front.now.items _ c.args.tail.now.items _ c.requires.room c.requires.new_front c.requires.new_tail
    (c.in_ok-write_front.ensures []) c.write_received.ensures.entry c.write_received.ensures.fit

pub returns-clause-front : goal.returns-clause-front
returns-clause-front c = front_long c.write_received.result c.args.count c.args.front.now.items _ c.requires.new_front (c.in_ok-write_front.ensures [])
