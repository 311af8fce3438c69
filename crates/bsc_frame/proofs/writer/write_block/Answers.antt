use Rattle.std.proofs.Common.{ap, Err}
use Rattle.bsc_frame.proofs.FirstBad.{one_refusal}
use Rattle.bsc_frame.proofs.Sending.{written_block}
use Rattle.bsc_frame.proofs.writer.write_block.Goals as goal

pub returns-in-Some-clause-refused : goal.returns-in-Some-clause-refused
returns-in-Some-clause-refused c = λ fault h.
    ap Err (one_refusal c.args.block.now.transparent c.args.block.now.text.items c.in-Some.place fault c.in-Some.ensures h)

pub returns-in-None-clause-ok : goal.returns-in-None-clause-ok
returns-in-None-clause-ok c = written_block c.args.block.now c.put_block.new.out.items c.in-None.ensures c.put_block.ensures.room c.put_block.ensures.items
