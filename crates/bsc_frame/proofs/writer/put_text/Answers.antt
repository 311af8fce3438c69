use Rattle.std.proofs.Common.{ap, sym, ◌∙◌, ◌++◌}
use Rattle.bsc_frame.proofs.WrittenRuns.{as_it_is}
use Rattle.bsc_frame.proofs.writer.put_text.Goals as goal

pub returns-else-transparent-clause-items : goal.returns-else-transparent-clause-items
returns-else-transparent-clause-items c = rw c.if-transparent.false (c.append.ensures.items ∙ ap (λ xs. c.args.out.now.items ++ xs) (sym (as_it_is c.args.text.now)))
