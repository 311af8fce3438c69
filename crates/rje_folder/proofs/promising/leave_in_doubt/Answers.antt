use Rattle.rje_folder.proofs.promising.leave_in_doubt.Goals as goal

pub returns-clause-asks : goal.returns-clause-asks
returns-clause-asks g c = λ told. c.take_from_out-taken.ensures.asks told
