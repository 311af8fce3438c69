use Rattle.rje_spool.proofs.spool_files.SpoolFiles.settle.Goals as goal

pub returns-in-Sent-clause-stands : goal.returns-in-Sent-clause-stands
returns-in-Sent-clause-stands g c = λ told. rw c.in-Sent.is (c.count.ensures.sent told)

pub returns-in-InDoubt-clause-stands : goal.returns-in-InDoubt-clause-stands
returns-in-InDoubt-clause-stands g c = λ told. rw c.in-InDoubt.is c.doubt.ensures.doubted

pub returns-in-Ready-clause-stands : goal.returns-in-Ready-clause-stands
returns-in-Ready-clause-stands g c = λ told. rw c.in-Ready.is c.take_back.ensures.ready
