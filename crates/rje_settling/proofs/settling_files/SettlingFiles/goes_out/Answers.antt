use Rattle.rje_settling.proofs.settling_files.SettlingFiles.goes_out.Goals as goal

pub returns-clause-promised : goal.returns-clause-promised
returns-clause-promised g c = λ told _. rw c.in_ok-put_out.ensures.accounts (c.in_ok-promise_or_tell.ensures.promised told)

pub returns-clause-out : goal.returns-clause-out
returns-clause-out g c = λ told _. rw c.in_ok-promise_or_tell.ensures.spool at (c.in_ok-put_out.ensures.out told)
