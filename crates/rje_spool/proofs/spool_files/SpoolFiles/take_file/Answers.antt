use Rattle.rje_spool.proofs.Backed.{goes_on_twice}
use Rattle.rje_spool.proofs.spool_files.SpoolFiles.take_file.Goals as goal

pub returns-in_err-take_over-in-Err-NoSecondName-PermissionDenied-clause-on : goal.returns-in_err-take_over-in-Err-NoSecondName-PermissionDenied-clause-on
returns-in_err-take_over-in-Err-NoSecondName-PermissionDenied-clause-on g c = λ told.
    let (calls, is, each) = c.read.ensures.asks told in
    goes_on_twice _ _ _ (calls, is) (c.take_over.ensures.on told)

pub returns-in-Err-NoSecondName-PermissionDenied-clause-on : goal.returns-in-Err-NoSecondName-PermissionDenied-clause-on
returns-in-Err-NoSecondName-PermissionDenied-clause-on g c = λ told.
    let (calls, is, each) = c.read.ensures.asks told in
    goes_on_twice _ _ _ (calls, is) (c.take_over.ensures.on told)

pub returns-in_err-leave-in-Err-clause-on : goal.returns-in_err-leave-in-Err-clause-on
returns-in_err-leave-in-Err-clause-on g c = λ told.
    let (calls, is, each) = c.read.ensures.asks told in
    goes_on_twice _ _ _ (calls, is) (c.leave.ensures.on told)

pub returns-in-Err-clause-on : goal.returns-in-Err-clause-on
returns-in-Err-clause-on g c = λ told.
    let (calls, is, each) = c.read.ensures.asks told in
    goes_on_twice _ _ _ (calls, is) (c.leave.ensures.on told)

pub returns-in_err-refuse-in-Err-2-clause-on : goal.returns-in_err-refuse-in-Err-2-clause-on
returns-in_err-refuse-in-Err-2-clause-on g c = λ told.
    let (calls, is, each) = c.read.ensures.asks told in
    goes_on_twice _ _ _ (calls, is) (c.refuse.ensures.on told)

pub returns-in_ok-refuse-in-Err-2-clause-on : goal.returns-in_ok-refuse-in-Err-2-clause-on
returns-in_ok-refuse-in-Err-2-clause-on g c = λ told.
    let (calls, is, each) = c.read.ensures.asks told in
    goes_on_twice _ _ _ (calls, is) (c.refuse.ensures.on told)
