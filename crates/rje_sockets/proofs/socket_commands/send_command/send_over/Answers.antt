use Rattle.std.proofs.Common.{rules, ◌≡◌}
use Rattle.rje_sockets.proofs.Failing.{send_refuses, send_status}
use Rattle.rje_sockets.proofs.socket_commands.send_command.send_over.Goals as goal

pub returns-in-Err-clause-status : goal.returns-in-Err-clause-status
returns-in-Err-clause-status g c =
    send_status (λ name. name ≡ c.args.name.now) c.args.name.now (g.S.Store.files c.args.store.now) c.in-Err.fault c.tell.result c.in-Err.ensures.fault c.tell.ensures.status

pub returns-in-Err-clause-refused : goal.returns-in-Err-clause-refused
returns-in-Err-clause-refused g c =
    send_refuses (λ name. name ≡ c.args.name.now) c.args.name.now (g.S.Store.files c.args.store.now) c.in-Err.fault c.tell.result c.in-Err.ensures.fault c.tell.ensures.status

pub returns-in-Err-clause-marked : goal.returns-in-Err-clause-marked
returns-in-Err-clause-marked g c = search rules

pub returns-in-Err-clause-silent : goal.returns-in-Err-clause-silent
returns-in-Err-clause-silent g c = search rules
