use Rattle.rje_sockets.proofs.Failing.{destination_refuses, destination_status}
use Rattle.rje_sockets.proofs.socket_commands.receive_command.receive_over.Goals as goal

pub returns-in-Err-clause-status : goal.returns-in-Err-clause-status
returns-in-Err-clause-status g c =
    destination_status c.args.into (g.S.Store.files c.args.store.now) c.in-Err.fault c.tell.result c.in-Err.ensures.fault c.tell.ensures.status

pub returns-in-Err-clause-refused : goal.returns-in-Err-clause-refused
returns-in-Err-clause-refused g c =
    destination_refuses c.args.into (g.S.Store.files c.args.store.now) c.in-Err.fault c.tell.result c.in-Err.ensures.fault c.tell.ensures.status
