use Rattle.std.proofs.Common.{rules}
use Rattle.rje_sockets.proofs.Failing.{exchange_refuses, exchange_status}
use Rattle.rje_sockets.proofs.socket_commands.exchange_command.exchange_over.Goals as goal

pub returns-in-Err-clause-status : goal.returns-in-Err-clause-status
returns-in-Err-clause-status g c =
    exchange_status c.args.send.now c.args.received (g.S.Store.files c.args.store.now) c.in-Err.fault c.tell.result c.in-Err.ensures.fault c.tell.ensures.status

pub returns-in-Err-clause-refused : goal.returns-in-Err-clause-refused
returns-in-Err-clause-refused g c =
    exchange_refuses c.args.send.now c.args.received (g.S.Store.files c.args.store.now) c.in-Err.fault c.tell.result c.in-Err.ensures.fault c.tell.ensures.status

pub returns-in-Err-clause-files : goal.returns-in-Err-clause-files
returns-in-Err-clause-files g c = search rules
