use Rattle.std.proofs.Common.{rules, IfErr}
use Rattle.std.proofs.lemmas.Result.{IfErr-weaker}
use Rattle.rje_requests.specs.declared.order.SocketOrder.{SocketOrder}
use Rattle.rje_sockets.specs.SocketCommand.{IsSocketFault}
use Rattle.rje_sockets.proofs.Failing.{exchange_refused}
use Rattle.rje_sockets.proofs.over_sockets.carry_out.Goals as goal

pub returns-in-Send-clause-done : goal.returns-in-Send-clause-done
returns-in-Send-clause-done g c = search rules

pub returns-in-Exchange-clause-fault : goal.returns-in-Exchange-clause-fault
returns-in-Exchange-clause-fault g c =
    let files = g.S.Store.files c.args.store.now in
    let refused : IfErr c.exchange.result (IsSocketFault (SocketOrder.Exchange c.in-Exchange.order) files) =
    IfErr-weaker c.exchange.result _ _ (exchange_refused c.in-Exchange.order files) c.exchange.ensures.fault in
    search rules
