use Rattle.rje_cli.specs.CommandLine.{loop_app, send_app, receive_app, exchange_app, station_app, status_app}
use Rattle.rje_cli.proofs.words.app.with_line_commands.Goals as goal

pub returns : goal.returns
returns c = λ app is.
    let loopback = c.in_ok-top.ensures app loop_app is c.loopback.ensures in
    let send = c.in_ok-top-2.ensures _ send_app loopback c.send.ensures in
    let receive = c.in_ok-top-3.ensures _ receive_app send c.receive.ensures in
    let exchange = c.in_ok-top-4.ensures _ exchange_app receive c.exchange.ensures in
    let station = c.in_ok-top-5.ensures _ station_app exchange c.station.ensures in
    c.with_command-6.ensures _ status_app station c.status.ensures
