use Rattle.rje_cli.specs.CommandLine.{mark_app, monitor_app, print_app, show_app, take_app, try_app}
use Rattle.rje_cli.proofs.words.app.with_file_commands.Goals as goal

pub returns : goal.returns
returns c = λ app is.
    let show = c.in_ok-top.ensures app show_app is c.show.ensures in
    let check = c.in_ok-top-2.ensures _ show in
    let print = c.in_ok-top-3.ensures _ print_app check c.print.ensures in
    let attempt = c.in_ok-top-4.ensures _ try_app print c.attempt.ensures in
    let monitor = c.in_ok-top-5.ensures _ monitor_app attempt c.monitor.ensures in
    let take = c.in_ok-top-6.ensures _ take_app monitor c.take.ensures in
    c.with_command-6.ensures _ mark_app take c.mark.ensures
