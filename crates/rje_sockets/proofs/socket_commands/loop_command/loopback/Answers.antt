use Rattle.std.proofs.Common.{rules, ◌≡◌}
use Rattle.rje_station.specs.Receiving.{first_receiving}
use Rattle.rje_station.specs.Sending.{first_sending}
use Rattle.rje_sockets.proofs.Looped.{looped}
use Rattle.rje_sockets.proofs.socket_commands.loop_command.loopback.Goals as goal

pub returns-clause-looped : goal.returns-clause-looped
returns-clause-looped g c =
    let first : c.in_ok-sender.sender ≡ first_sending c.in_ok-jobs.jobs = search rules in
    let second : c.in_ok-receiver.receiver ≡ first_receiving = search rules in
    looped _ _ c.loop_over-ending.result c.args.order.jobs.now (g.S.Store.files c.args.store.now) c.in_ok-jobs.jobs (g.O.Write.contents c.args.out.now) (g.O.Write.contents c.loop_over-ending.new.out)
    c.loop_over-ending.new.sender c.loop_over-ending.new.receiver _ _ (search rules) (rw (first, second) at c.loop_over-ending.ensures.took) (search rules) (search rules)

pub returns-in_err-sender-clause-same : goal.returns-in_err-sender-clause-same
returns-in_err-sender-clause-same g c = search rules
