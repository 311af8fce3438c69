use Rattle.rje_sockets.proofs.socket_commands.loop_command.loop_over.Goals as goal

pub returns-clause-took : goal.returns-clause-took
returns-clause-took g c =
    let took = rw c.in_ok-taken.was at c.take_turns-taken.ensures.took in
    record { seen = c.take_turns-taken.new.watch; took = took; end = c.ended.ensures.saw }
