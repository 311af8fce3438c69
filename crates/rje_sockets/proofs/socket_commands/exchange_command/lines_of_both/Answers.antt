use Rattle.rje_sockets.proofs.Exchanged.{three_lines}
use Rattle.rje_sockets.proofs.socket_commands.exchange_command.lines_of_both.Goals as goal

pub returns : goal.returns
returns c = three_lines _ _ _ _ _ _ c.counted_text.ensures c.outcome_text.ensures c.handed_text.ensures
