use Rattle.std.proofs.Common.{rules}
use Rattle.rje_sockets.proofs.socket_commands.ending.Ending.status.Goals as goal

pub returns-in-Other : goal.returns-in-Other
returns-in-Other c = search rules
