use Rattle.std.proofs.Common.{codes}
use Rattle.rje_cli.specs.CommandLine.{file_app}
use Rattle.rje_cli.proofs.words.app.with_jobs.Goals as goal

pub returns : goal.returns
returns c = λ app is. c.with_command.ensures app (file_app c.args.name.now (codes "JOBS")) is c.of_jobs.ensures
