use Rattle.std.proofs.Common.{map}
use Rattle.rje_program.proofs.Leaving.{leaves}
use Rattle.rje_program.proofs.over_files.command.Goals as goal

pub returns-in-Ok-clause-files : goal.returns-in-Ok-clause-files
returns-in-Ok-clause-files g c =
    leaves (map (λ word. word.now) c.args.words.now) c.in-Ok-Files.order _ _ _ (rw c.in-Ok-Files.field-0-is at c.in-Ok-Files.ensures.asked) c.in-Ok.ensures.files

pub returns-in-Err-carry_out-clause-files : goal.returns-in-Err-carry_out-clause-files
returns-in-Err-carry_out-clause-files g c =
    leaves (map (λ word. word.now) c.args.words.now) c.in-Ok-Files.order _ _ _ (rw c.in-Ok-Files.field-0-is at c.in-Ok-Files.ensures.asked)
    c.in-Err-carry_out.ensures.files
