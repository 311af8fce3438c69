use Rattle.std.proofs.Common.{◌∙◌, Option, rules, subst, sym}
use Rattle.std.specs.List.{All}
use Rattle.rje_folder.specs.declared.ready_file.ReadyFile.{ReadyFile}
use Rattle.rje_spool.specs.declared.refused_file.RefusedFile.{RefusedFile}
use Rattle.rje_spool.specs.Holding.{CanBeHeld}
use Rattle.rje_spool.specs.Outgoing.{IsRefusal}
use Rattle.rje_spool.proofs.TooMuch.{too_much}
use Rattle.rje_spool.proofs.outgoing.outgoing_of.Goals as goal

pub returns-else-can_all_be_held-clause-refused : goal.returns-else-can_all_be_held-clause-refused
returns-else-can_all_be_held-clause-refused c =
    let o = c.in_ok-outgoing-in-Some.outgoing in
    let none : All CanBeHeld o.jobs → ⊥ = search rules in
    subst (λ (k : Option ReadyFile). IsRefusal k c.args.bytes.now RefusedFile.TooMuch) (sym (sym c.of_name.ensures ∙ c.in-Some.is)) (too_much c.in-Some.kind c.args.bytes.now (o, c.in_ok-outgoing-in-Some.ensures.jobs, none))
