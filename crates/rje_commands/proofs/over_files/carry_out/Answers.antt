use Rattle.std.proofs.Common.{rules, subst, sym}
use Rattle.rje_requests.specs.declared.order.FileOrder.{FileOrder}
use Rattle.rje_commands.specs.Commands.{Leaves}
use Rattle.rje_commands.proofs.over_files.carry_out.Goals as goal

pub returns-in-Cards-clause-files : goal.returns-in-Cards-clause-files
returns-in-Cards-clause-files g c =
    subst (λ (o : FileOrder). Leaves o (g.S.Store.files c.args.store.now) (g.S.Store.files c.cards.new.store) (g.I.Read.remaining c.args.input.now))
    (sym c.in-Cards.is) c.cards.ensures.files

pub returns-in-Show-clause-done : goal.returns-in-Show-clause-done
returns-in-Show-clause-done g c = search rules
