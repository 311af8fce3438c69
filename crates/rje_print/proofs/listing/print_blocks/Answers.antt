use Rattle.std.proofs.Common.{sym, subst, List}
use Rattle.rje_text.specs.declared.mode.Mode.TheVariants.{Normal}
use Rattle.rje_text.specs.declared.select.Select.TheVariants.{Unset}
use Rattle.rje_text.specs.declared.record.Record.{Record}
use Rattle.rje_text.specs.PackFault.{RecordsFit}
use Rattle.rje_print.proofs.listing.print_blocks.Goals as goal

pub list_blocks-requires-clause-fits : goal.list_blocks-requires-clause-fits
list_blocks-requires-clause-fits g c =
    let (good, cards) = c.in_ok-cards.ensures.cards in
    subst (λ (rs : List Record). RecordsFit Unset Normal rs) (sym cards) (c.deck_jobs_fit.ensures c.args.deck.now Unset Normal good)
