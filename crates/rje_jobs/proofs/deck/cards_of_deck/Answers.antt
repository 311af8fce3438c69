use Rattle.std.proofs.lemmas.Result.{err_from_is_err_and}
use Rattle.rje_jobs.proofs.Faults.{told}
use Rattle.rje_jobs.proofs.deck.cards_of_deck.Goals as goal

pub returns-in_err-count-clause-told : goal.returns-in_err-count-clause-told
returns-in_err-count-clause-told c =
    let p = err_from_is_err_and c.from_residual.result c.from_residual.ensures.1 in
    rw (p.1, p.2) (told c.args.deck.now c.in_err-count.field-0.0 c.in_err-count.ensures.told)
