use Rattle.rje_cli.proofs.address.address_of.Goals as goal

pub returns-in-Err : goal.returns-in-Err
returns-in-Err c = λ address h. c.in-Err.ensures.value address h.0
