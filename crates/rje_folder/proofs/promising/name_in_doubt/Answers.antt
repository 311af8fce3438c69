use Rattle.std.proofs.Common.{◌∙◌}
use Rattle.rje_folder.proofs.SecondNames.{out_is_not_hidden_in_doubt}
use Rattle.rje_folder.proofs.promising.name_in_doubt.Goals as goal

pub returns-clause-asks : goal.returns-clause-asks
returns-clause-asks g c = λ told.
    rw (c.as_str-2.ensures.value ∙ c.in_ok-folder.ensures, c.as_str-3.ensures.value ∙ c.in_ok-ready.ensures, c.as_str.ensures.value ∙ c.in_ok-second.ensures) at (c.add_name_of.ensures.asks told)

pub returns-clause-second : goal.returns-clause-second
returns-clause-second g c = λ told.
    (rw (c.as_str-2.ensures.value ∙ c.in_ok-folder.ensures, c.as_str-3.ensures.value ∙ c.in_ok-ready.ensures) at (c.add_name_of.ensures.second told)) (out_is_not_hidden_in_doubt c.args.station.now c.args.name.now)
