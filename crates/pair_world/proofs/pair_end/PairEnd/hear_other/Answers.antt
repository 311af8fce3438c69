use Rattle.std.proofs.Common.{rules, ap, ◌∙◌}
use Rattle.line_world.proofs.ForPairs.{stays_calm}
use Rattle.pair_world.proofs.PairCalm.{other_owes, other_live, hearing_live}
use Rattle.pair_world.proofs.pair_end.PairEnd.hear_other.Goals as goal

pub returns-clause-live : goal.returns-clause-live
returns-clause-live c =
    let heard = c.in-Ok.ensures.heard in
    ap (λ x. x.failed) heard.state ∙ other_live c.args.self.now.station heard.what heard.refused c.args.wish ∙ hearing_live c.args.self.now.station c.requires.hears

pub returns-clause-owes : goal.returns-clause-owes
returns-clause-owes c =
    let heard = c.in-Ok.ensures.heard in
    rw heard.state (other_owes c.args.self.now.station heard.what heard.refused c.args.wish)

pub invariant_of-self : goal.invariant_of-self
invariant_of-self c = record { calm = stays_calm c.args.self.now.line c.hear_other.new.line c.hear_other.ensures.ages (search rules) }
