use Rattle.rje_station.specs.Receiving.{sound_taken}
use Rattle.line_world.proofs.Calm.{stays_calm, ended_owes}
use Rattle.line_world.proofs.unfailing.hear_up.Goals as goal

pub returns-clause-owes : goal.returns-clause-owes
returns-clause-owes c =
    let heard = c.in-Ok.ensures.heard in
    rw heard.state (ended_owes c.args.receiver.now.core (sound_taken heard.what heard.refused) c.args.wish)

pub returns-clause-calm : goal.returns-clause-calm
returns-clause-calm c = stays_calm c.args.line.now c.hear.new.line c.hear.ensures.ages c.requires.calm
