-- What the receiving stations of two that both have jobs note of the turns. Own profile.
use Rattle.std.specs.Prelude.{List, [], ◌∷◌, ◌++◌, Option, Some, None}
use Rattle.bsc_link.specs.declared.say.Say.{Say}
use Rattle.bsc_link.specs.declared.sound.Sound.{Sound}
use Rattle.rje_station.specs.declared.event.Event.{Event}
use Rattle.rje_station.specs.declared.event.Event.TheVariants as event
use Rattle.bsc_history.specs.declared.spoken_turn.SpokenTurn.{SpokenTurn}
use Rattle.bsc_history.specs.Pair.{PairHistory}
use Rattle.line_world.specs.Traces.{heard_events}

-- where the other said EOT and it doesn't arrive, the receiving station is told of the end
abbrev pub ended_events : Say → Sound → List Event
ended_events Say.End Sound.Eot = []
ended_events Say.End _ = event.Over ∷ []
ended_events _ arrived = []

-- what the receiving station of one of them notes of what the other said and it said itself: where both spoke it hears nothing
abbrev pub listener_events : Option SpokenTurn → Option SpokenTurn → List Event
listener_events None own = []
listener_events (Some t) None = heard_events t ++ ended_events t.said t.arrived
listener_events (Some t) (Some own) = ended_events t.said t.arrived

-- what that of the secondary notes of all turns ..
abbrev pub secondary_events : PairHistory → List Event
secondary_events [] = []
secondary_events (t ∷ past) = secondary_events past ++ listener_events t.primary t.secondary

-- .. and that of the primary
abbrev pub primary_events : PairHistory → List Event
primary_events [] = []
primary_events (t ∷ past) = primary_events past ++ listener_events t.secondary t.primary
