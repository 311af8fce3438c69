-- What stations note of the turns: their traces are the last of these events. Own profile.
use Rattle.std.specs.Prelude.{Bool, List, [], ◌∷◌, ◌++◌, Option, Some, None}
use Rattle.bsc_link.specs.declared.reply.Reply.{Reply}
use Rattle.bsc_link.specs.declared.say.Say.{Say}
use Rattle.bsc_link.specs.declared.sound.Sound.{Sound}
use Rattle.rje_station.specs.declared.event.Event.{Event}
use Rattle.rje_station.specs.declared.event.Event.TheVariants as event
use Rattle.rje_station.specs.Receiving.{received_events}
use Rattle.rje_station.specs.Sending.{counted_events}
use Rattle.bsc_history.specs.declared.spoken_turn.SpokenTurn.{SpokenTurn}
use Rattle.bsc_history.specs.History.{History}
use Rattle.bsc_history.specs.Known.{is_counting}
use Rattle.bsc_history.specs.Got.{brings_block}

-- after its EOT a sending station hears nothing, and after all else it notes what it heard, and whether that counted the outstanding block
abbrev pub answer_events : Say → Sound → Bool → List Event
answer_events Say.End heard counts = []
answer_events _ heard counts = event.Heard heard ∷ counted_events counts

-- what a sending station notes of a turn after these ..
abbrev pub said_events : History → SpokenTurn → List Event
said_events past t = event.Said t.said ∷ answer_events t.said t.heard (is_counting past t)

-- .. and of all turns, the oldest first
abbrev pub sender_events : History → List Event
sender_events [] = []
sender_events (t ∷ past) = sender_events past ++ said_events past t

-- a reply that was made
abbrev pub replied_events : Option Reply → List Event
replied_events None = []
replied_events (Some reply) = event.Replied reply ∷ []

-- a receiving station notes what arrived, whether it was accepted or refused, and what it replied: of a turn ..
abbrev pub heard_events : SpokenTurn → List Event
heard_events t = event.Heard t.arrived ∷ (received_events (brings_block t) t.refused ++ replied_events t.reply)

-- .. and of all turns, the oldest first
abbrev pub receiver_events : History → List Event
receiver_events [] = []
receiver_events (t ∷ past) = receiver_events past ++ heard_events t
