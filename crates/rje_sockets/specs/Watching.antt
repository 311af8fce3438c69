-- What a watch sees of a turn: it is a relation of two values of the watch, and of what was said and heard (own profile).
use Rattle.std.specs.Prelude.{Option, ⊤}
use Rattle.bsc_link.specs.declared.reply.Reply.{Reply}
use Rattle.bsc_link.specs.declared.say.Say.{Say}
use Rattle.bsc_link.specs.declared.sound.Sound.{Sound}
use Rattle.rje_station.specs.declared.arrival.Arrival.{Arrival}
use Rattle.line_world.specs.declared.spoken.Spoken.{Spoken}

-- of a sending station's turn
abbrev pub SawSender : Type 0 → Type 1
SawSender W = W → W → Say → Sound → Type 0

-- of a receiving station's turn
abbrev pub SawReceiver : Type 0 → Type 1
SawReceiver W = W → W → Arrival → Option Reply → Type 0

-- of a turn of both
abbrev pub SawBoth : Type 0 → Type 1
SawBoth W = W → W → Spoken → Type 0

-- of the end of them
abbrev pub SawEnd : Type 0 → Type 1
SawEnd W = W → W → Type 0

-- where nobody watches
abbrev pub NobodySawSender : SawSender ⊤
NobodySawSender w w' said heard = ⊤

abbrev pub NobodySawReceiver : SawReceiver ⊤
NobodySawReceiver w w' arrival reply = ⊤
