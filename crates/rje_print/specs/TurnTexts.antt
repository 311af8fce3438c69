-- What the program reports of a transmission as it happens (own profile).
use Rattle.std.specs.Prelude.{ℕ, ◌+◌, ◌/◌, ◌%◌, List, [], ◌∷◌, ◌++◌, Option, Some, None, codes, decimal}
use Rattle.std.specs.Net.Text.{socket_text}
use Rattle.std.specs.declared.net.socket_addr.SocketAddr.{SocketAddr}
use Rattle.bsc_link.specs.declared.reply.Reply.{Reply}
use Rattle.bsc_link.specs.declared.say.Say.{Say}
use Rattle.bsc_link.specs.declared.sound.Sound.{Sound}
use Rattle.line_world.specs.declared.spoken.Spoken.{Spoken}
use Rattle.rje_station.specs.declared.arrival.Arrival.{Arrival}
use Rattle.rje_print.specs.declared.block_place.BlockPlace.{BlockPlace}
use Rattle.rje_print.specs.ReportTexts.{say_name, sound_name, arrived_name, reply_name}

-- a number below 1000 in three digits
abbrev pub three_digits : ℕ → List ℕ
three_digits n = (48 + n / 100) ∷ (48 + n / 10 % 10) ∷ (48 + n % 10) ∷ []

-- a time of `nanos` nanoseconds, in seconds with three decimals; what is left of a millisecond is dropped
abbrev pub seconds_text : ℕ → List ℕ
seconds_text nanos = decimal (nanos / 1_000_000_000) ++ codes "." ++ three_digits (nanos % 1_000_000_000 / 1_000_000)

-- a word after others
abbrev pub word_text : List ℕ → List ℕ
word_text word = codes " " ++ word

-- which block of which job a turn was about, and how many bytes its text has, where it was about one
abbrev pub place_text : Option BlockPlace → List ℕ
place_text None = []
place_text (Some place) =
    codes " job " ++ decimal place.job ++ codes " block " ++ decimal place.block ++ codes " " ++ decimal place.length ++ codes " bytes"

-- the line that says where calls are awaited; no time has gone by then
abbrev pub listening_line : SocketAddr → List ℕ
listening_line address = seconds_text 0 ++ codes " listening " ++ socket_text address ++ codes "\n"

-- the line that says who is connected, this many nanoseconds after the start
abbrev pub peer_line : ℕ → SocketAddr → List ℕ
peer_line nanos peer = seconds_text nanos ++ codes " connected " ++ socket_text peer ++ codes "\n"

-- the line of a turn of a sending station: what it said, what it heard, and which block that was about
abbrev pub sender_line : ℕ → Say → Sound → Option BlockPlace → List ℕ
sender_line nanos said heard place =
    seconds_text nanos ++ word_text (say_name said) ++ word_text (sound_name heard) ++ place_text place ++ codes "\n"

-- the line of a turn of a receiving station: what arrived, what it replied, and which block that was about
abbrev pub receiver_line : ℕ → Arrival → Option Reply → Option BlockPlace → List ℕ
receiver_line nanos arrival reply place =
    seconds_text nanos ++ word_text (arrived_name arrival.sound arrival.refused) ++ word_text (reply_name reply) ++ place_text place ++ codes "\n"

-- the line of a turn of both: what was said, what arrived, what was replied, what was heard, and which block that was about
abbrev pub both_line : ℕ → Spoken → Option BlockPlace → List ℕ
both_line nanos t place =
    seconds_text nanos ++ word_text (say_name t.said) ++ word_text (arrived_name t.arrived t.refused) ++ word_text (reply_name t.reply)
    ++ word_text (sound_name t.heard) ++ place_text place ++ codes "\n"
