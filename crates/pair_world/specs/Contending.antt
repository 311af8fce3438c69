-- Where a contender stands after a turn (own_turn, other_turn: private functions alone cite these), and where it stands in its place.
use Rattle.std.specs.Prelude.{Bool, not, ◌&&◌, if◌then◌else◌}
use Rattle.bsc_link.specs.declared.contender_place.ContenderPlace.{ContenderPlace}
use Rattle.bsc_link.specs.declared.say.Say.{Say}
use Rattle.bsc_link.specs.declared.sound.Sound.{Sound}
use Rattle.bsc_link.specs.Contender.{ContenderState, after_other_end}
use Rattle.rje_station.specs.Station.{contender_said, contender_answered, contender_hears, lets_in}
use Rattle.bsc_history.specs.History.{History, is_over}
use Rattle.bsc_history.specs.Known.{has_grant}

-- a contender in a turn of its own station
abbrev pub own_turn : Say → Sound → ContenderState → ContenderState
own_turn Say.End heard c = contender_said Say.End c
own_turn say heard c = contender_answered say heard (contender_said say c)

-- a contender that hears the other station
abbrev pub other_heard : Sound → ContenderState → ContenderState
other_heard arrived c = if lets_in c arrived then contender_hears arrived c else c

-- a contender in a turn of the other station
abbrev pub other_turn : Say → Sound → ContenderState → ContenderState
other_turn Say.End arrived c = after_other_end (other_heard arrived c)
other_turn say arrived c = other_heard arrived c

-- the station sends
abbrev pub is_sending : History → Bool
is_sending own = has_grant own && not (is_over own)

abbrev pub place_of : Bool → Bool → ContenderPlace
place_of receiving sending = if receiving then ContenderPlace.Receiving else (if sending then ContenderPlace.Sending else ContenderPlace.Free)
