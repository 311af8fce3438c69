-- What the line does to what is said: it brings it, loses it or damages it. Own profile: no damage passes for a block or an EOT, and a
-- damaged control sequence other than TTD isn't heard as one.
use Rattle.std.specs.Prelude.{◌≡◌, Bool, true, false, if◌then◌else◌, Option, Some, None}
use Rattle.bsc_link.specs.declared.sound.Sound.{Sound}
use Rattle.bsc_link.specs.declared.say.Say.{Say}
use Rattle.bsc_link.specs.declared.reply.Reply.{Reply}
use Rattle.bsc_history.specs.declared.sound_fate.SoundFate.{SoundFate}

-- what the sender says, as a sound: a bid and an inquiry are ENQ
abbrev pub sound_of : Say → Sound
sound_of Say.Bid = Sound.Enq
sound_of Say.Ask = Sound.Enq
sound_of Say.Block = Sound.Block
sound_of Say.Again = Sound.Block
sound_of Say.Delay = Sound.Ttd
sound_of Say.End = Sound.Eot
sound_of Say.Nothing = Sound.Quiet

-- what the receiver replies, as a sound
abbrev pub sound_of_reply : Option Reply → Sound
sound_of_reply None = Sound.Quiet
sound_of_reply (Some Reply.Ack0) = Sound.Ack0
sound_of_reply (Some Reply.Ack1) = Sound.Ack1
sound_of_reply (Some Reply.Nak) = Sound.Nak
sound_of_reply (Some Reply.Wack) = Sound.Wack
sound_of_reply (Some Reply.Rvi) = Sound.Rvi

-- anything but a block and an EOT
abbrev pub is_no_block_or_eot : Sound → Bool
is_no_block_or_eot Sound.Block = false
is_no_block_or_eot Sound.Eot = false
is_no_block_or_eot _ = true

-- noise, or nothing
abbrev pub is_noise_or_quiet : Sound → Bool
is_noise_or_quiet Sound.Noise = true
is_noise_or_quiet Sound.Quiet = true
is_noise_or_quiet _ = false

-- the damage of what was said may be heard so: of a block or a TTD anything but a block and an EOT, of all else noise or nothing
abbrev pub is_damage_of : Sound → Sound → Bool
is_damage_of Sound.Block heard = is_no_block_or_eot heard
is_damage_of Sound.Ttd heard = is_no_block_or_eot heard
is_damage_of _ heard = is_noise_or_quiet heard

-- what is heard of what was said, after its fate; None where the fate breaks the rule of damage. Where nothing was said, nothing is
-- heard and the fate isn't looked at
abbrev pub after_fate : SoundFate → Sound → Option Sound
after_fate fate Sound.Quiet = Some Sound.Quiet
after_fate SoundFate.Arrives said = Some said
after_fate SoundFate.Lost said = Some Sound.Quiet
after_fate (SoundFate.Damaged heard) said = if is_damage_of said heard then Some heard else None

-- some fate makes that of what was said
abbrev pub MayBeHeardAs : Sound → Sound → Type 0
MayBeHeardAs said heard = (fate : SoundFate) × (after_fate fate said ≡ Some heard)
