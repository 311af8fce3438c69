-- Whether a caller speaks (own profile).
use Rattle.std.specs.Prelude.{◌≡◌, ℕ, Bool, true, false, List}
use Rattle.bsc_frame.specs.declared.heard.Heard.{Heard}
use Rattle.bsc_frame.specs.Heard.{IsHeard}

-- what is heard is a word: a frame, or a text, whole or not; noise, pads and SYN say nothing
abbrev pub is_word : Heard → Bool
is_word (Heard.Frame f) = true
is_word Heard.Bad = true
is_word Heard.Noise = false
is_word Heard.Quiet = false

-- what is heard of these bytes is a word
abbrev pub HasWord : List ℕ → Type 0
HasWord bytes = (heard : Heard) × IsHeard bytes heard × (is_word heard ≡ true)
