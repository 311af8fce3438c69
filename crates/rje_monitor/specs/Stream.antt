-- The text of a stream, in which a frame's end turns the line (own profile).
use Rattle.std.specs.Prelude.{◌≡◌, ℕ, ◌+◌, List, [], ◌∷◌, ◌++◌, length, Option, None, codes, decimal}
use Rattle.bsc_frame.specs.declared.heard.Heard.{Heard}
use Rattle.rje_text.specs.declared.mode.Mode.{Mode}
use Rattle.rje_monitor.specs.Hearing.{IsHeardFirst, AreWords, mode_after, pads_before}

-- a line: its place or number, a blank, and the words
abbrev pub line_of : ℕ → List ℕ → List ℕ
line_of place words = decimal place ++ codes " " ++ words ++ codes "\n"

-- the line for what was heard of these bytes, with the place of the first of them that is no pad
abbrev pub IsPlacedLine : ℕ → Option Mode → Heard → (bytes line : List ℕ) → Type 0
IsPlacedLine place so_far heard bytes line =
    (words : List ℕ) × AreWords so_far heard bytes words × (line ≡ line_of (place + pads_before bytes) words)

-- what is heard as quiet has no line
abbrev pub IsStreamLine : ℕ → Option Mode → Heard → (bytes line : List ℕ) → Type 0
IsStreamLine place so_far Heard.Quiet bytes line = line ≡ []
IsStreamLine place so_far Heard.Bad bytes line = IsPlacedLine place so_far Heard.Bad bytes line
IsStreamLine place so_far Heard.Noise bytes line = IsPlacedLine place so_far Heard.Noise bytes line
IsStreamLine place so_far (Heard.Frame f) bytes line = IsPlacedLine place so_far (Heard.Frame f) bytes line

-- the text of what is left of a stream from this place on, where these things are heard in it one after another
abbrev pub IsTextFrom : ℕ → Option Mode → List Heard → (bytes text : List ℕ) → Type 0
IsTextFrom place so_far [] bytes text = (bytes ≡ []) × (text ≡ [])
IsTextFrom place so_far (heard ∷ more) bytes text =
    (front : List ℕ) × (rest : List ℕ) × (line : List ℕ) × (lines : List ℕ) × IsHeardFirst heard bytes front rest
    × IsStreamLine place so_far heard front line × (text ≡ line ++ lines)
    × IsTextFrom (place + length front) (mode_after so_far heard) more rest lines

-- the text of a stream: first what is heard first of it, and then in the same way what is left
abbrev pub IsStreamText : (capture text : List ℕ) → Type 0
IsStreamText capture text = (all : List Heard) × IsTextFrom 0 None all capture text
