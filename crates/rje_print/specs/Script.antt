-- Scripts of `try`: a schedule of losses and damage, a turn a line (own profile).
use Rattle.std.specs.Prelude.{◌≡◌, ◌≢◌, ◌⊎◌, ℕ, zero, suc, ◌+◌, ◌/◌, ◌%◌, ◌^◌, ◌<◌, Bool, true, false, List, [], ◌∷◌, ◌++◌, slice_index, codes, decimal, ⊤}
use Rattle.std.specs.List.{All}
use Rattle.bsc_link.specs.declared.wish.Wish.{Wish}
use Rattle.line_world.specs.declared.fate.Fate.{Fate}
use Rattle.line_world.specs.declared.turn.Turn.{Turn}
use Rattle.rje_print.specs.declared.script_fault.ScriptFault.{ScriptFault}

-- the character stands for a hexadecimal digit, in upper or lower case
abbrev pub IsHexDigit : ℕ → ℕ → Type 0
IsHexDigit value character = (character ≡ slice_index (codes "0123456789ABCDEF") value) ⊎ (character ≡ slice_index (codes "0123456789abcdef") value)

-- bytes in hexadecimal, two digits each
abbrev pub IsHexOf : List ℕ → List ℕ → Type 0
IsHexOf [] text = text ≡ []
IsHexOf (b ∷ bs) (high ∷ low ∷ text) = IsHexDigit (b / 16) high × IsHexDigit (b % 16) low × IsHexOf bs text
IsHexOf (b ∷ bs) _ = ⊥

-- the first two digits are those of this byte, and this follows them
abbrev pub IsFirstPair : List ℕ → ℕ → List ℕ → Type 0
IsFirstPair text b rest = (high : ℕ) × (low : ℕ) × (text ≡ high ∷ low ∷ rest) × IsHexDigit (b / 16) high × IsHexDigit (b % 16) low

-- the first two digits are those of some byte
abbrev pub HasFirstPair : List ℕ → Type 0
HasFirstPair text = (b : ℕ) × (rest : List ℕ) × (b < 2 ^ 8) × IsFirstPair text b rest

-- numbers in decimal, with commas between
abbrev pub places_text : List ℕ → List ℕ
places_text [] = []
places_text (place ∷ []) = decimal place
places_text (place ∷ next ∷ places) = decimal place ++ 0x2C ∷ places_text (next ∷ places)

-- `ok` where there is no cut, else `ok:` and the places of the cuts
abbrev pub cuts_text : List ℕ → List ℕ
cuts_text [] = codes "ok"
cuts_text (place ∷ places) = codes "ok:" ++ places_text (place ∷ places)

-- damage that gives these bytes: one byte at least
abbrev pub IsDamageWord : List ℕ → List ℕ → Type 0
IsDamageWord [] word = ⊥
IsDamageWord (b ∷ bs) word = (text : List ℕ) × IsHexOf (b ∷ bs) text × (word ≡ codes "bad:" ++ text)

-- the word of a fate
abbrev pub IsFateWord : Fate → List ℕ → Type 0
IsFateWord (Fate.Arrives cuts) word = word ≡ cuts_text cuts.items
IsFateWord Fate.Lost word = word ≡ codes "lost"
IsFateWord (Fate.Damaged bytes) word = IsDamageWord bytes.items word

-- the numbers of a fate fit the machine: places of cuts in 64 bits, bytes in eight
abbrev pub FitsMachine : Fate → Type 0
FitsMachine (Fate.Arrives cuts) = All (λ place. place < 2 ^ 64) cuts.items
FitsMachine Fate.Lost = ⊤
FitsMachine (Fate.Damaged bytes) = All (λ b. b < 2 ^ 8) bytes.items

-- the word of some fate that fits the machine
abbrev pub IsFate : List ℕ → Type 0
IsFate word = (fate : Fate) × IsFateWord fate word × FitsMachine fate

-- the word of a wish
abbrev pub wish_word : Wish → List ℕ
wish_word Wish.Go = codes "go"
wish_word Wish.Hold = codes "hold"
wish_word Wish.Turn = codes "turn"

-- the word that says whether there is a pause
abbrev pub pause_word : Bool → List ℕ
pause_word true = codes "pause"
pause_word false = codes "-"

-- the line of a turn: its four words with one blank between
pub record IsTurnLine (turn : Turn) (line : List ℕ) : Type 0 where
  pub up : List ℕ
  pub down : List ℕ
  pub up_word : IsFateWord turn.up up
  pub down_word : IsFateWord turn.down down
  pub words : line ≡ up ++ codes " " ++ down ++ codes " " ++ wish_word turn.wish ++ codes " " ++ pause_word turn.pause

-- the fates of a turn fit the machine
abbrev pub TurnFits : Turn → Type 0
TurnFits turn = FitsMachine turn.up × FitsMachine turn.down

-- the line of some turn whose fates fit the machine
abbrev pub IsTurn : List ℕ → Type 0
IsTurn line = (turn : Turn) × IsTurnLine turn line × TurnFits turn

-- these bytes have none of this kind
abbrev pub Lacks : ℕ → List ℕ → Type 0
Lacks byte bytes = All (λ b. b ≢ byte) bytes

-- what stands in front of the first byte of this kind, and what stands after it
abbrev pub IsSplit : ℕ → (bytes front behind : List ℕ) → Type 0
IsSplit byte bytes front behind = (bytes ≡ front ++ byte ∷ behind) × Lacks byte front

-- what stands before and after the first LF; where there is none all is in front
abbrev pub IsFirstLine : List ℕ → List ℕ → List ℕ → Type 0
IsFirstLine bytes line rest = (bytes ≡ line ++ 0x0A ∷ rest) ⊎ ((bytes ≡ line) × (rest ≡ []))

-- a script: a line for each turn, ended by LF; the last LF may be left out
abbrev pub IsScript : List Turn → List ℕ → Type 0
IsScript [] bytes = bytes ≡ []
IsScript (turn ∷ turns) bytes = (line : List ℕ) × (rest : List ℕ) × IsFirstLine bytes line rest × IsTurnLine turn line × IsScript turns rest

-- the next line of these bytes, and what is after its LF: it has no LF itself, and the last LF may be left out; no bytes have no line
pub record IsNextLine (bytes line rest : List ℕ) : Type 0 where
  pub some : bytes ≢ []
  pub one : Lacks 0x0A line
  pub parts : IsFirstLine bytes line rest

-- the first n lines are each that of a turn, and the next line is not
abbrev pub IsBadBehind : ℕ → List ℕ → Type 0
IsBadBehind zero bytes = (line : List ℕ) × (rest : List ℕ) × IsNextLine bytes line rest × ¬ (IsTurn line)
IsBadBehind (suc turns) bytes = (line : List ℕ) × (rest : List ℕ) × IsNextLine bytes line rest × IsTurn line × IsBadBehind turns rest

-- the line of this number, from 1, is the first that is no turn's
abbrev pub IsFirstBadLine : List ℕ → ℕ → Type 0
IsFirstBadLine script number = (turns : ℕ) × (number ≡ turns + 1) × IsBadBehind turns script

-- the fault of a script that isn't read: out of memory, or the first line that is no turn's
abbrev pub IsScriptFault : List ℕ → ScriptFault → Type 0
IsScriptFault script ScriptFault.OutOfMemory = ⊤
IsScriptFault script (ScriptFault.NotATurn number) = IsFirstBadLine script number
