-- Scripts as they are read.
use Rattle.std.proofs.Common.{◌≡◌, ◌<◌, ℕ, List, [], ◌∷◌, ◌++◌, length, codes, refl, sym, ap, ◌∙◌, subst, arith}
use Rattle.std.specs.Prelude.{decimal}
use Rattle.std.specs.List.{flat_map}
use Rattle.std.proofs.lemmas.List.{append_assoc, append-nil}
use Rattle.line_world.specs.declared.turn.Turn.{Turn}
use Rattle.rje_print.specs.Script.{places_text, cuts_text, IsHexOf, IsDamageWord, IsFirstLine, IsTurnLine, IsScript}

-- each place with a comma after it
abbrev pub with_comma : ℕ → List ℕ
with_comma place = decimal place ++ 0x2C ∷ []

-- the places of some cuts and of one more
pub places_and_one : (places : List ℕ) (last : ℕ) → places_text (places ++ last ∷ []) ≡ flat_map with_comma places ++ decimal last
places_and_one [] last = refl
places_and_one (place ∷ []) last =
    sym (append_assoc (decimal place) (0x2C ∷ []) (decimal last)) ∙ ap (λ (xs : List ℕ). xs ++ decimal last) (sym (append-nil (with_comma place)))
places_and_one (place ∷ next ∷ places) last =
    ap (λ (xs : List ℕ). decimal place ++ 0x2C ∷ xs) (places_and_one (next ∷ places) last)
    ∙ sym (append_assoc (decimal place) (0x2C ∷ []) (flat_map with_comma (next ∷ places) ++ decimal last))
    ∙ sym (append_assoc (with_comma place) (flat_map with_comma (next ∷ places)) (decimal last))

some_cuts : (places : List ℕ) (last : ℕ) → cuts_text (places ++ last ∷ []) ≡ codes "ok:" ++ places_text (places ++ last ∷ [])
some_cuts [] last = refl
some_cuts (place ∷ places) last = refl

-- the word of the cuts that were read
pub cuts_word : (places text rest : List ℕ) (last : ℕ) → text ≡ flat_map with_comma places ++ rest → rest ≡ decimal last
    → codes "ok:" ++ text ≡ cuts_text (places ++ last ∷ [])
cuts_word places text rest last h e =
    ap (λ (xs : List ℕ). codes "ok:" ++ xs) (h ∙ ap (λ (xs : List ℕ). flat_map with_comma places ++ xs) e ∙ sym (places_and_one places last)) ∙ sym (some_cuts places last)

-- the word of damage that was read
pub damage_word : (bytes text : List ℕ) → IsHexOf bytes text → 0 < length text → IsDamageWord bytes (codes "bad:" ++ text)
damage_word [] text h some = absurd (omega (arith, some, ap length h))
damage_word (b ∷ bs) text h some = (text, h, refl)

-- one more turn is read
pub turn_read : (turns more : List Turn) (turn : Turn) (script bytes line rest : List ℕ)
    → ((later : List Turn) → IsScript later bytes → IsScript (turns ++ later) script)
    → IsFirstLine bytes line rest → IsTurnLine turn line → IsScript more rest → IsScript ((turns ++ turn ∷ []) ++ more) script
turn_read turns more turn script bytes line rest goes_on first is_turn h =
    subst (λ (ts : List Turn). IsScript ts script) (sym (append_assoc turns (turn ∷ []) more)) (goes_on (turn ∷ more) (line, rest, first, is_turn, h))

-- all turns are read
pub script_read : (turns : List Turn) (script bytes : List ℕ) → ((later : List Turn) → IsScript later bytes → IsScript (turns ++ later) script)
    → bytes ≡ [] → IsScript turns script
script_read turns script bytes goes_on none = subst (λ (ts : List Turn). IsScript ts script) (append-nil turns) (goes_on [] none)
