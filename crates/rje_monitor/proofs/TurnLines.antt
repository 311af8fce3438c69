-- Turns: one more line of their text.
use Rattle.std.proofs.Common.{◌≡◌, ◌≢◌, ℕ, ◌+◌, List, [], ◌∷◌, ◌++◌, Option, refl, sym, ap, ◌∙◌, subst, append_assoc, append-nil}
use Rattle.bsc_frame.specs.declared.heard.Heard.{Heard}
use Rattle.rje_text.specs.declared.mode.Mode.{Mode}
use Rattle.rje_monitor.specs.Hearing.{mode_after}
use Rattle.rje_monitor.specs.Turns.{first_line, later_lines, IsHexLine, IsHex, AreLinesOf, AreHexLines, IsTurnLine, AreTurnLines, IsTurnsText}

-- the first of hexadecimal lines is one, and so are the later ones
pub first_is_hex : (lines : List ℕ) → lines ≢ [] → AreHexLines lines → IsHex (first_line lines)
first_is_hex lines some ([], h) = absurd (some h)
first_is_hex lines some (bytes ∷ turns, h) = (bytes, h.1)

pub later_are_hex : (lines : List ℕ) → lines ≢ [] → AreHexLines lines → AreHexLines (later_lines lines)
later_are_hex lines some ([], h) = absurd (some h)
later_are_hex lines some (bytes ∷ turns, h) = (turns, h.2)

-- one more line in front of hexadecimal lines
pub one_more : (lines : List ℕ) → lines ≢ [] → IsHex (first_line lines) → AreHexLines (later_lines lines) → AreHexLines lines
one_more lines some (bytes, line) (turns, h) = (bytes ∷ turns, (some, line, h))

-- where the text so far goes on from here, with the turns of any lines that are left
abbrev pub GoesOn : (all text : List ℕ) (number : ℕ) (so_far : Option Mode) (lines : List ℕ) → Type 0
GoesOn all text number so_far lines =
    (turns : List (List ℕ)) (more : List ℕ) → AreLinesOf turns lines → AreTurnLines number so_far turns more → IsTurnsText all (text ++ more)

module _ (all text new line lines bytes : List ℕ) (number : ℕ) (so_far after : Option Mode) (heard : Heard) where
  -- one more turn
  pub goes_on : GoesOn all text number so_far lines → lines ≢ [] → IsHexLine bytes (first_line lines) → IsTurnLine number so_far heard bytes line
      → new ≡ text ++ line → after ≡ mode_after so_far heard → GoesOn all new (number + 1) after (later_lines lines)
  goes_on on some hex is_line grown left = λ turns more h texts.
      let same : text ++ (line ++ more) ≡ new ++ more = sym (append_assoc text line more) ∙ ap (λ (t : List ℕ). t ++ more) (sym grown) in
      let then : AreTurnLines (number + 1) (mode_after so_far heard) turns more = subst (λ (m : Option Mode). AreTurnLines (number + 1) m turns more) left texts in
      subst (λ (t : List ℕ). IsTurnsText all t) same (on (bytes ∷ turns) (line ++ more) (some, hex, h) (heard, line, more, is_line, refl, then))

-- the text of all turns
pub all_text : (all text lines : List ℕ) (number : ℕ) (so_far : Option Mode) → GoesOn all text number so_far lines → lines ≡ [] → IsTurnsText all text
all_text all text lines number so_far on none = subst (λ (t : List ℕ). IsTurnsText all t) (append-nil text) (on [] [] none refl)
