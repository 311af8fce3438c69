-- Streams: one more line of their text.
use Rattle.std.proofs.Common.{◌≡◌, ℕ, ◌+◌, List, [], ◌∷◌, ◌++◌, length, Option, refl, sym, ap, ◌∙◌, subst, append_assoc, append-nil}
use Rattle.bsc_frame.specs.declared.heard.Heard.{Heard}
use Rattle.rje_text.specs.declared.mode.Mode.{Mode}
use Rattle.rje_monitor.specs.Hearing.{IsHeardFirst, mode_after}
use Rattle.rje_monitor.specs.Stream.{IsStreamLine, IsTextFrom, IsStreamText}

-- where the text so far goes on from here, with any lines for what is left
abbrev pub GoesOn : (capture text : List ℕ) (place : ℕ) (so_far : Option Mode) (bytes : List ℕ) → Type 0
GoesOn capture text place so_far bytes =
    (more : List Heard) (lines : List ℕ) → IsTextFrom place so_far more bytes lines → IsStreamText capture (text ++ lines)

module _ (capture text new line bytes front rest : List ℕ) (place used : ℕ) (so_far after : Option Mode) (heard : Heard) where
  -- one more line
  pub goes_on : GoesOn capture text place so_far bytes → IsHeardFirst heard bytes front rest → IsStreamLine place so_far heard front line
      → new ≡ text ++ line → used ≡ length front → after ≡ mode_after so_far heard → GoesOn capture new (place + used) after rest
  goes_on on first is_line grown taken left = λ more lines h.
      let same : text ++ (line ++ lines) ≡ new ++ lines = sym (append_assoc text line lines) ∙ ap (λ (t : List ℕ). t ++ lines) (sym grown) in
      let there : IsTextFrom (place + length front) after more rest lines = subst (λ n. IsTextFrom (place + n) after more rest lines) taken h in
      let then : IsTextFrom (place + length front) (mode_after so_far heard) more rest lines =
      subst (λ (m : Option Mode). IsTextFrom (place + length front) m more rest lines) left there in
      subst (λ (t : List ℕ). IsStreamText capture t) same (on (heard ∷ more) (line ++ lines) (front, rest, line, lines, first, is_line, refl, then))

-- the text of the whole
pub all_text : (capture text bytes : List ℕ) (place : ℕ) (so_far : Option Mode) → GoesOn capture text place so_far bytes → bytes ≡ [] → IsStreamText capture text
all_text capture text bytes place so_far on none = subst (λ (t : List ℕ). IsStreamText capture t) (append-nil text) (on [] [] (none, refl))
