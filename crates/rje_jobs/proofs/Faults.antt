-- The fault of a deck is never out of memory.
use Rattle.std.proofs.Common.{◌≡◌, ℕ, ◌+◌, Bool, true, false, cond, ltb, List, [], ◌∷◌, length, Option, Some, None}
use Rattle.std.specs.List.{position}
use Rattle.std.specs.Option.{option_map, option_or, is_none}
use Rattle.std.specs.Str.Lines.{lines}
use Rattle.bsc_codes.specs.CodePage.{ebcdic_of}
use Rattle.rje_jobs.specs.declared.deck_fault.DeckFault.{DeckFault}
use Rattle.rje_jobs.specs.declared.deck_fault.DeckFault.TheVariants.{OutOfMemory, LongLine, BadCharacter}
use Rattle.rje_jobs.specs.Deck.{line_fault, first_fault, deck_fault, IsDeckFault}

not_memory : (long : Bool) (number : ℕ) (bad : Option ℕ)
    → cond long (Some (LongLine number)) (option_map (λ i. BadCharacter number (i + 1)) bad) ≡ Some OutOfMemory → ⊥
not_memory true number bad e = cc
not_memory false number None e = cc
not_memory false number (Some i) e = cc

line_is_not_memory : (number : ℕ) (line : List ℕ) → line_fault number line ≡ Some OutOfMemory → ⊥
line_is_not_memory number line e = not_memory (ltb 80 (length line)) number (position (λ c. is_none (ebcdic_of c)) line) e

either : (first rest : Option DeckFault) → (first ≡ Some OutOfMemory → ⊥) → (rest ≡ Some OutOfMemory → ⊥) → option_or first rest ≡ Some OutOfMemory → ⊥
either None rest f g e = g e
either (Some fault) rest f g e = f e

lines_are_not_memory : (number : ℕ) (deck : List (List ℕ)) → first_fault number deck ≡ Some OutOfMemory → ⊥
lines_are_not_memory number [] e = cc
lines_are_not_memory number (line ∷ rest) e =
    either (line_fault number line) (first_fault (number + 1) rest) (line_is_not_memory number line) (lines_are_not_memory (number + 1) rest) e

-- a deck's fault is reported
pub told : (deck : List ℕ) (fault : DeckFault) → deck_fault deck ≡ Some fault → IsDeckFault deck fault
told deck OutOfMemory e = absurd (lines_are_not_memory 1 (lines deck) e)
told deck (LongLine number) e = e
told deck (BadCharacter number column) e = e
