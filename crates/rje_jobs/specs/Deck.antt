-- What a deck stands for (own profile).
use Rattle.std.specs.Prelude.{◌≡◌, ℕ, ◌+◌, ◌-◌, true, false, List, [], ◌∷◌, ◌++◌, length, map, replicate, Option, Some, None, option_map, is_none, unwrap_or, position, nat_lt, if◌then◌else◌}
use Rattle.std.specs.List.{filter_map, AllByRecursion}
use Rattle.std.specs.Option.{option_or}
use Rattle.std.specs.Str.Lines.{lines}
use Rattle.bsc_codes.specs.Bytes.{BLANK}
use Rattle.bsc_codes.specs.CodePage.{ebcdic_of}
use Rattle.rje_text.specs.declared.mode.Mode.{Mode}
use Rattle.rje_text.specs.declared.mode.Mode.TheVariants.{Normal, Transparent}
use Rattle.rje_text.specs.declared.select.Select.{Select}
use Rattle.rje_text.specs.declared.select.Select.TheVariants.{Punch}
use Rattle.rje_text.specs.declared.action.Action.TheVariants.{Plain}
use Rattle.rje_text.specs.declared.record.Record.{Record}
use Rattle.rje_jobs.specs.declared.job.Job.{Job}
use Rattle.rje_jobs.specs.declared.deck_fault.DeckFault.{DeckFault}
use Rattle.rje_jobs.specs.declared.deck_fault.DeckFault.TheVariants.{OutOfMemory, LongLine, BadCharacter}

-- why the line of this number makes no card: it is longer than a card, or a character has no EBCDIC code
abbrev pub line_fault : ℕ → List ℕ → Option DeckFault
line_fault number line =
    if nat_lt 80 (length line) then Some (LongLine number)
    else option_map (λ i. BadCharacter number (i + 1)) (position (λ c. is_none (ebcdic_of c)) line)

-- each character of a line has an EBCDIC code
abbrev pub AreCoded : List ℕ → Type 0
AreCoded line = AllByRecursion (λ c. is_none (ebcdic_of c) ≡ false) line

-- the code of a character, and 00 for one that has none
abbrev pub code_or_zero : ℕ → ℕ
code_or_zero c = unwrap_or (ebcdic_of c) 0

-- the fault of the first line that has one, where the lines are numbered from here on
abbrev pub first_fault : ℕ → List (List ℕ) → Option DeckFault
first_fault number [] = None
first_fault number (line ∷ rest) = option_or (line_fault number line) (first_fault (number + 1) rest)

-- the first fault of a deck
abbrev pub deck_fault : List ℕ → Option DeckFault
deck_fault deck = first_fault 1 (lines deck)

-- a card's bytes in this mode: filled with blanks to 80 where the job is transparent
abbrev pub filled : Mode → List ℕ → List ℕ
filled Normal bytes = bytes
filled Transparent bytes = bytes ++ replicate (80 - length bytes) BLANK

-- the card of a line: the EBCDIC codes of its characters
abbrev pub card_of : Mode → List ℕ → Record
card_of mode line = record { action = Plain; bytes = record { items = filled mode (filter_map ebcdic_of line) } }

-- the device of a deck's job: the one that was asked for, and the punch for a transparent job
abbrev pub deck_select : Select → Mode → Select
deck_select select Normal = select
deck_select select Transparent = Punch

-- the cards of a deck: one for each line
abbrev pub cards_of : Mode → List ℕ → List Record
cards_of mode deck = map (card_of mode) (lines deck)

-- the job of these cards, for the device that was asked for
abbrev pub job_of_cards : Select → Mode → List Record → Job
job_of_cards select mode cards = record { select = deck_select select mode; mode = mode; records = cards; whole = true }

-- the job of a deck: its cards
abbrev pub job_of : Select → Mode → List ℕ → Job
job_of select mode deck = job_of_cards select mode (cards_of mode deck)

-- these are the cards of this deck, in some mode
abbrev pub AreCardsOf : List ℕ → List Record → Type 0
AreCardsOf deck cards = (mode : Mode) × (cards ≡ cards_of mode deck)

-- the fault of a deck that makes no job: its first fault, and memory only where it has none
abbrev pub IsDeckFault : List ℕ → DeckFault → Type 0
IsDeckFault deck OutOfMemory = deck_fault deck ≡ None
IsDeckFault deck (LongLine number) = deck_fault deck ≡ Some (LongLine number)
IsDeckFault deck (BadCharacter number column) = deck_fault deck ≡ Some (BadCharacter number column)

-- no line of this part of a deck has a fault; the invariant of `Cards`, the iterator over a deck's cards, cites it
abbrev pub AreSound : List ℕ → Type 0
AreSound rest = (number : ℕ) × (first_fault number (lines rest) ≡ None)
