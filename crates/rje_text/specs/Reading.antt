-- What a block's text stands for (3780 text; own profile for selection, actions and the limits).
use Rattle.std.specs.Prelude.{◌≡◌, ℕ, zero, suc, ◌-◌, ◌/◌, ◌%◌, Bool, true, false, ◌&&◌, ◌||◌, List, [], ◌∷◌, ◌++◌, length, take, drop, replicate, Option, Some, None, option_map, option_and_then, ◌==◌, nat_lt, nat_le, if◌then◌else◌}
use Rattle.std.specs.Option.{option_map_or}
use Rattle.bsc_codes.specs.Bytes.{BLANK, IGS, IRS, ESC, DC1, DC2, DC3}
use Rattle.bsc_codes.specs.declared.block.Block.{Block}
use Rattle.rje_text.specs.declared.mode.Mode.{Mode}
use Rattle.rje_text.specs.declared.mode.Mode.TheVariants.{Normal, Transparent}
use Rattle.rje_text.specs.declared.select.Select.{Select}
use Rattle.rje_text.specs.declared.select.Select.TheVariants.{Unset, Printer, Punch}
use Rattle.rje_text.specs.declared.action.Action.{Action}
use Rattle.rje_text.specs.declared.action.Action.TheVariants.{Plain}
use Rattle.rje_text.specs.declared.record.Record.{Record}
use Rattle.rje_text.specs.declared.unpacked.Unpacked.{Unpacked}
use Rattle.rje_text.specs.declared.counted.Counted.{Counted}
use Rattle.rje_text.specs.Action.{action_of}

-- a byte that may follow an IGS: 40 and a number of blanks from 1 to 63
abbrev pub is_count : ℕ → Bool
is_count c = nat_lt BLANK c && nat_lt c 0x80

-- the data that bytes stand for, each IGS and count for its blanks; None where an IGS has no count
abbrev pub expanded : List ℕ → Option (List ℕ)
expanded [] = Some []
expanded (x ∷ []) = if x == IGS then None else Some (x ∷ [])
expanded (x ∷ c ∷ xs) =
    if x == IGS
    then (if is_count c then option_map (λ ys. replicate (c - BLANK) BLANK ++ ys) (expanded xs) else None)
    else option_map (λ ys. x ∷ ys) (expanded (c ∷ xs))

-- a record of this action and this data, which is at most 144 bytes
abbrev pub record_with : Action → List ℕ → Option Record
record_with a bytes = if nat_le (length bytes) 144 then Some (record { action = a; bytes = record { items = bytes } }) else None

-- the action that an ESC and a known code at the front give
abbrev pub action_in : List ℕ → Option Action
action_in [] = None
action_in (x ∷ []) = None
action_in (x ∷ code ∷ xs) = if x == ESC then action_of code else None

-- the record whose text this is, without the IRS; an ESC without a known code is data
unfoldable pub record_of : List ℕ → Option Record
record_of text =
    option_map_or (λ a. option_and_then (record_with a) (expanded (drop 2 text))) (action_in text)
    (option_and_then (record_with Plain) (expanded text))

abbrev pub onto_first : ℕ → List (List ℕ) → List (List ℕ)
onto_first x [] = (x ∷ []) ∷ []
onto_first x (t ∷ ts) = (x ∷ t) ∷ ts

-- the text cut at every IRS; what stands after the last one counts where it isn't empty
abbrev pub record_texts : List ℕ → List (List ℕ)
record_texts [] = []
record_texts (x ∷ xs) = if x == IRS then [] ∷ record_texts xs else onto_first x (record_texts xs)

-- each text's record, if each has one
abbrev pub all_records : List (List ℕ) → Option (List Record)
all_records [] = Some []
all_records (t ∷ ts) = option_and_then (λ r. option_map (λ rs. r ∷ rs) (all_records ts)) (record_of t)

-- the records of a normal text after its selection
unfoldable pub records_in : List ℕ → Option (List Record)
records_in text = all_records (record_texts text)

-- the selection that the first byte of a job's first text makes, if it makes one
abbrev pub selection_in : Option Mode → List ℕ → Option Select
selection_in (Some mode) text = None
selection_in None [] = None
selection_in None (x ∷ xs) = if x == DC1 then Some Printer else if (x == DC2 || x == DC3) then Some Punch else None

-- a normal text after the selection that was made
abbrev pub selected : Option Select → List ℕ → Option Unpacked
selected None text = option_map (λ rs. record { select = Unset; mode = Normal; records = rs }) (records_in text)
selected (Some s) text = option_map (λ rs. record { select = s; mode = Normal; records = rs }) (records_in (drop 1 text))

-- what a normal text stands for
unfoldable pub normal_reading : Option Mode → List ℕ → Option Unpacked
normal_reading so_far text = selected (selection_in so_far text) text

-- a text of zero to six cards of 80 bytes
abbrev pub is_cards : List ℕ → Bool
is_cards text = (length text % 80 == 0) && nat_le (length text) 480

-- the first n cards of a text
abbrev pub cards : ℕ → List ℕ → List Record
cards zero text = []
cards (suc n) text = record { action = Plain; bytes = record { items = take 80 text } } ∷ cards n (drop 80 text)

-- what a transparent text stands for
unfoldable pub card_reading : List ℕ → Option Unpacked
card_reading text =
    if is_cards text then Some (record { select = Punch; mode = Transparent; records = cards (length text / 80) text }) else None

abbrev pub reading_in : Bool → Option Mode → List ℕ → Option Unpacked
reading_in true so_far text = card_reading text
reading_in false so_far text = normal_reading so_far text

-- what a block's text stands for, in a job whose earlier blocks have this mode; None: it is the job's first block
abbrev pub reading : Block → Option Mode → Option Unpacked
reading block so_far = reading_in block.transparent so_far block.text.items

abbrev pub mode_of : Bool → Mode
mode_of true = Transparent
mode_of false = Normal

-- a mode is that of the job's earlier blocks; a job's first block may have either
abbrev pub Agrees : Mode → Option Mode → Type 0
Agrees mode None = Unit {0}
Agrees mode (Some earlier) = mode ≡ earlier

-- the block has the mode of its job's earlier blocks
abbrev pub HasMode : Block → Option Mode → Type 0
HasMode block so_far = Agrees (mode_of block.transparent) so_far

-- the block stands for this, in its job's mode
abbrev pub IsRead : Block → Option Mode → Unpacked → Type 0
IsRead block so_far u = (reading block so_far ≡ Some u) × HasMode block so_far

-- what is read, with the number of its records in their place
abbrev pub counted_of : Unpacked → Counted
counted_of u = record { select = u.select; mode = u.mode; count = length u.records }

-- something is read, and this is it with its records counted
abbrev pub IsCountOf : Option Unpacked → Counted → Type 0
IsCountOf reading counted = (u : Unpacked) × (reading ≡ Some u) × (counted ≡ counted_of u)

-- the block stands for something in its job's mode, and this is it with its records counted
abbrev pub IsCounted : Block → Option Mode → Counted → Type 0
IsCounted block so_far counted = IsCountOf (reading block so_far) counted × HasMode block so_far
