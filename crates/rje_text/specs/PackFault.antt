-- Why a record can't be sent in a job (own profile).
use Rattle.std.specs.Prelude.{◌≡◌, ℕ, ◌≤◌, Bool, true, false, ◌||◌, List, length, Option, Some, None, position, option_map, nat_lt, nat_le, ◌==◌, if◌then◌else◌}
use Rattle.std.specs.Option.{option_or}
use Rattle.std.specs.List.{AllByRecursion}
use Rattle.rje_text.specs.declared.mode.Mode.{Mode}
use Rattle.rje_text.specs.declared.mode.Mode.TheVariants.{Normal, Transparent}
use Rattle.rje_text.specs.declared.select.Select.{Select}
use Rattle.rje_text.specs.declared.select.Select.TheVariants.{Punch}
use Rattle.rje_text.specs.declared.action.Action.{Action}
use Rattle.rje_text.specs.declared.action.Action.TheVariants.{Plain}
use Rattle.rje_text.specs.declared.record.Record.{Record}
use Rattle.rje_text.specs.declared.pack_fault.PackFault.{PackFault}
use Rattle.rje_text.specs.declared.pack_fault.PackFault.TheVariants.{BadByte, CardLength, ActionHere}

-- a byte that a normal text can't carry for data: one outside 40 to FE
abbrev pub is_no_data_byte : ℕ → Bool
is_no_data_byte b = nat_lt b 0x40 || nat_lt 0xFE b

-- the first byte that a normal text can't carry
abbrev pub bad_byte : Mode → List ℕ → Option PackFault
bad_byte Normal bytes = option_map BadByte (position is_no_data_byte bytes)
bad_byte Transparent bytes = None

-- a transparent job's cards have 80 bytes, a punch job's at most 80
abbrev pub fits_card : Select → Mode → ℕ → Bool
fits_card select Transparent n = n == 80
fits_card Punch Normal n = nat_le n 80
fits_card select Normal n = true

abbrev pub card_length : Select → Mode → ℕ → Option PackFault
card_length select mode n = if fits_card select mode n then None else Some (CardLength n)

-- a job of cards: it is transparent, or for the punch
abbrev pub is_of_cards : Select → Mode → Bool
is_of_cards select Transparent = true
is_of_cards Punch Normal = true
is_of_cards select Normal = false

-- cards have no carriage control
abbrev pub action_here : Bool → Action → Option PackFault
action_here true Plain = None
action_here true action = Some ActionHere
action_here false action = None

-- why a record can't be sent in a job of this selection and mode, if it can't: the first of the three causes that holds
unfoldable pub pack_fault : Select → Mode → Record → Option PackFault
pack_fault select mode r =
    option_or (bad_byte mode r.bytes.items)
    (option_or (card_length select mode (length r.bytes.items)) (action_here (is_of_cards select mode) r.action))

-- a job of these records can be sent
pub record RecordsFit (select : Select) (mode : Mode) (records : List Record) : Type 0 where
  pub room : AllByRecursion (λ r. length r.bytes.items ≤ 144) records
  pub sent : AllByRecursion (λ r. pack_fault select mode r ≡ None) records
  pub punched : mode ≡ Transparent → select ≡ Punch
