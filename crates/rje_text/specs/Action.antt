-- The codes of the carriage control actions (own profile).
use Rattle.std.specs.Prelude.{ℕ, Bool, false, List, [], ◌∷◌, Option, Some, None, find, ◌==◌}
use Rattle.std.specs.Option.{option_map_or}
use Rattle.rje_text.specs.declared.action.Action.{Action}
use Rattle.rje_text.specs.declared.action.Action.TheVariants.{Plain, Single, Double, Triple, Suppress, Ch1, Ch2, Ch3, Ch4, Ch5, Ch6, Ch7, Ch8, Ch9, Ch10, Ch11, Ch12}

-- the code of an action; Plain has none
abbrev pub code_of : Action → Option ℕ
code_of Plain = None
code_of Single = Some 0x61
code_of Double = Some 0xE2
code_of Triple = Some 0xE3
code_of Suppress = Some 0xD4
code_of Ch1 = Some 0xC1
code_of Ch2 = Some 0xC2
code_of Ch3 = Some 0xC3
code_of Ch4 = Some 0xC4
code_of Ch5 = Some 0xC5
code_of Ch6 = Some 0xC6
code_of Ch7 = Some 0xC7
code_of Ch8 = Some 0xC8
code_of Ch9 = Some 0xC9
code_of Ch10 = Some 0xD1
code_of Ch11 = Some 0xD2
code_of Ch12 = Some 0xD3

-- the actions that have a code
abbrev pub coded_actions : List Action
coded_actions = Single ∷ Double ∷ Triple ∷ Suppress ∷ Ch1 ∷ Ch2 ∷ Ch3 ∷ Ch4 ∷ Ch5 ∷ Ch6 ∷ Ch7 ∷ Ch8 ∷ Ch9 ∷ Ch10 ∷ Ch11 ∷ Ch12 ∷ []

-- this is the action's code
abbrev pub has_code : ℕ → Action → Bool
has_code code a = option_map_or (λ c. c == code) (code_of a) false

-- the action of a code
unfoldable pub action_of : ℕ → Option Action
action_of code = find (has_code code) coded_actions
