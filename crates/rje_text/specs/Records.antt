-- Records in order (own profile).
use Rattle.std.specs.Prelude.{ℕ, List, [], slice_index_or}
use Rattle.rje_text.specs.declared.action.Action.{Action}
use Rattle.rje_text.specs.declared.action.Action.TheVariants.{Plain}
use Rattle.rje_text.specs.declared.record.Record.{Record}

-- the record of an action and data
abbrev pub record_of_data : Action → List ℕ → Record
record_of_data action items = record { action = action; bytes = record { items = items } }

-- the record at a place, counted from 0; an empty one where there is none
abbrev pub record_at : List Record → ℕ → Record
record_at records place = slice_index_or records place (record_of_data Plain [])
