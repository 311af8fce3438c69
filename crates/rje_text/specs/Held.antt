-- What records stand in: one in the value itself, or others in memory (own profile).
use Rattle.std.specs.Prelude.{List, [], ◌∷◌}
use Rattle.rje_text.specs.declared.held.Held.{Held}
use Rattle.rje_text.specs.declared.record.Record.{Record}

-- the records that are held
abbrev pub records_held : Held → List Record
records_held (Held.Short one) = one ∷ []
records_held (Held.Packed records) = records
