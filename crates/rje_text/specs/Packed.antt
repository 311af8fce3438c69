-- How records stand in memory: their data one after another, and beside them where each begins (own profile).
use Rattle.std.specs.Prelude.{◌≤◌, ◌+◌, ℕ, List, length, take, drop, map}
use Rattle.rje_text.specs.declared.extent.Extent.{Extent}
use Rattle.rje_text.specs.declared.record.Record.{Record}
use Rattle.rje_text.specs.Records.{record_of_data}

-- the record that stands at an extent
abbrev pub record_of_extent : List ℕ → Extent → Record
record_of_extent bytes e = record_of_data e.action (take e.length (drop e.start bytes))

-- a record stands there: its data end within the bytes, and are no more than a record has
pub record IsWithin (bytes : List ℕ) (e : Extent) : Type 0 where
  pub end : e.start + e.length ≤ length bytes
  pub limit : e.length ≤ 144

-- the records at some extents
abbrev pub records_of_extents : List ℕ → List Extent → List Record
records_of_extents bytes extents = map (record_of_extent bytes) extents

-- an extent, its place counted from one that stands `more` bytes further in front
abbrev pub moved : ℕ → Extent → Extent
moved more e = record { start = more + e.start; length = e.length; action = e.action }
