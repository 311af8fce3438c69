-- What a tracer writes of a transmission (own profile).
use Rattle.std.specs.Prelude.{ℕ, List, Option, IfSome}
use Rattle.std.specs.Io.KnownBytes.{Appends}
use Rattle.std.specs.declared.time.Instant.{Instant}
use Rattle.rje_print.specs.declared.block_place.BlockPlace.{BlockPlace}

-- a tracer that isn't quiet, since it has the instant of its start, wrote this line of some time, in nanoseconds
abbrev pub TracesLine : Option Instant → Option (List ℕ) → Option (List ℕ) → (ℕ → List ℕ) → Type 0
TracesLine start old new line = IfSome start (λ _. (nanos : ℕ) × Appends old new (line nanos))

-- it wrote this line of some time, and of some block or of none
abbrev pub TracesTurn : Option Instant → Option (List ℕ) → Option (List ℕ) → (ℕ → Option BlockPlace → List ℕ) → Type 0
TracesTurn start old new line = IfSome start (λ _. (nanos : ℕ) × (place : Option BlockPlace) × Appends old new (line nanos place))
