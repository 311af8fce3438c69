-- Bytes on their way to an output; no promise rests on it.
use Rattle.std.specs.Prelude.{◌≡◌, ℕ, List, ◌++◌, Option}
use Rattle.std.specs.Io.KnownBytes.{Appends}

-- some bytes more were written, and these and those left are those held and the line
abbrev pub PutsOn : (before after : Option (List ℕ)) → (held left line : List ℕ) → Type 0
PutsOn before after held left line = (more : List ℕ) × Appends before after more × (more ++ left ≡ held ++ line)
