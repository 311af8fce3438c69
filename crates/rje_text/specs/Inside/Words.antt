-- Words of a record's data: a device of the proofs; no promise rests on this file.
use Rattle.std.specs.Prelude.{◌≡◌, ◌≢◌, ℕ, ◌+◌, ◌<◌, List, length, slice_index}
use Rattle.bsc_codes.specs.Bytes.{BLANK}

-- a blank at this place has another byte after it
abbrev pub IsAlone : List ℕ → ℕ → Type 0
IsAlone bytes k = slice_index bytes k ≡ BLANK → (k + 1 < length bytes) × (slice_index bytes (k + 1) ≢ BLANK)

-- each blank among the first n bytes has another byte after it, which is among them too
abbrev pub AreWords : ℕ → List ℕ → Type 0
AreWords n bytes = (k : ℕ) → k < n → slice_index bytes k ≡ BLANK → (k + 1 < n) × (slice_index bytes (k + 1) ≢ BLANK)
