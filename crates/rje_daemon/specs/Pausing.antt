-- How long a station's reads wait (own profile).
use Rattle.std.specs.Prelude.{◌≡◌, ◌⊎◌, ◌≤◌, ◌*◌, ℕ, List, [], ◌∷◌, Option, Some, None, max, min}
use Rattle.std.specs.Duration.{as_nanos, max_nanos}
use Rattle.std.specs.declared.time.Duration.{Duration}
use Rattle.rje_daemon.specs.declared.paced_stream.Wait.{Wait}

-- these bytes are EOT, as it stands on the line or as a line adapter takes it
abbrev pub IsEnd : List ℕ → Type 0
IsEnd bytes = (bytes ≡ 0x37 ∷ []) ⊎ (bytes ≡ 0x32 ∷ 0x32 ∷ 0x37 ∷ 0xFF ∷ [])

-- how the next read waits where one that waited so brought nothing: after a pause, and once it has the line, it hardly waits, and then for as long as
-- a station waits that has no transmission in hand
abbrev pub after_nothing : Wait → Wait
after_nothing Wait.Hearing = Wait.Hearing
after_nothing Wait.Pause = Wait.Turn
after_nothing Wait.Turn = Wait.Idle
after_nothing Wait.Idle = Wait.Idle

-- A read that waits so has an end, and waits no longer than this, in nanoseconds: with no transmission in hand three seconds; after its own EOT twice
-- as long as the slowest answer took, and 20 milliseconds where that is less; and where the other end may speak at once a millisecond.
abbrev pub IsShort : Wait → (slowest : ℕ) → Option Duration → Type 0
IsShort Wait.Hearing slowest time = Unit {0}
IsShort Wait.Idle slowest (Some time) = as_nanos time ≤ 3_000_000_000
IsShort Wait.Pause slowest (Some time) = as_nanos time ≤ max (min (slowest * 2) max_nanos) 20_000_000
IsShort Wait.Turn slowest (Some time) = as_nanos time ≤ 1_000_000
IsShort _ slowest None = ⊥
