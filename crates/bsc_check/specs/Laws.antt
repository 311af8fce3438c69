-- What holds of long division.
use Rattle.std.specs.Prelude.{◌≡◌, ◌≤◌, Bool, List, length}
use Rattle.bsc_check.specs.Polynomials.{remainder, IsRemainder}

-- division leaves the remainder, and there is no other
abbrev pub OneRemainder : Type 0
OneRemainder = (p : List Bool) → 16 ≤ length p → IsRemainder p (remainder p) × ((r : List Bool) → IsRemainder p r → r ≡ remainder p)
