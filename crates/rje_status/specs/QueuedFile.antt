-- A file in a folder of a station (own profile).
use Rattle.std.specs.Prelude.{ℕ, ℤ, pos, negsuc}

-- the whole seconds since 1970, and none before that
abbrev pub seconds_of : ℤ → ℕ
seconds_of (pos seconds) = seconds
seconds_of (negsuc _) = 0
