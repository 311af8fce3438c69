-- What is known of the bytes of a stream that stands before another one (own profile).
use Rattle.std.specs.Prelude.{ℕ, List, Option, None, Some}

-- what is known of the stream behind, unless there is a line adapter, whose bytes are others
abbrev pub unless_adapted : {A : Type 0} → Option A → Option (List ℕ) → Option (List ℕ)
unless_adapted None known = known
unless_adapted (Some adapter) known = None
