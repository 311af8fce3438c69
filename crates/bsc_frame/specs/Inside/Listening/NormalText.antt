-- The plain listener on lists: a device of the proofs; no promise rests on this file.
-- The test for a normal text byte.
use Rattle.std.specs.Prelude.{ℕ, Bool, true, false, ◌==◌, if◌then◌else◌}
use Rattle.std.specs.List.{list_any}
use Rattle.bsc_codes.specs.Bytes.{control_bytes}

-- the test for a normal text byte
abbrev pub is_normal_text : ℕ → Bool
is_normal_text byte = if list_any (λ c. byte == c) control_bytes then false else true
