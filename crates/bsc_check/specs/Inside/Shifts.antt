-- Shifts of a register that holds a remainder, its highest coefficient in the low bit. Private functions alone are stated by them; no
-- promise rests on this file.
use Rattle.std.specs.Prelude.{ℕ, suc, zero, ◌/◌, ◌%◌, ◌==◌, List, [], ◌∷◌, if◌then◌else◌, bit_xor}

-- one shift: the highest coefficient goes, and where it isn't zero the generator is subtracted
abbrev pub shift : ℕ → ℕ
shift register = if register % 2 == 1 then bit_xor (register / 2) 0xA001 else register / 2

-- `n` shifts
unfoldable pub shifts : ℕ → ℕ → ℕ
shifts zero register = register
shifts (suc n) register = shifts n (shift register)

-- a register after more bytes, with eight shifts for each
abbrev pub register_after : ℕ → List ℕ → ℕ
register_after register [] = register
register_after register (byte ∷ bytes) = register_after (shifts 8 (bit_xor register byte)) bytes
