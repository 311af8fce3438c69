-- The check of a list of bytes (GA27-3004, CRC-16).
use Rattle.std.specs.Prelude.{ℕ, suc, zero, ◌+◌, ◌*◌, ◌/◌, ◌%◌, ◌==◌, ◌≡◌, Bool, false, if◌then◌else◌, List, [], ◌∷◌, ◌++◌, replicate, take, drop}
use Rattle.std.specs.List.{flat_map}
use Rattle.std.specs.Int.{to_le_bytes, w16}
use Rattle.bsc_check.specs.Polynomials.{remainder}

-- the low k bits of a number, the lowest first
abbrev pub low_bits : ℕ → ℕ → List Bool
low_bits zero n = []
low_bits (suc k) n = (n % 2 == 1) ∷ low_bits k (n / 2)

-- the number that has these bits, the lowest first
abbrev pub from_bits : List Bool → ℕ
from_bits [] = 0
from_bits (b ∷ bits) = (if b then 1 else 0) + 2 * from_bits bits

-- the coefficients that bytes stand for, the highest first: the bits of each byte, low bit first, and then sixteen zeros
abbrev pub polynomial : List ℕ → List Bool
polynomial bytes = flat_map (low_bits 8) bytes ++ replicate 16 false

-- the check of bytes: the remainder as two bytes, the coefficients of x^15 to x^8 in the first, x^15 in its low bit,
-- those of x^7 to x^0 in the second, x^7 in its low bit
unfoldable pub check_of : List ℕ → List ℕ
check_of bytes =
    let r = remainder (polynomial bytes) in
    from_bits (take 8 r) ∷ from_bits (drop 8 r) ∷ []

-- a value stands for these bytes: its two bytes, the low-order one first, are their check
abbrev pub IsCheckOf : ℕ → List ℕ → Type 0
IsCheckOf check bytes = to_le_bytes w16 check ≡ check_of bytes
