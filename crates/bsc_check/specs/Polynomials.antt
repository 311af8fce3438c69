-- Polynomials over two elements: a list of coefficients, the highest first.
use Rattle.std.specs.Prelude.{ℕ, suc, zero, ◌-◌, ◌≡◌, Bool, true, false, List, [], ◌∷◌, ◌++◌, length, replicate}

-- the sum of two coefficients, which is their difference too
abbrev pub plus : Bool → Bool → Bool
plus false b = b
plus true false = true
plus true true = false

-- the coefficients of p, with those of g added at its front
abbrev pub add_at_front : List Bool → List Bool → List Bool
add_at_front [] p = p
add_at_front (g ∷ gs) [] = []
add_at_front (g ∷ gs) (p ∷ ps) = plus g p ∷ add_at_front gs ps

-- the generator x^16 + x^15 + x^2 + 1, after its leading coefficient: those of x^15 to x^0
abbrev pub generator_tail : List Bool
generator_tail =
    true ∷ false ∷ false ∷ false ∷ false ∷ false ∷ false ∷ false ∷
    false ∷ false ∷ false ∷ false ∷ false ∷ true ∷ false ∷ true ∷ []

-- long division by the generator: each of the first n coefficients that isn't zero is cancelled by
-- subtracting the generator there; what is left after them
abbrev pub cancel : ℕ → List Bool → List Bool
cancel zero p = p
cancel (suc n) [] = []
cancel (suc n) (false ∷ p) = cancel n p
cancel (suc n) (true ∷ p) = cancel n (add_at_front generator_tail p)

-- the sixteen coefficients of the remainder
abbrev pub remainder : List Bool → List Bool
remainder p = cancel (length p - 16) p

-- a polynomial times the generator
abbrev pub times_generator : List Bool → List Bool
times_generator [] = replicate 16 false
times_generator (false ∷ q) = false ∷ times_generator q
times_generator (true ∷ q) = true ∷ add_at_front generator_tail (times_generator q)

-- p is a multiple of the generator and r, which has no coefficient above that of x^15
pub record IsRemainder (p r : List Bool) : Type 0 where
  pub quotient : List Bool
  pub whole : p ≡ add_at_front (times_generator quotient) (replicate (length quotient) false ++ r)
  pub sixteen : length r ≡ 16
