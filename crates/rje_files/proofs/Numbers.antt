-- Numbers in their bytes, byte by byte.
use Rattle.std.proofs.Common.{◌≡◌, ℕ, zero, suc, ◌+◌, ◌-◌, ◌*◌, ◌/◌, ◌%◌, ◌^◌, ◌<◌, ◌≤◌, List, [], ◌∷◌, ◌++◌, refl, ap, sym, ◌∙◌, subst, arith}
use Rattle.std.proofs.Math.Nat.{div-one, div-div-eq-div-mul, pow-suc, mod-add-div, mod-lt, pow-le-pow_right}
use Rattle.std.specs.Int.{byte_at, bytes_high_first}
use Rattle.rje_files.specs.Inside.Reading.Grammar.{Number}

pub byte_is : (k x : ℕ) → byte_at k x ≡ x / 256 ^ k % 256
byte_is zero x = ap (λ (y : ℕ). y % 256) (sym (div-one x))
byte_is (suc k) x = refl

pub next_div : (n x : ℕ) → x / 256 ^ suc n ≡ x / 256 ^ n / 256
next_div n x = ap (λ (y : ℕ). x / y) (pow-suc 256 n) ∙ sym (div-div-eq-div-mul x (256 ^ n) 256)

-- a number whose first bytes are v is followed by the rest of its bytes
pub number_there : (n x : ℕ) (Rest : ℕ → List ℕ → Type 0) (zs : List ℕ) → Rest x zs → Number n (x / 256 ^ n) Rest (bytes_high_first n x ++ zs)
number_there zero x Rest zs h = subst (λ (y : ℕ). Rest y zs) (sym (div-one x)) h
number_there (suc n) x Rest zs h =
    let byte = byte_is n x in
    let small : byte_at n x < 256 = rw byte (mod-lt (x / 256 ^ n) (omega arith)) in
    let same : x / 256 ^ suc n * 256 + byte_at n x ≡ x / 256 ^ n =
    rw (byte, next_div n x) (omega (arith, mod-add-div (x / 256 ^ n) 256)) in
    (small, subst (λ (v : ℕ). Number n v Rest (bytes_high_first n x ++ zs)) (sym same) (number_there n x Rest zs h))

-- the bytes of a number whose first bytes are v
pub record IsNumber (n v : ℕ) (Rest : ℕ → List ℕ → Type 0) (xs : List ℕ) : Type 0 where
  pub number : ℕ
  pub rest : List ℕ
  pub first : number / 256 ^ n ≡ v
  pub bytes : xs ≡ bytes_high_first n number ++ rest
  pub then : Rest number rest

pub number_back : (n v : ℕ) (Rest : ℕ → List ℕ → Type 0) (xs : List ℕ) → Number n v Rest xs → IsNumber n v Rest xs
number_back zero v Rest xs h = record { number = v; rest = xs; first = div-one v; bytes = refl; then = h }
number_back (suc n) v Rest [] h = absurd h
number_back (suc n) v Rest (x ∷ xs) h =
    let more = number_back n (v * 256 + x) Rest xs h.1 in
    let first : more.number / 256 ^ suc n ≡ v = rw (next_div n more.number, more.first) (omega (arith, h.0)) in
    let byte : byte_at n more.number ≡ x = rw (byte_is n more.number, more.first) (omega (arith, h.0)) in
    record { number = more.number; rest = more.rest; first = first; bytes = rw byte (ap (λ (ys : List ℕ). x ∷ ys) more.bytes); then = more.then }

pub below_all : (x : ℕ) → x / 256 ^ 8 ≡ 0 → x < 2 ^ 64
below_all x h = omega (arith, h)

pub none_above : (x : ℕ) → x < 2 ^ 64 → x / 256 ^ 8 ≡ 0
none_above x h = omega (arith, h)

-- one byte more of a number
pub more_room : (n v x : ℕ) → 0 < n → n ≤ 8 → v < 256 ^ (8 - n) → x < 256 → v * 256 + x < 256 ^ (8 - (n - 1))
more_room n v x a b h l =
    let e : 8 - (n - 1) ≡ suc (8 - n) = omega arith in
    rw (e, pow-suc 256 (8 - n)) (omega arith)

pub in_word : (n v x : ℕ) → 0 < n → n ≤ 8 → v < 256 ^ (8 - n) → x < 256 → v * 256 + x < 2 ^ 64
in_word n v x a b h l =
    let m = more_room n v x a b h l in
    let top : 8 - (n - 1) ≤ 8 = omega arith in
    let most : 256 ^ (8 - (n - 1)) ≤ 256 ^ 8 = pow-le-pow_right (omega arith) top in
    omega (arith, m, most)
