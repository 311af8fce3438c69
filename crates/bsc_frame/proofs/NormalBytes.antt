-- The test for a normal text byte.
use Rattle.std.proofs.Common.{◌≡◌, ℕ, Bool, true, false, cond, refl, subst}
use Rattle.std.proofs.lemmas.Bool.{eqb-true}
use Rattle.std.proofs.lemmas.Map.Views.{list_any-from_Contains, Contains-from_any}
use Rattle.std.specs.Prelude.{Contains, IsTrue, ◌==◌, ◌↔◌}
use Rattle.std.specs.Bool.{MatchBool}
use Rattle.std.specs.Cmp.{nat_eq_equiv}
use Rattle.std.specs.List.{list_any}
use Rattle.bsc_codes.specs.Bytes.{control_bytes}
use Rattle.bsc_frame.specs.Body.{IsNormalText}
use Rattle.bsc_frame.specs.Inside.Listening.NormalText.{is_normal_text}

-- what the test says of a byte
abbrev pub Says : ℕ → Bool → Type 0
Says byte b = MatchBool b (IsNormalText byte) (Contains control_bytes byte)

-- the test is right for each byte
pub tested : (byte : ℕ) → Says byte (is_normal_text byte)
tested byte = by_control (list_any (λ c. byte == c) control_bytes) refl
  where
    by_control : (b : Bool) → list_any (λ c. byte == c) control_bytes ≡ b → Says byte (cond b false true)
    by_control true e = Contains-from_any eqb-true byte control_bytes e
    by_control false e = λ h. let t : list_any (λ c. byte == c) control_bytes ≡ true = list_any-from_Contains nat_eq_equiv byte control_bytes h in absurd cc

-- a byte that passes is a normal text byte
pub means_normal : (byte : ℕ) → is_normal_text byte ≡ true → IsNormalText byte
means_normal byte e = subst (Says byte) e (tested byte)

-- and a normal text byte passes
pub passes : (byte : ℕ) → IsNormalText byte → is_normal_text byte ≡ true
passes byte n = by_test (is_normal_text byte) (tested byte)
  where
    by_test : (b : Bool) → Says byte b → b ≡ true
    by_test true s = refl
    by_test false s = absurd (n s)

-- an answer that is true just of a normal text byte is the test's
pub test_is : (byte : ℕ) (answer : Bool) → (IsTrue answer ↔ IsNormalText byte) → answer ≡ is_normal_text byte
test_is byte answer h = same answer (is_normal_text byte) h (tested byte)
  where
    same : (a b : Bool) → (IsTrue a ↔ IsNormalText byte) → Says byte b → a ≡ b
    same true true h s = refl
    same true false h s = absurd (h.0 refl s)
    same false true h s = let t : false ≡ true = h.1 s in absurd cc
    same false false h s = refl
