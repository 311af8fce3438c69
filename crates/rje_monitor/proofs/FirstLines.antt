-- The first line of some lines, where the place of the first LF is known.
use Rattle.std.proofs.Common.{◌≡◌, ℕ, ◌+◌, ◌≤◌, ◌<◌, Bool, true, false, List, [], length, take, drop, Some, None, refl, ap, arith, cond, eqb}
use Rattle.std.specs.Prelude.{position, nat_lt}
use Rattle.std.specs.Io.BufRead.{strip_last}
use Rattle.std.specs.List.{position_or_len}
use Rattle.std.proofs.lemmas.Bool.Decides.{nat_tests}
use Rattle.std.proofs.lemmas.List.{drop_all}
use Rattle.std.proofs.lemmas.List.Sums.{prefix_len-le-length}
use Rattle.rje_monitor.specs.Turns.{is_lf, first_line, later_lines}

found : (xs : List ℕ) (n : ℕ) (within : Bool) → nat_lt (position_or_len is_lf xs) (length xs) ≡ within
    → cond within (Some (position_or_len is_lf xs)) None ≡ Some n → (position_or_len is_lf xs ≡ n) × (position_or_len is_lf xs < length xs)
found xs n true is e = (cc, grind (arith, nat_tests))
found xs n false is e = cc

lost : (xs : List ℕ) (within : Bool) → nat_lt (position_or_len is_lf xs) (length xs) ≡ within
    → cond within (Some (position_or_len is_lf xs)) None ≡ None → length xs ≤ position_or_len is_lf xs
lost xs true is e = cc
lost xs false is e = grind (arith, nat_tests)

pub line_found : (xs : List ℕ) (n : ℕ) → position is_lf xs ≡ Some n → first_line xs ≡ strip_last 0x0D (take n xs)
line_found xs n e =
    let at = found xs n _ refl e in
    let differs : eqb (position_or_len is_lf xs) (length xs) ≡ false = grind (arith, nat_tests, at.1) in
    rw differs (ap (λ k. strip_last 0x0D (take k xs)) at.0)

pub later_found : (xs : List ℕ) (n : ℕ) → position is_lf xs ≡ Some n → later_lines xs ≡ drop (n + 1) xs
later_found xs n e = ap (λ k. drop (k + 1) xs) (found xs n _ refl e).0

pub line_lost : (xs : List ℕ) → position is_lf xs ≡ None → first_line xs ≡ xs
line_lost xs e =
    let long = lost xs _ refl e in
    let short : position_or_len is_lf xs ≤ length xs = prefix_len-le-length _ xs in
    let same : eqb (position_or_len is_lf xs) (length xs) ≡ true = grind (arith, nat_tests, long, short) in
    rw same refl

pub later_lost : (xs : List ℕ) → position is_lf xs ≡ None → later_lines xs ≡ []
later_lost xs e = let long = lost xs _ refl e in drop_all (position_or_len is_lf xs + 1) xs (omega (arith, long))
