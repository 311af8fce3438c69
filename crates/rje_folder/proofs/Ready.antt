-- Names in the order of their bytes, but for those that are left alone.
use Rattle.std.proofs.Common.{◌≡◌, List, [], ◌∷◌, Bool, true, false, not, if◌then◌else◌, Global, refl, sym, arith}
use Rattle.std.specs.Prelude.{Contains, String, filter, string_bytes, string_cmp, string_eq}
use Rattle.std.specs.List.{All, Any, dedup}
use Rattle.std.specs.List.Sorted.{IsPermutation, IsSorted}
use Rattle.std.specs.String.{string_cmp_total, string_eq_equiv}
use Rattle.std.specs.Cmp.Lexicographic.{texts_ties}
use Rattle.std.proofs.lemmas.Slice.Eq.{bytes_eq-Decides}
use Rattle.std.proofs.lemmas.List.Elements.{All-cons, All-contains, All-contains_itself, All-filter, All-nil, All-weaker, Contains-append_right, filter_passes}
use Rattle.std.proofs.lemmas.List.Kept.{Any-dedup, Contains-from_dedup, IsStrictlySortedBy-dedup}
use Rattle.std.proofs.lemmas.List.Sorted.{Contains-permutation, IsPermutation-sym}
use Rattle.rje_folder.specs.ReadyFile.{AreReady, is_left_alone}

-- what passes a test is kept
later : {X : Type 0} (b : Bool) (x y : X) (kept : List X) → Contains kept y → Contains (if b then x ∷ kept else kept) y
later true x y kept among = Contains-append_right (x ∷ []) kept y among
later false x y kept among = among

all_kept : {X : Type 0} (test : X → Bool) (xs : List X) → All (λ x. test x ≡ true → Contains (filter test xs) x) xs
all_kept test [] = All-nil (λ x. test x ≡ true → Contains (filter test []) x)
all_kept test (x ∷ xs) = All-cons (λ y. test y ≡ true → Contains (filter test (x ∷ xs)) y) x xs
    (λ passes. rw passes (0, omega arith, refl))
    (All-weaker (λ y. test y ≡ true → Contains (filter test xs) y) (λ y. test y ≡ true → Contains (filter test (x ∷ xs)) y)
    (λ y kept passes. later (test x) x y (filter test xs) (kept passes)) xs (all_kept test xs))

-- a name isn't left alone
abbrev pub is_taken : String Global → Bool
is_taken name = not (is_left_alone (string_bytes name))

not_alone : (b : Bool) → not b ≡ true → b ≡ false
not_alone true h = cc
not_alone false h = refl

taken : (b : Bool) → b ≡ false → not b ≡ true
taken true h = cc
taken false h = refl

-- the names that were kept, sorted, and each once
pub ready_is : (names sorted : List (String Global)) → IsPermutation (filter is_taken names) sorted → IsSorted string_cmp sorted → AreReady names (dedup string_eq sorted)
ready_is names sorted same ordered = (
  (
    λ name among. not_alone (is_left_alone (string_bytes name)) (All-contains (λ x. is_taken x ≡ true) kept name (filter_passes is_taken names) (was_kept name among)),
    IsStrictlySortedBy-dedup string_cmp_total (λ x y. texts_ties (string_bytes x) (string_bytes y)) sorted ordered,
  ),
  λ name among. All-contains (Contains names) kept name (All-filter is_taken (Contains names) names (All-contains_itself names)) (was_kept name among),
  λ name among free. same_bytes name (Any-dedup string_eq_equiv sorted name
      (Contains-permutation kept sorted name same (All-contains (λ x. is_taken x ≡ true → Contains kept x) names name (all_kept is_taken names) among (taken (is_left_alone (string_bytes name)) free)))),
) where
  kept : List (String Global)
  kept = filter is_taken names

  was_kept : (name : String Global) → Contains (dedup string_eq sorted) name → Contains kept name
  was_kept name among = Contains-permutation sorted kept name (IsPermutation-sym kept sorted same) (Contains-from_dedup string_eq sorted name among)

  same_bytes : (name : String Global) → Any (λ y. string_eq name y ≡ true) (dedup string_eq sorted) → Any (λ y. string_bytes y ≡ string_bytes name) (dedup string_eq sorted)
  same_bytes name (k, other, within, is, equal) = (k, other, within, is, sym ((bytes_eq-Decides (string_bytes name) (string_bytes other)).0 equal))
