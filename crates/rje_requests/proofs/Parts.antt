-- What `all` and `any` tell of the parts of a text.
use Rattle.std.proofs.Common.{ℕ, ◌<◌, ◌↔◌, Bool, true, false, IsTrue, MatchBool, List, [], length, get_or, refl, sym, subst, arith}
use Rattle.std.specs.List.{All, AllWithin, Contains, HoldsAt}
use Rattle.std.proofs.lemmas.Bool.{false≢true}
use Rattle.std.proofs.lemmas.List.{get_or_default}
use Rattle.std.proofs.lemmas.List.Elements.{All-from_all_within}

module _ (P : List ℕ → Type 0) where
  -- P fails of the part
  abbrev pub Lacks : List ℕ → Type 0
  Lacks part = P part → ⊥

  pub all_told : (r : Bool) (parts : List (List ℕ)) → MatchBool r (AllWithin P parts 0 (length parts)) ((k : ℕ) × (k < length parts) × HoldsAt Lacks parts k)
      → IsTrue r ↔ All P parts
  all_told true parts m = (λ _. All-from_all_within P parts m, λ _. refl)
  all_told false parts m = (λ e. absurd (false≢true e), λ all. absurd (m.2 [] (all m.0 [] m.1)))

  pub any_told : (r : Bool) (parts : List (List ℕ)) → MatchBool r ((k : ℕ) × (k < length parts) × HoldsAt P parts k) (AllWithin Lacks parts 0 (length parts))
      → IsTrue r ↔ ((part : List ℕ) × Contains parts part × P part)
  any_told true parts m = (
    (λ _. (get_or parts m.0 [], (m.0, m.1, get_or_default parts m.0 (get_or parts m.0 []) [] m.1), m.2 [])),
    (λ _. refl),
  )
  any_told false parts m = (
    (λ e. absurd (false≢true e)),
    (λ some. absurd (m some.1.0 some.0 (omega arith) some.1.1 (subst P (sym some.1.2) some.2))),
  )
