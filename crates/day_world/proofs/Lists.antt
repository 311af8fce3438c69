-- Names and named jobs that stand among others.
use Rattle.std.proofs.Common.{◌≡◌, refl, ap, subst, ℕ, zero, suc, ◌<◌, List, [], ◌∷◌, ◌++◌, take, slice_get, Some, ◌⊎◌, inl, inr, arith}
use Rattle.std.proofs.lemmas.List.{append-nil}
use Rattle.rje_day.specs.Giving.{Name}
use Rattle.day_world.specs.Day.{AreAmong, IsAmong, IsEachOnce}
use Rattle.day_world.specs.Passage.{Named}

-- ---- Named jobs.

-- some among all, and others among more
pub beside : (some others all more : List Named) → AreAmong some all → AreAmong others more → AreAmong (some ++ others) (all ++ more)
beside [] others [] more s o = o
beside [] [] (h ∷ all) more s o = tt
beside [] (g ∷ others) (h ∷ all) more s o = inr (beside [] (g ∷ others) all more tt o)
beside (g ∷ some) others [] more s o = absurd s
beside (g ∷ some) others (h ∷ all) more (inl s) o = inl (s.0, beside some others all more s.1 o)
beside (g ∷ some) others (h ∷ all) more (inr s) o = inr (beside (g ∷ some) others all more s o)

pub beginning : (some rest : List Named) → AreAmong some (some ++ rest)
beginning [] rest = tt
beginning (g ∷ some) rest = inl (refl, beginning some rest)

pub itself : (some : List Named) → AreAmong some some
itself some = subst (AreAmong some) (append-nil some) (beginning some [])

-- ---- Names.

pub among_either : (name : Name) (some others : List Name) → IsAmong name (some ++ others) → IsAmong name some ⊎ IsAmong name others
among_either name [] others is = inr is
among_either name (n ∷ some) others (inl e) = inl (inl e)
among_either name (n ∷ some) others (inr is) = elim (among_either name some others is) [ inl here ↦ inl (inr here) | inr there ↦ inr there ]

among_first : (name : Name) (n : ℕ) (names : List Name) → IsAmong name (take n names) → IsAmong name names
among_first name zero names is = absurd is
among_first name (suc n) [] is = absurd is
among_first name (suc n) (m ∷ names) (inl e) = inl e
among_first name (suc n) (m ∷ names) (inr is) = inr (among_first name n names is)

-- where it stands
pub first_at : (name : Name) (n : ℕ) (names : List Name) → IsAmong name (take n names) → (k : ℕ) × (k < n) × (slice_get names k ≡ Some name)
first_at name zero names is = absurd is
first_at name (suc n) [] is = absurd is
first_at name (suc n) (m ∷ names) (inl e) = (0, omega arith, ap Some e)
first_at name (suc n) (m ∷ names) (inr is) = let there = first_at name n names is in (suc there.0, omega (arith, there.1), there.2)

pub once_first : (n : ℕ) (names : List Name) → IsEachOnce names → IsEachOnce (take n names)
once_first zero names once = tt
once_first (suc n) [] once = tt
once_first (suc n) (m ∷ names) once = (λ is. once.0 (among_first m n names is), once_first n names once.1)

pub once_joined : (some others : List Name) → IsEachOnce some → IsEachOnce others → ((name : Name) → IsAmong name some → IsAmong name others → ⊥)
    → IsEachOnce (some ++ others)
once_joined [] others once more apart = more
once_joined (n ∷ some) others once more apart = (
  λ is. elim (among_either n some others is) [ inl here ↦ once.0 here | inr there ↦ apart n (inl refl) there ],
  once_joined some others once.1 more (λ name is. apart name (inr is)),
)
