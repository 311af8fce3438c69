-- A fact that each byte keeps, along a run.
use Rattle.std.proofs.Common.{◌≡◌, ℕ, List, [], ◌∷◌, subst}
use Rattle.std.specs.List.{AllByRecursion}
use Rattle.bsc_frame.specs.Inside.Listening.HeardSoFar.{HeardSoFar, Progress, On, Got, next}
use Rattle.bsc_frame.specs.Inside.Listening.Run.{Waits, Hears, run}

-- the fact holds after a byte, unless a frame is whole with it
abbrev pub KeepsAt : (HeardSoFar → Type 0) → Progress → Type 0
KeepsAt P (On q) = P q
KeepsAt P (Got f) = Unit {0}

-- one byte
pub keep_step : (P : HeardSoFar → Type 0) (c : ℕ) (t : List ℕ) (q : HeardSoFar) (n : Progress) → KeepsAt P n → ((p : HeardSoFar) → P p → run p t ≡ Waits q → P q) → elim n [ On p ↦ run p t | Got g ↦ Hears g t ] ≡ Waits q → P q
keep_step P c t q (On p) k more e = more p k e
keep_step P c t q (Got f) k more e = absurd cc

-- a fact that each byte of a kind keeps holds after all of them
pub keep : (P : HeardSoFar → Type 0) (Q : ℕ → Type 0) → ((p : HeardSoFar) (c : ℕ) → Q c → P p → KeepsAt P (next p c)) → (p : HeardSoFar) (t : List ℕ) (q : HeardSoFar) → AllByRecursion Q t → P p → run p t ≡ Waits q → P q
keep P Q each p [] q a h e = let same : p ≡ q = cc in subst P same h
keep P Q each p (c ∷ t) q a h e = keep_step P c t q (next p c) (each p c a.0 h) (λ r k. keep P Q each r t q a.1 k) e
