-- Two tests that are both true.
use Rattle.std.proofs.Common.{◌≡◌, Bool, true, false, ◌&&◌, refl}

pub both : (a b : Bool) → (a && b) ≡ true → (a ≡ true) × (b ≡ true)
both true b e = (refl, e)
both false b e = cc

pub together : (a b : Bool) → a ≡ true → b ≡ true → (a && b) ≡ true
together a b e f = rw (e, f) refl
