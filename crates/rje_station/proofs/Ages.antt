-- Which calls may fail, from one call to the next.
use Rattle.std.proofs.Common.{◌≡◌, ℕ, ◌+◌, subst, arith}
use Rattle.rje_station.specs.Line.{Ages}

-- after one call more
pub ages_more : (a b c : ℕ → ℕ → Type 0) → Ages a b → ((bytes calls : ℕ) → c bytes calls → b bytes (1 + calls)) → Ages a c
ages_more a b c before one bytes calls m =
    let more = before bytes (1 + calls) (one bytes calls m) in
    let e : more.0 + (1 + calls) ≡ (more.0 + 1) + calls = omega arith in
    (more.0 + 1, subst (a bytes) e more.1)
