-- The last events of the last events.
use Rattle.std.proofs.Common.{◌≡◌, ℕ, zero, suc, ◌+◌, ◌-◌, ◌≤◌, List, [], ◌∷◌, ◌++◌, length, drop, refl, ap, sym, ◌∙◌, arith}
use Rattle.std.proofs.lemmas.List.{length-append, length-drop, drop-drop}
use Rattle.rje_station.specs.declared.event.Event.{Event}
use Rattle.rje_station.specs.Trace.{last_events}
use Rattle.rje_station.specs.Laws.{TraceGoesOn}

drop_in : (n : ℕ) (xs ys : List Event) → n ≤ length xs → drop n (xs ++ ys) ≡ drop n xs ++ ys
drop_in zero xs ys h = refl
drop_in (suc n) [] ys h = absurd (omega (arith, h))
drop_in (suc n) (x ∷ xs) ys h = drop_in n xs ys (omega (arith, h))

-- the last of the last and of what follows
last_on : (xs ys : List Event) → last_events (last_events xs ++ ys) ≡ last_events (xs ++ ys)
last_on xs ys =
    let n = length xs - 64 in
    let m = length (last_events xs ++ ys) - 64 in
    let cut : last_events xs ++ ys ≡ drop n (xs ++ ys) = sym (drop_in n xs ys (omega arith)) in
    let sum : n + m ≡ length (xs ++ ys) - 64 = omega (arith, length-append (last_events xs) ys, length-append xs ys, length-drop n xs) in
    ap (drop m) cut ∙ drop-drop m n (xs ++ ys) ∙ ap (λ k. drop k (xs ++ ys)) sum

pub trace_goes_on : TraceGoesOn
trace_goes_on events more trace h = ap (λ t. last_events (t ++ more)) h ∙ last_on events more
