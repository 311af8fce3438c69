-- A job that was sent or is in doubt lies ready no more, so no later transmission is given it.
use Rattle.std.proofs.Common.{sym, subst, List, [], ◌∷◌, ◌++◌, inl, inr}
use Rattle.rje_day.specs.Giving.{AllMayOccur, LiesReady, Name, Occurrence, PutOut, Transmitted, WasGiven, WasPutOut}
use Rattle.rje_day.specs.Laws.{GivesNoJobAgain}

-- what lies ready was put out
ready-put_out : (past : List Occurrence) (name : Name) → LiesReady past name → WasPutOut past name
ready-put_out [] name ready = ready
ready-put_out (PutOut other ∷ past) name (inl e) = inl e
ready-put_out (PutOut other ∷ past) name (inr ready) = inr (ready-put_out past name ready)
ready-put_out (Transmitted t ∷ past) name ready = ready-put_out past name ready.0

-- what was put out stays so
put_out-later : (later past : List Occurrence) (name : Name) → WasPutOut past name → WasPutOut (later ++ past) name
put_out-later [] past name put = put
put_out-later (PutOut other ∷ later) past name put = inr (put_out-later later past name put)
put_out-later (Transmitted t ∷ later) past name put = put_out-later later past name put

may-suffix : (later past : List Occurrence) → AllMayOccur (later ++ past) → AllMayOccur past
may-suffix [] past may = may
may-suffix (o ∷ later) past may = may-suffix later past may.1

-- a job that was put out, and doesn't lie ready, never lies ready again
ready-no_more : (later past : List Occurrence) (name : Name) → AllMayOccur (later ++ past) → WasPutOut past name → (LiesReady past name → ⊥) → LiesReady (later ++ past) name → ⊥
ready-no_more [] past name may put none ready = none ready
ready-no_more (PutOut other ∷ later) past name may put none (inl e) =
    let P : Name → Type 0 = λ n. WasPutOut (later ++ past) n in may.0 (subst P (sym e) (put_out-later later past name put))
ready-no_more (PutOut other ∷ later) past name may put none (inr ready) = ready-no_more later past name may.1 put none ready
ready-no_more (Transmitted t ∷ later) past name may put none ready = ready-no_more later past name may.1 put none ready.0

given-no_more : (later past : List Occurrence) (name : Name) → AllMayOccur (later ++ past) → WasPutOut past name → (LiesReady past name → ⊥) → WasGiven later name → ⊥
given-no_more [] past name may put none given = given
given-no_more (PutOut other ∷ later) past name may put none given = given-no_more later past name may.1 put none given
given-no_more (Transmitted u ∷ later) past name may put none (inl given) = ready-no_more later past name may.1 put none (may.0 name given)
given-no_more (Transmitted u ∷ later) past name may put none (inr given) = given-no_more later past name may.1 put none given

pub gives_no_job_again : GivesNoJobAgain
gives_no_job_again later earlier t name what may became gone given =
    let here : AllMayOccur (Transmitted t ∷ earlier) = may-suffix later (Transmitted t ∷ earlier) may in
    let put : WasPutOut earlier name = ready-put_out earlier name (here.0 name (became.0, became.1)) in
    given-no_more later (Transmitted t ∷ earlier) name may put (λ ready. gone (ready.1 what became)) given
