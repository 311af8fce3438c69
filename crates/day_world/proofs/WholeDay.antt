-- A whole day, each way.
use Rattle.std.proofs.Common.{◌≡◌, refl, sym, ap, ◌∙◌, subst, zero, suc, ◌<◌, Bool, true, false, if◌then◌else◌, List, [], ◌∷◌, ◌++◌, length, take, inl, inr, arith}
use Rattle.std.specs.List.{AllByRecursion}
use Rattle.std.proofs.lemmas.List.{map-append, take-map, length-map}
use Rattle.std.proofs.lemmas.Option.{slice_get_within}
use Rattle.bsc_link.specs.declared.rank.Rank.{Rank}
use Rattle.rje_day.specs.declared.disposition.Disposition.{Disposition}
use Rattle.rje_day.specs.declared.ended.Ended.{Ended}
use Rattle.rje_day.specs.Ended.{disposition_of}
use Rattle.rje_day.specs.Giving.{AllMayOccur, Becomes, IsGiven, LiesReady, Name, Occurrence, Transmission, Transmitted}
use Rattle.rje_day.specs.Giving.{PutOut as IsPutOut}
use Rattle.rje_day.specs.Laws.{GivesNoJobAgain}
use Rattle.day_world.specs.Day.{AllCarried, AreAmong, BringsEachOnce, BringsNoOther, BringsNoneReady, BringsWhatWasSent, Exchanged, Happening, IsAmong, IsEachOnce, KeepsWhatCame, LeavesFewInDoubt, OverDays, PutOut, came_in, is_same, kept_in, occurrences, passages, sent_by, sent_in}
use Rattle.day_world.specs.Carried.{PassOnTheFirstJobs}
use Rattle.day_world.specs.Passage.{ComesThrough, IsPassedOn, LeavesOneInDoubt, Passage, came, in_doubt, jobs_of, names_of, sent, transmission_of}
use Rattle.day_world.proofs.Lists.{among_either, beginning, beside, first_at, itself, once_first, once_joined}
use Rattle.day_world.proofs.Passages.{comes_through, leaves_one_in_doubt}

-- ---- What came.

all_kept : (passed : List Passage) → AllByRecursion IsPassedOn passed → kept_in passed ≡ jobs_of (came_in passed)
all_kept [] p = refl
all_kept (t ∷ past) p =
    ap (λ xs. xs ++ t.kept) (all_kept past p.1) ∙ ap (λ xs. jobs_of (came_in past) ++ xs) p.0.first ∙ sym (map-append (λ g. g.job) (came_in past) (came t))

each_through : (passed : List Passage) → AllByRecursion IsPassedOn passed → AllByRecursion ComesThrough passed
each_through [] p = tt
each_through (t ∷ past) p = (comes_through t p.0, each_through past p.1)

sent_came : (t : Passage) → ComesThrough t → AreAmong (sent t) (came t)
sent_came t (inl same) = subst (AreAmong (sent t)) (sym same) (itself (sent t))
sent_came t (inr more) = subst (AreAmong (sent t)) (sym more) (beginning (sent t) (in_doubt t))

all_sent : (passed : List Passage) → AllByRecursion ComesThrough passed → AreAmong (sent_in passed) (came_in passed)
all_sent [] p = tt
all_sent (t ∷ past) p = beside (sent_in past) (sent t) (came_in past) (came t) (all_sent past p.1) (sent_came t p.0)

each_one : (passed : List Passage) → AllByRecursion LeavesOneInDoubt passed
each_one [] = tt
each_one (t ∷ past) = (leaves_one_in_doubt t, each_one past)

-- the names of the jobs that came
came_names : (t : Passage) (past : List Passage) → names_of (came_in (t ∷ past)) ≡ names_of (came_in past) ++ take (length t.kept) (names_of t.given)
came_names t past =
    map-append (λ g. g.name) (came_in past) (came t) ∙ ap (λ xs. names_of (came_in past) ++ xs) (sym (take-map (λ g. g.name) (length t.kept) t.given))

-- ---- A job that came is given no more.

-- a transmission was given it, and left it otherwise than ready
record IsGone (name : Name) (occurred : List Occurrence) : Type 0 where
  later : List Occurrence
  earlier : List Occurrence
  t : Transmission
  what : Disposition
  is : occurred ≡ later ++ Transmitted t ∷ earlier
  became : Becomes what name t
  gone : what ≡ Disposition.Ready → ⊥

gone_on : (name : Name) (o : Occurrence) (occurred : List Occurrence) → IsGone name occurred → IsGone name (o ∷ occurred)
gone_on name o occurred g = record {
  later = o ∷ g.later;
  earlier = g.earlier;
  t = g.t;
  what = g.what;
  is = ap (λ xs. o ∷ xs) g.is;
  became = g.became;
  gone = g.gone;
}

gone_put : (name other : Name) (own : Bool) (occurred : List Occurrence) → IsGone name occurred
    → IsGone name (if own then IsPutOut other ∷ occurred else occurred)
gone_put name other true occurred g = gone_on name (IsPutOut other) occurred g
gone_put name other false occurred g = g

gone_here : (name : Name) (t : Passage) (occurred : List Occurrence) → IsPassedOn t → IsAmong name (take (length t.kept) (names_of t.given))
    → IsGone name (Transmitted (transmission_of t) ∷ occurred)
gone_here name t occurred p is =
    let at = first_at name (length t.kept) (names_of t.given) is in
    let within : at.0 < length t.given = subst (λ n. at.0 < n) (length-map t.given (λ g. g.name)) (slice_get_within (names_of t.given) at.0 name at.2) in
    record {
      later = [];
      earlier = occurred;
      t = transmission_of t;
      what = disposition_of t.ended at.0;
      is = refl;
      became = (at.0, at.2, refl);
      gone = λ e. let so = p.ready at.0 within e in absurd (omega (arith, so, at.1));
    }

came_gone : (rank : Rank) (day : List Happening) (name : Name) → AllByRecursion IsPassedOn (passages rank day)
    → IsAmong name (names_of (came_in (passages rank day)))
    → IsGone name (occurrences rank day)
came_gone rank [] name p is = absurd is
came_gone rank (PutOut by other ∷ past) name p is = gone_put name other (is_same rank by) (occurrences rank past) (came_gone rank past name p is)
came_gone rank (Exchanged up down ∷ past) name p is =
    let t = sent_by rank up down in
    let here = subst (IsAmong name) (came_names t (passages rank past)) is in
    elim (among_either name (names_of (came_in (passages rank past))) (take (length t.kept) (names_of t.given)) here) [
      | inl before ↦ gone_on name (Transmitted (transmission_of t)) (occurrences rank past) (came_gone rank past name p.1 before)
      | inr now ↦ gone_here name t (occurrences rank past) p.0 now
    ]

-- or else one more transmission could be given it
pub given_alone : (name other : Name) → IsGiven other (record { jobs = name ∷ []; ended = Ended.Done }) → name ≡ other
given_alone name other (zero, e) = cc
given_alone name other (suc k, e) = cc

gone_not_ready : GivesNoJobAgain → (name : Name) (occurred : List Occurrence) → AllMayOccur occurred → IsGone name occurred → LiesReady occurred name → ⊥
gone_not_ready again name occurred may g ready =
    let next : Transmission = record { jobs = name ∷ []; ended = Ended.Done } in
    let there : LiesReady (g.later ++ Transmitted g.t ∷ g.earlier) name = subst (λ xs. LiesReady xs name) g.is ready in
    again (Transmitted next ∷ g.later) g.earlier g.t name g.what
    (λ other given. subst (LiesReady (g.later ++ Transmitted g.t ∷ g.earlier)) (given_alone name other given) there, subst AllMayOccur g.is may)
    g.became g.gone (inl (0, refl))

none_ready : GivesNoJobAgain → (rank : Rank) (day : List Happening) → AllByRecursion IsPassedOn (passages rank day) → AllMayOccur (occurrences rank day)
    → (name : Name)
    → LiesReady (occurrences rank day) name → IsAmong name (names_of (came_in (passages rank day))) → ⊥
none_ready again rank day p may name ready is = gone_not_ready again name (occurrences rank day) may (came_gone rank day name p is) ready

-- ---- So none comes twice.

may_before : (own : Bool) (name : Name) (occurred : List Occurrence) → AllMayOccur (if own then IsPutOut name ∷ occurred else occurred) → AllMayOccur occurred
may_before true name occurred may = may.1
may_before false name occurred may = may

each_once : GivesNoJobAgain → (rank : Rank) (day : List Happening) → AllByRecursion IsPassedOn (passages rank day) → AllMayOccur (occurrences rank day)
    → AllByRecursion (λ t. IsEachOnce (names_of t.given)) (passages rank day) → IsEachOnce (names_of (came_in (passages rank day)))
each_once again rank [] p may once = tt
each_once again rank (PutOut by name ∷ past) p may once = each_once again rank past p (may_before (is_same rank by) name (occurrences rank past) may) once
each_once again rank (Exchanged up down ∷ past) p may once =
    let t = sent_by rank up down in
    subst IsEachOnce (sym (came_names t (passages rank past)))
    (once_joined (names_of (came_in (passages rank past))) (take (length t.kept) (names_of t.given)) (each_once again rank past p.1 may.1 once.1)
    (once_first (length t.kept) (names_of t.given) once.0)
    (λ name before now.
    let at = first_at name (length t.kept) (names_of t.given) now in
    none_ready again rank past p.1 may.1 name (may.0 name (at.0, at.2)) before))

-- ---- The law.

own_passage : (rank : Rank) (up down : Passage) → IsPassedOn up × IsPassedOn down → IsPassedOn (sent_by rank up down)
own_passage Rank.Primary up down p = p.0
own_passage Rank.Secondary up down p = p.1

all_passed : PassOnTheFirstJobs → (rank : Rank) (day : List Happening) → AllCarried day → AllByRecursion IsPassedOn (passages rank day)
all_passed pass rank [] carried = tt
all_passed pass rank (PutOut by name ∷ past) carried = all_passed pass rank past carried
all_passed pass rank (Exchanged up down ∷ past) carried = (own_passage rank up down (pass up down carried.0), all_passed pass rank past carried.1)

pub keeps_what_came : PassOnTheFirstJobs → OverDays KeepsWhatCame
keeps_what_came pass day rank d = all_kept (passages rank day) (all_passed pass rank day d.carried)

pub brings_what_was_sent : PassOnTheFirstJobs → OverDays BringsWhatWasSent
brings_what_was_sent pass day rank d = all_sent (passages rank day) (each_through (passages rank day) (all_passed pass rank day d.carried))

pub brings_no_other : PassOnTheFirstJobs → OverDays BringsNoOther
brings_no_other pass day rank d = each_through (passages rank day) (all_passed pass rank day d.carried)

pub brings_each_once : PassOnTheFirstJobs → GivesNoJobAgain → OverDays BringsEachOnce
brings_each_once pass again day rank d = each_once again rank day (all_passed pass rank day d.carried) (d.ready rank) (d.once rank)

pub brings_none_ready : PassOnTheFirstJobs → GivesNoJobAgain → OverDays BringsNoneReady
brings_none_ready pass again day rank d = none_ready again rank day (all_passed pass rank day d.carried) (d.ready rank)

pub leaves_few_in_doubt : OverDays LeavesFewInDoubt
leaves_few_in_doubt day rank d = each_one (passages rank day)

pub ruleset over_days = (keeps_what_came, brings_what_was_sent, brings_no_other, brings_each_once, brings_none_ready, leaves_few_in_doubt)
