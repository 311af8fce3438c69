-- What goes one way over an exchange, and what becomes of it at both ends (own profile).
use Rattle.std.specs.Prelude.{◌≡◌, ◌⊎◌, ◌+◌, ◌<◌, ◌≤◌, ℕ, Bool, true, false, List, [], ◌∷◌, ◌++◌, length, map, take, if◌then◌else◌}
use Rattle.rje_day.specs.declared.disposition.Disposition.{Disposition}
use Rattle.rje_day.specs.declared.ended.Ended.{Ended}
use Rattle.rje_day.specs.Ended.{disposition_of}
use Rattle.rje_day.specs.Giving.{Name, Transmission}
use Rattle.rje_jobs.specs.declared.job.Job.{Job}

-- a job in the folder of the station that sends it
pub record Named : Type 0 where
  pub name : Name
  pub job : Job

abbrev pub names_of : List Named → List Name
names_of given = map (λ g. g.name) given

abbrev pub jobs_of : List Named → List Job
jobs_of given = map (λ g. g.job) given

-- one way of an exchange
pub record Passage : Type 0 where
  -- what the sending station was given, in order
  pub given : List Named
  -- how its transmission ended there
  pub ended : Ended
  -- the jobs that the other end kept as whole, in order; it isn't told their names
  pub kept : List Job

-- as the day of the sending station has it
abbrev pub transmission_of : Passage → Transmission
transmission_of t = record { jobs = names_of t.given; ended = t.ended }

-- ---- What becomes of the jobs.

abbrev pub is_sent : Disposition → Bool
is_sent Disposition.Sent = true
is_sent _ = false

abbrev pub is_in_doubt : Disposition → Bool
is_in_doubt Disposition.InDoubt = true
is_in_doubt _ = false

-- those of these jobs, which are numbered from k on, of which something such became
abbrev pub with_fate : (Disposition → Bool) → Ended → (k : ℕ) → List Named → List Named
with_fate is ended k [] = []
with_fate is ended k (g ∷ given) =
    if is (disposition_of ended k) then g ∷ with_fate is ended (k + 1) given else with_fate is ended (k + 1) given

-- those that were sent
abbrev pub sent : Passage → List Named
sent t = with_fate is_sent t.ended 0 t.given

-- those that are in doubt
abbrev pub in_doubt : Passage → List Named
in_doubt t = with_fate is_in_doubt t.ended 0 t.given

-- those that came: the first ones, as many as the other end kept
abbrev pub came : Passage → List Named
came t = take (length t.kept) t.given

-- ---- What holds of it.

-- The jobs that were kept are the first of those given, as they were given; each that was sent is one of them, and none that lies ready still.
pub record IsPassedOn (t : Passage) : Type 0 where
  pub first : t.kept ≡ jobs_of (came t)
  pub sent : (k : ℕ) → k < length t.given → disposition_of t.ended k ≡ Disposition.Sent → k < length t.kept
  pub ready : (k : ℕ) → k < length t.given → disposition_of t.ended k ≡ Disposition.Ready → length t.kept ≤ k

-- those that came are those that were sent; or behind them those that are in doubt came too
abbrev pub ComesThrough : Passage → Type 0
ComesThrough t = (came t ≡ sent t) ⊎ (came t ≡ sent t ++ in_doubt t)

-- no job is in doubt; or one, and then the transmission ended so
abbrev pub LeavesOneInDoubt : Passage → Type 0
LeavesOneInDoubt t = (in_doubt t ≡ []) ⊎ ((g : Named) × (in_doubt t ≡ g ∷ []) × ((counted : ℕ) × (t.ended ≡ Ended.InDoubt counted)))
