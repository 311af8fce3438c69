-- Why a station didn't do what it was asked (own profile).
use Rattle.std.specs.Prelude.{◌≡◌, ℕ, ◌+◌, Bool, true, false, List, ◌∷◌, ◌++◌, length}
use Rattle.std.specs.List.{AllByRecursion}
use Rattle.rje_jobs.specs.declared.job.Job.{Job}
use Rattle.rje_jobs.specs.Fitting.{JobFits}
use Rattle.rje_station.specs.declared.line_fault.LineFault.{LineFault}
use Rattle.rje_station.specs.declared.station_fault.StationFault.{StationFault}
use Rattle.rje_station.specs.declared.station_fault.StationFault.TheVariants as fault

-- Why a station, which was over before or not, didn't speak or hear: the line failed and this is its fault, it babbled, or the station was over. There is no
-- other cause.
abbrev pub IsCause : (LineFault → Type 0) → Type 0 → Bool → StationFault → Type 0
IsCause failed babbled over (fault.Line f) = failed f × (over ≡ false)
IsCause failed babbled over fault.Babble = babbled × (over ≡ false)
IsCause failed babbled over fault.Over = over ≡ true
IsCause failed babbled over (fault.BadJob number) = ⊥
IsCause failed babbled over fault.OutOfMemory = ⊥

-- what holds where the line failed
abbrev pub IfLine : StationFault → Type 0 → Type 0
IfLine (fault.Line f) P = P
IfLine f P = Unit {0}

-- what holds where a station was over before
abbrev pub IfOver : StationFault → Type 0 → Type 0
IfOver fault.Over P = P
IfOver f P = Unit {0}

-- the number, from 1, of the first job that can't be sent
pub record IsFirstUnfit (jobs : List Job) (number : ℕ) : Type 0 where
  pub before : List Job
  pub job : Job
  pub after : List Job
  pub whole : jobs ≡ before ++ job ∷ after
  pub number_is : number ≡ length before + 1
  pub fit : AllByRecursion JobFits before
  pub unfit : JobFits job → ⊥

-- why there is no sending station for these jobs: one of them can't be sent, or all can and there is no memory
abbrev pub IsNewCause : List Job → StationFault → Type 0
IsNewCause jobs (fault.BadJob number) = IsFirstUnfit jobs number
IsNewCause jobs fault.OutOfMemory = AllByRecursion JobFits jobs
IsNewCause jobs (fault.Line f) = ⊥
IsNewCause jobs fault.Babble = ⊥
IsNewCause jobs fault.Over = ⊥

-- why there is no receiving station: there is no memory
abbrev pub IsNoMemory : StationFault → Type 0
IsNoMemory f = f ≡ fault.OutOfMemory
