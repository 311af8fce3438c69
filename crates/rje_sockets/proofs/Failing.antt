-- The statuses of a transmission that fails.
use Rattle.std.proofs.Common.{◌≡◌, ◌⊎◌, inl, inr, ℕ, List, [], ◌∷◌, ◌++◌, map, Bool, true, false, not, Option, Result, Ok, Err, IfErr, if◌then◌else◌, refl, sym, ◌∙◌, subst, arith, ap}
use Rattle.std.specs.Prelude.{◌≢◌}
use Rattle.std.specs.List.{AllByRecursion}
use Rattle.std.specs.Result.{IsErrAnd}
use Rattle.std.proofs.lemmas.List.Elements.{recursion_from_All}
use Rattle.std.proofs.lemmas.Option.{none-some}
use Rattle.rje_jobs.specs.declared.job.Job.{Job}
use Rattle.rje_jobs.specs.declared.file_fault.FileFault.{FileFault}
use Rattle.rje_jobs.specs.Fitting.{JobFits}
use Rattle.rje_files.specs.declared.entry.Entry.{Entry}
use Rattle.rje_files.specs.Entry.{entry_of, jobs_in}
use Rattle.rje_files.specs.Unsent.{CanPass, IsLeft, is_sent, unsent}
use Rattle.rje_files.specs.FileFault.{IsEntryFault, IsFileFault}
use Rattle.rje_files.specs.JobFile.{IsEntryFile}
use Rattle.rje_files.proofs.GoodEntries.{all_received, none_bad}
use Rattle.rje_text.specs.declared.text_fault.TextFault.{TextFault}
use Rattle.rje_station.specs.declared.line_fault.LineFault.{LineFault}
use Rattle.rje_station.specs.declared.station_fault.StationFault.{StationFault}
use Rattle.rje_station.specs.declared.station_fault.StationFault.TheVariants as fault
use Rattle.rje_station.specs.StationFault.{IsCause, IsNewCause}
use Rattle.rje_commands.specs.declared.command_fault.CommandFault.{CommandFault}
use Rattle.rje_commands.specs.declared.command_fault.CommandFault.TheVariants as told
use Rattle.rje_commands.specs.CommandFault.{IsFailing, of_station, of_text, status_of}
use Rattle.rje_commands.specs.Commands.{OfFile}
use Rattle.rje_commands.specs.NamedFile.{IsReadFault, IsWriteFault}
use Rattle.rje_requests.specs.declared.order.Destination.{Destination}
use Rattle.rje_requests.specs.declared.order.ExchangeOrder.{ExchangeOrder}
use Rattle.rje_requests.specs.declared.order.SocketOrder.{SocketOrder}
use Rattle.rje_requests.specs.declared.order.Existing.TheVariants.{Replace}
use Rattle.rje_sockets.specs.Ending.{IsRefusedFile, IsUnsentFault}
use Rattle.rje_sockets.specs.InFront.{IsRefusedDestination, IsStandingFault, LooksInto}
use Rattle.rje_sockets.specs.Inside.Opening.{IsDestinationFault}
use Rattle.rje_sockets.specs.Inside.Sending.{IsExchangeFault, IsSendFault}
use Rattle.rje_sockets.specs.NamedFiles.{NamesOne, NamesWritten}
use Rattle.rje_sockets.specs.SocketCommand.{IsSocketFault}
use Rattle.rje_sockets.proofs.NamedFiles.{names_more}
use Rattle.rje_store.specs.Store.{FileMap}
use Rattle.rje_commands.proofs.Inputs.{of_file}

-- a line that fails, or a station that was over
pub line_fails : (f : StationFault) (failed : LineFault → Type 0) (babbled : Type 0) (over : Bool) → IsCause failed babbled over f → IsFailing (status_of (of_station f))
line_fails (fault.Line f) failed babbled over cause = inl refl
line_fails fault.Babble failed babbled over cause = inl refl
line_fails fault.Over failed babbled over cause = inl refl
line_fails _ failed babbled over cause = absurd cause

-- a text that isn't read, or finds no memory
pub text_fails : (f : TextFault) → IsFailing (status_of (of_text f))
text_fails TextFault.OutOfMemory = inr (inl refl)
text_fails (TextFault.BadCount p) = inl refl
text_fails (TextFault.RecordTooLong p) = inl refl
text_fails TextFault.CardsNot80 = inl refl
text_fails TextFault.MixedModes = inl refl

-- so the file of received jobs is refused for want of memory alone
pub file_fails : (jobs : List Job) (f : FileFault) → IsEntryFault (map entry_of jobs) f → IsFailing (status_of (told.File f))
file_fails jobs FileFault.OutOfMemory h = inr (inl refl)
file_fails jobs (FileFault.BadEntry n) h = absurd (none-some n (sym (none_bad 1 (map entry_of jobs) (all_received jobs)) ∙ h))
file_fails jobs _ h = absurd h

-- want of memory for a file
pub memory_fails : (f : FileFault) → f ≡ FileFault.OutOfMemory → IsFailing (status_of (told.File f))
memory_fails f is = rw is (inr (inl refl))

-- a status of a transmission that fails is not that of a refused input
never_1 : (n : ℕ) → IsFailing n → n ≡ 1 → ⊥
never_1 n (inl three) one = omega (arith, three, one)
never_1 n (inr (inl five)) one = omega (arith, five, one)
never_1 n (inr (inr closed)) one = omega (arith, closed, one)

pub not_refused : {X : Type 0} (r : Result X CommandFault) (P : Type 0) → IfErr r (λ fault. IsFailing (status_of fault)) → IfErr r (λ fault. status_of fault ≡ 1 → P)
not_refused (Ok x) P fails = tt
not_refused (Err fault) P fails = λ one. absurd (never_1 (status_of fault) fails one)

pub send_fails : {X : Type 0} (r : Result X CommandFault) (Written : List ℕ → Type 0) (name : List ℕ) (files : Option FileMap) → IfErr r (λ fault. IsFailing (status_of fault))
    → IfErr r (NamesOne (λ named. named ≡ name) Written) → IfErr r (IsSendFault Written name files)
send_fails (Ok x) Written name files fails names = tt
send_fails (Err fault) Written name files fails names = inl (fails, names)

-- where all that is left can be sent
pub left_fails : {X : Type 0} (r : Result X CommandFault) (file : List ℕ) (jobs : List Job) → IsLeft file jobs
    → IfErr r (λ fault. (jobs : List Job) → IsLeft file jobs → IsFailing (status_of fault)) → IfErr r (λ fault. IsFailing (status_of fault))
left_fails (Ok x) file jobs left told = tt
left_fails (Err fault) file jobs left told = told jobs left

-- there is a sending station for what is left, but for want of memory
fits_left : (es : List Entry) → AllByRecursion CanPass es → AllByRecursion JobFits (jobs_in (unsent es))
fits_left [] pass = tt
fits_left (e ∷ es) pass = go (is_sent e.state) refl (fits_left es pass.1) where
  go : (b : Bool) → is_sent e.state ≡ b → AllByRecursion JobFits (jobs_in (unsent es)) → AllByRecursion JobFits (jobs_in (if not b then e ∷ unsent es else unsent es))
  go true is rest = rest
  go false is rest = (pass.0 is, rest)

one_of : (before after : List Job) (job : Job) → AllByRecursion JobFits (before ++ job ∷ after) → JobFits job
one_of [] after job fit = fit.0
one_of (x ∷ before) after job fit = one_of before after job fit.1

pub station_fails : (file : List ℕ) (jobs : List Job) (f : StationFault) → IsLeft file jobs → IsNewCause jobs f → IsFailing (status_of (of_station f))
station_fails file jobs fault.OutOfMemory left cause = inr (inl refl)
station_fails file jobs (fault.BadJob number) (entries, has, pass, is) cause =
    let fit : AllByRecursion JobFits jobs = rw is (fits_left entries (recursion_from_All CanPass entries pass)) in
    absurd (cause.unfit (one_of cause.before cause.after cause.job (rw (← cause.whole) fit)))
station_fails file jobs _ left cause = absurd cause

-- the status of a transmission that isn't begun
unsent_status : (file : List ℕ) (f : CommandFault) → IsUnsentFault file f → (status_of f ≡ 1) ⊎ IsFailing (status_of f)
unsent_status file (told.File FileFault.OutOfMemory) is = inr (inr (inl refl))
unsent_status file (told.File _) is = inl refl
unsent_status file (told.BadJob number) is = inl refl
unsent_status file _ is = absurd is

-- the status that is told
told_status : (f : CommandFault) (status : ℕ) → (status_of f ≡ 1) ⊎ IsFailing (status_of f) → status ≡ status_of f → (status ≡ 0) ⊎ ((status ≡ 4) ⊎ ((status ≡ 1) ⊎ IsFailing status))
told_status f status (inl one) told = inr (inr (inl (told ∙ one)))
told_status f status (inr fails) told = inr (inr (inr (subst IsFailing (sym told) fails)))

pub send_status : (Written : List ℕ → Type 0) (name : List ℕ) (files : Option FileMap) (f : CommandFault) (status : ℕ) → IsSendFault Written name files f → status ≡ status_of f
    → (status ≡ 0) ⊎ ((status ≡ 4) ⊎ ((status ≡ 1) ⊎ IsFailing status))
send_status Written name files f status (inl (fails, names)) told = told_status f status (inr fails) told
send_status Written name files f status (inr (file, is, read)) told = told_status f status (unsent_status file f is) told

pub send_refuses : (Written : List ℕ → Type 0) (name : List ℕ) (files : Option FileMap) (f : CommandFault) (status : ℕ) → IsSendFault Written name files f → status ≡ status_of f
    → status ≡ 1 → OfFile name files IsRefusedFile
send_refuses Written name files f status (inl (fails, names)) told one = absurd (never_1 (status_of f) fails (sym told ∙ one))
send_refuses Written name files f status (inr (file, is, read)) told one = of_file IsRefusedFile file (f, is, sym told ∙ one) name files read

-- WHAT IS RECEIVED INTO

-- the file that is received into is refused, or there is no memory for it
standing_status : (into : Destination) (file : List ℕ) (f : CommandFault) → IsStandingFault into file f → (status_of f ≡ 1) ⊎ IsFailing (status_of f)
standing_status into file (told.File FileFault.OutOfMemory) is = inr (inr (inl refl))
standing_status into file (told.File _) is = inl refl
standing_status into file (told.HoldsJobs name) is = inl refl
standing_status into file _ is = absurd is

pub destination_status : (into : Destination) (files : Option FileMap) (f : CommandFault) (status : ℕ) → IsDestinationFault into files f → status ≡ status_of f
    → (status ≡ 0) ⊎ ((status ≡ 4) ⊎ ((status ≡ 1) ⊎ IsFailing status))
destination_status into files f status (inl (fails, names)) told = told_status f status (inr fails) told
destination_status into files f status (inr (file, is, read)) told = told_status f status (standing_status into file f is) told

pub destination_refuses : (into : Destination) (files : Option FileMap) (f : CommandFault) (status : ℕ) → IsDestinationFault into files f → status ≡ status_of f
    → status ≡ 1 → IsRefusedDestination into files
destination_refuses into files f status (inl (fails, names)) told one = absurd (never_1 (status_of f) fails (sym told ∙ one))
destination_refuses into files f status (inr (file, is, read)) told one = (f, (file, is, read), sym told ∙ one)

-- or what is sent
pub exchange_status : (send : List ℕ) (into : Destination) (files : Option FileMap) (f : CommandFault) (status : ℕ) → IsExchangeFault send into files f → status ≡ status_of f
    → (status ≡ 0) ⊎ ((status ≡ 4) ⊎ ((status ≡ 1) ⊎ IsFailing status))
exchange_status send into files f status (inl (fails, names)) told = told_status f status (inr fails) told
exchange_status send into files f status (inr (inl (file, is, read))) told = told_status f status (unsent_status file f is) told
exchange_status send into files f status (inr (inr (file, is, read))) told = told_status f status (standing_status into file f is) told

pub exchange_refuses : (send : List ℕ) (into : Destination) (files : Option FileMap) (f : CommandFault) (status : ℕ) → IsExchangeFault send into files f → status ≡ status_of f
    → status ≡ 1 → OfFile send files IsRefusedFile ⊎ IsRefusedDestination into files
exchange_refuses send into files f status (inl (fails, names)) told one = absurd (never_1 (status_of f) fails (sym told ∙ one))
exchange_refuses send into files f status (inr (inl (file, is, read))) told one = inl (of_file IsRefusedFile file (f, is, sym told ∙ one) send files read)
exchange_refuses send into files f status (inr (inr (file, is, read))) told one = inr (f, (file, is, read), sym told ∙ one)

pub exchange_fails_so : {X : Type 0} (r : Result X CommandFault) (send : List ℕ) (into : Destination) (files : Option FileMap) → IfErr r (λ fault. IsFailing (status_of fault))
    → IfErr r (NamesOne (λ n. (n ≡ send) ⊎ LooksInto into n) (λ n. (n ≡ send) ⊎ (n ≡ into.jobs.now))) → IfErr r (IsExchangeFault send into files)
exchange_fails_so (Ok x) send into files fails names = tt
exchange_fails_so (Err fault) send into files fails names = inl (fails, names)

pub receive_fails_so : {X : Type 0} (r : Result X CommandFault) (into : Destination) (files : Option FileMap) → IfErr r (λ fault. IsFailing (status_of fault)) → IfErr r (NamesWritten into.jobs.now)
    → IfErr r (IsDestinationFault into files)
receive_fails_so (Ok x) into files fails names = tt
receive_fails_so (Err fault) into files fails names = inl (fails, names_more (λ _. ⊥) (LooksInto into) (λ n. n ≡ into.jobs.now) (λ n. n ≡ into.jobs.now) (λ n never. absurd never) (λ n e. e) fault names)

-- it can't be written
pub write_fails_so : (into : Destination) (files : Option FileMap) (f : CommandFault) → IsWriteFault into.jobs.now f → IsDestinationFault into files f
write_fails_so into files told.OutOfMemory is = inl (inr (inl refl), tt)
write_fails_so into files (told.CannotWrite name cause) is = inl (inl refl, is)
write_fails_so into files (told.InUse name) is = inl (inl refl, is)
write_fails_so into files (told.Unsynced name) is = inl (inl refl, is)
write_fails_so into files _ is = absurd is

-- it can't be read
pub read_fails_so : (into : Destination) (files : Option FileMap) (f : CommandFault) → into.existing ≢ Replace → IsReadFault into.jobs.now f → IsDestinationFault into files f
read_fails_so into files told.OutOfMemory other is = inl (inr (inl refl), tt)
read_fails_so into files (told.CannotRead name fault) other is = inl (inl refl, (other, is))
read_fails_so into files _ other is = absurd is

-- what is sent can't be marked
pub written_fails_so : (send : List ℕ) (into : Destination) (files : Option FileMap) (f : CommandFault) (name : List ℕ) → name ≡ send → IsFailing (status_of f) → NamesWritten name f
    → IsExchangeFault send into files f
written_fails_so send into files f name is fails names =
    inl (fails, names_more (λ _. ⊥) (λ n. (n ≡ send) ⊎ LooksInto into n) (λ n. n ≡ name) (λ n. (n ≡ send) ⊎ (n ≡ into.jobs.now)) (λ n never. absurd never) (λ n e. inl (e ∙ is)) f names)

-- or it is no job file
pub file_fails_so : (into : Destination) (files : Option FileMap) (bytes : List ℕ) (f : FileFault) → into.existing ≢ Replace → (f ≡ FileFault.OutOfMemory) ⊎ IsFileFault IsEntryFile bytes f
    → OfFile into.jobs.now files (λ read. bytes ≡ read) → IsDestinationFault into files (told.File f)
file_fails_so into files bytes f other (inl memory) read = rw memory (inl (inr (inl refl), tt))
file_fails_so into files bytes f other (inr is) read = inr (bytes, (other, is), read)

-- WHY AN ORDER ISN'T CARRIED OUT

-- a file that is refused is no file that fails
unsent_names : (file : List ℕ) (f : CommandFault) (R W : List ℕ → Type 0) → IsUnsentFault file f → NamesOne R W f
unsent_names file (told.File _) R W is = tt
unsent_names file (told.BadJob number) R W is = tt
unsent_names file _ R W is = absurd is

standing_names : (into : Destination) (file : List ℕ) (f : CommandFault) (R W : List ℕ → Type 0) → IsStandingFault into file f → NamesOne R W f
standing_names into file (told.File _) R W is = tt
standing_names into file (told.HoldsJobs name) R W is = tt
standing_names into file _ R W is = absurd is

pub exchange_refused : (order : ExchangeOrder) (files : Option FileMap) (f : CommandFault) → IsExchangeFault order.send.now order.received files f → IsSocketFault (SocketOrder.Exchange order) files f
exchange_refused order files f (inl (fails, names)) = inl (fails, names)
exchange_refused order files f (inr (inl (file, is, read))) = elim (unsent_status file f is) [
  | inl one ↦ inr (one, inl (of_file (λ file. IsUnsentFault file f) file is order.send.now files read))
  | inr fails ↦ inl (fails, unsent_names file f _ _ is)
]
exchange_refused order files f (inr (inr (file, is, read))) = elim (standing_status order.received file f is) [
  | inl one ↦ inr (one, inr (file, is, read))
  | inr fails ↦ inl (fails, standing_names order.received file f _ _ is)
]

-- what fails with this fault is its refusal
pub fails_with : {T E : Type 0} (r : Result T E) (fault : E) → IsErrAnd r (λ e. e ≡ fault) → r ≡ Err fault
fails_with (Err e) fault is = ap Err is
fails_with (Ok x) fault is = absurd is
