-- One transmission that was received: what it comes to, and what is kept of it whatever ends it.
use Rattle.std.proofs.Common.{◌≡◌, ◌⊎◌, inl, inr, true≢false, ℕ, List, [], ◌∷◌, take, drop, Option, Some, None, Result, Ok, Err, IfErr, IfOk, OnErr, OnOk, refl, ap, sym, ◌∙◌, subst, arith}
use Rattle.std.proofs.lemmas.List.{append-nil, take-append-drop}
use Rattle.std.specs.Prelude.{IfSome, IsOk}
use Rattle.std.specs.Result.{IsOkAnd, MatchResult, is_ok}
use Rattle.std.specs.Io.KnownBytes.{Appends}
use Rattle.std.proofs.lemmas.Result.{on_ok_weaker}
use Rattle.rje_jobs.specs.declared.job.Job.{Job}
use Rattle.bsc_link.specs.declared.wish.Wish.{Wish}
use Rattle.rje_station.specs.Receiving.{Receiving, after_receiving, first_receiving}
use Rattle.rje_session.specs.Stations.{LineTells}
use Rattle.rje_sockets.specs.declared.transfer_error.TransferError.{TransferError}
use Rattle.rje_commands.specs.declared.command_fault.CommandFault.{CommandFault}
use Rattle.rje_commands.specs.CommandFault.{of_text}
use Rattle.rje_text.specs.declared.text_fault.TextFault.{TextFault}
use Rattle.rje_sockets.specs.declared.receive_end.ReceiveEnd.{ReceiveEnd}
use Rattle.rje_files.specs.declared.entry.Entry.{Entry}
use Rattle.rje_requests.specs.declared.order.Destination.{Destination}
use Rattle.rje_sockets.specs.declared.job_writer.JobWriter.{JobWriter}
use Rattle.rje_sockets.specs.declared.kept_file.KeptFile.{KeptFile}
use Rattle.rje_sockets.specs.declared.socket_commands.ending.Ending.{Ending}
use Rattle.rje_store.specs.declared.store.WriteMode.TheVariants.{Growing}
use Rattle.rje_sockets.specs.Answering.{HasWhole, KeepsAnswered, whole_in_front}
use Rattle.rje_sockets.specs.Ending.{MakesJobFile, Receives, ending_of_left, received_text}
use Rattle.rje_sockets.specs.Inside.Keeping.{AreKept, GoesOnKeeping, IsOfFile, KeepsJobs}
use Rattle.rje_sockets.specs.Inside.BreakingOff.{BreaksOff, BreaksOffNow, KeptSoFar}
use Rattle.rje_sockets.specs.Inside.Opening.{IsOpened}
use Rattle.rje_sockets.specs.Patience.{Leaves}
use Rattle.rje_store.specs.Store.{FileMap, Discloses, IsSame}
use Rattle.rje_sockets.specs.Watching.{SawReceiver}
use Rattle.rje_sockets.proofs.Answering.{breaks_same_file, left_answered, none_answered, refusal_jobs}
use Rattle.rje_sockets.proofs.Watched.{leaves_unseen}
use Rattle.rje_sockets.proofs.Growing.{none_kept, still_keeps}

-- WHERE ALL IS WELL

-- an ending is told only where nothing failed
pub ends_well : (r : Result Ending CommandFault) (so : Result ReceiveEnd CommandFault) (left : Result ReceiveEnd TransferError) (written printed : Result (Unit {0}) CommandFault) (ending_by : ReceiveEnd → Ending) (P : Ending → Type 0)
    → IfOk so (λ l. IsOkAnd left (λ was. was ≡ l) × IsOk written × IsOk printed) → MatchResult so (λ l. IsOkAnd r (λ ending. ending ≡ ending_by l)) (λ e. r ≡ Err e) → is_ok r ≡ is_ok so
    → IfOk left (λ l. OnOk written (OnOk printed (P (ending_by l)))) → IfOk r P
ends_well (Err e) so left written printed ending_by P well told same holds = tt
ends_well (Ok ending) (Err e) left written printed ending_by P well told same holds = absurd (true≢false same)
ends_well (Ok ending) (Ok l) (Err b) written printed ending_by P well told same holds = absurd well.0
ends_well (Ok ending) (Ok l) (Ok was) (Err e) printed ending_by P well told same holds = absurd (true≢false (sym well.1))
ends_well (Ok ending) (Ok l) (Ok was) (Ok w) (Err e) ending_by P well told same holds = absurd (true≢false (sym well.2))
ends_well (Ok ending) (Ok l) (Ok was) (Ok w) (Ok p) ending_by P well told same holds = subst P (ap ending_by well.0 ∙ sym told) holds

-- or a block was refused
pub ok_unless_refused : (r ending : Result Ending CommandFault) (P : Ending → Type 0) → (r ≡ ending) ⊎ ((why : TextFault) × (r ≡ Err (of_text why))) → IfOk ending P → IfOk r P
ok_unless_refused r ending P (inl same) holds = rw same holds
ok_unless_refused r ending P (inr refused) holds = rw refused.1 tt

pub err_unless_refused : (r ending : Result Ending CommandFault) (P : CommandFault → Type 0) → (r ≡ ending) ⊎ ((why : TextFault) × (r ≡ Err (of_text why))) → IfErr ending P → ((why : TextFault) → P (of_text why)) → IfErr r P
err_unless_refused r ending P (inl same) holds told = rw same holds
err_unless_refused r ending P (inr refused) holds told = rw refused.1 (told refused.0)

pub receives : {W : Type 0} (most : ℕ) (Saw : SawReceiver W) (left : Result ReceiveEnd TransferError) (written printed : Result (Unit {0}) CommandFault) (t u : LineTells) (w w' : W) (into : Destination) (files made : Option FileMap)
    (before after : Option (List ℕ)) (station : Receiving) → IfOk left (λ l. Leaves most Saw l (first_receiving, t, w) (station, u, w')) → IfOk left (λ l. OnOk written (MakesJobFile station.jobs into files made)) → OnOk printed (Appends before after (received_text station.jobs))
    → IfOk left (λ l. OnOk written (OnOk printed (Receives most (ending_of_left l) into (t, files, before) (u, made, after))))
receives most Saw (Err b) written printed t u w w' into files made before after station leaves makes text = tt
receives most Saw (Ok l) (Err e) printed t u w w' into files made before after station leaves makes text = tt
receives most Saw (Ok l) (Ok x) (Err e) t u w w' into files made before after station leaves makes text = tt
receives most Saw (Ok l) (Ok x) (Ok p) t u w w' into files made before after station leaves makes text =
    record { left = l; station = station; leaves = leaves_unseen most Saw l first_receiving station t u w w' leaves; ending_is = refl; makes = makes; text_is = text }

-- where it came to an end, the file is that of its jobs
pub made_at_end : (written : Result (Unit {0}) CommandFault) (front : List Entry) (first last : JobWriter) (station : Receiving) (f looked kept made : Option FileMap) (left : Result ReceiveEnd TransferError)
    → IsOpened front first.file f → first.kept ≡ 0 → Discloses f looked IsSame → OnOk left (GoesOnKeeping first last [] station.jobs looked kept)
    → OnOk written ((files : Option FileMap) → IfErr left (λ broken. IsOfFile broken → ⊥) → KeepsJobs last station.jobs files kept → MakesJobFile station.jobs last.file.into files made)
    → IfOk left (λ _. OnOk written (MakesJobFile station.jobs first.file.into f made))
made_at_end written front first last station f looked kept made (Err e) opened none same goes makes = tt
made_at_end written front first last station f looked kept made (Ok l) opened none same (one, on) makes =
    let now : KeepsJobs last station.jobs f kept = on f (none_kept first front f looked opened none same) in
    on_ok_weaker written (λ m. subst (λ (x : KeptFile). MakesJobFile station.jobs x.into f made) one (m f tt now)) makes

-- WHATEVER ENDS IT

-- its keeper keeps the file
pub keeper_stays : (left : Result ReceiveEnd TransferError) (r r' : Receiving) (was is : KeptSoFar) → OnOk left (GoesOnKeeping was.0 is.0 r.jobs r'.jobs was.2 is.2)
    → IfErr left (BreaksOff r r' was is) → is.0.file ≡ was.0.file
keeper_stays (Ok l) r r' was is goes breaks = goes.0
keeper_stays (Err broken) r r' was is goes b = breaks_same_file b.far r' b.mid is broken b.breaks ∙ b.kept.0

-- what a keeper has kept
of_kept : (front : List Entry) (file : KeptFile) (kept : List Job) (long : ℕ) (files made : Option FileMap) → IsOpened front file files → AreKept front kept long file.into.jobs.now files made
    → MakesJobFile kept file.into files made ⊎ ((kept ≡ []) × Discloses files made IsSame)
of_kept front file [] long files made opened same = inr (refl, same)
of_kept front file (j ∷ js) long files made opened (bytes, of, l, few, sets) = inl (front, bytes, opened.stand, of, omega (arith, l, few), sets)

pub has_kept : (keeper : JobWriter) (jobs : List Job) (files made : Option FileMap) → keeper.file.place ≡ Growing → KeepsJobs keeper jobs files made → HasWhole jobs keeper.file.into files made
has_kept keeper jobs files made grows k = (
  take keeper.kept jobs,
  [],
  ap (λ (n : ℕ). take n jobs) (k.all grows) ∙ sym (append-nil (take (whole_in_front jobs) jobs)),
  of_kept k.front keeper.file (take keeper.kept jobs) keeper.long files made k.opened k.kept,
)

-- all of the jobs
has_all : (jobs : List Job) (into : Destination) (files made : Option FileMap) → MakesJobFile jobs into files made → HasWhole jobs into files made
has_all jobs into files made makes = (jobs, drop (whole_in_front jobs) jobs, sym (take-append-drop (whole_in_front jobs) jobs), inl makes)

-- the rest is kept, or nothing changes
pub has_rest : (written : Result (Unit {0}) CommandFault) (keeper : JobWriter) (jobs : List Job) (files kept made : Option FileMap) → keeper.file.place ≡ Growing → KeepsJobs keeper jobs files kept
    → OnOk written (KeepsJobs keeper jobs files kept → MakesJobFile jobs keeper.file.into files made) → OnErr written (Discloses kept made IsSame) → HasWhole jobs keeper.file.into files made
has_rest (Ok x) keeper jobs files kept made grows k makes same = has_all jobs keeper.file.into files made (makes k)
has_rest (Err e) keeper jobs files kept made grows k makes same = has_kept keeper jobs files made grows (still_keeps keeper jobs files kept made k same)

module _ {W : Type 0} (most : ℕ) (Saw : SawReceiver W) (written : Result (Unit {0}) CommandFault) (front : List Entry) (first : JobWriter) (looked : Option FileMap) (station : Receiving) (f made : Option FileMap)
    (t u : LineTells) (w w' : W) (last : JobWriter) (kept : Option FileMap)
    (opened : IsOpened front first.file f) (none : first.kept ≡ 0) (grows : first.file.place ≡ Growing) (same : Discloses f looked IsSame) where
  -- what goes on from nothing
  from_none : (near : JobWriter) (jobs : List Job) (g : Option FileMap) → GoesOnKeeping first near [] jobs looked g → KeepsJobs near jobs f g × (near.file ≡ first.file)
  from_none near jobs g (one, on) = (on f (none_kept first front f looked opened none same), one)

  grown : (keeper : JobWriter) → keeper.file ≡ first.file → keeper.file.place ≡ Growing
  grown keeper is = ap (λ (x : KeptFile). x.place) is ∙ grows

  at_file : (keeper : JobWriter) (jobs : List Job) → keeper.file ≡ first.file → HasWhole jobs keeper.file.into f made → HasWhole jobs first.file.into f made
  at_file keeper jobs is has = subst (λ (x : KeptFile). HasWhole jobs x.into f made) is has

  kept_to_end : (left : ReceiveEnd) → Leaves most Saw left (first_receiving, t, w) (station, u, w') → GoesOnKeeping first last [] station.jobs looked kept
      → OnOk written (KeepsJobs last station.jobs f kept → MakesJobFile station.jobs last.file.into f made) → OnErr written (Discloses kept made IsSame) → KeepsAnswered first.file.into f made t.1 u.1
  kept_to_end left leaves goes makes still =
      let end = left_answered most Saw left first_receiving station t u w w' leaves in
      let k = from_none last station.jobs kept goes in
      (end.0, u.1, end.1, inl (refl, subst (λ (js : List Job). HasWhole js first.file.into f made) end.2 (at_file last station.jobs k.1 (has_rest written last station.jobs f kept made (grown last k.1) k.0 makes still))))

  -- it broke off, and what was kept by then is there
  kept_by : (broken : TransferError) → BreaksOff first_receiving station (first, t.1, looked) (last, u.1, kept) broken
      → ((jobs : List Job) → (station.jobs ≡ jobs) ⊎ IsOfFile broken → last.file.place ≡ Growing → KeepsJobs last jobs f kept → HasWhole jobs last.file.into f made)
      → KeepsAnswered first.file.into f made t.1 u.1
  kept_by broken b has = by broken b.breaks has where
    k : KeepsJobs b.mid.0 b.far.jobs f b.mid.2 × (b.mid.0.file ≡ first.file)
    k = from_none b.mid.0 b.far.jobs b.mid.2 b.kept

    -- no more was kept, and nothing replied
    no_more : (broken : TransferError) → u.1 ≡ b.mid.1 → GoesOnKeeping b.mid.0 last b.far.jobs b.far.jobs b.mid.2 kept → (station.jobs ≡ b.far.jobs) ⊎ IsOfFile broken
        → ((jobs : List Job) → (station.jobs ≡ jobs) ⊎ IsOfFile broken → last.file.place ≡ Growing → KeepsJobs last jobs f kept → HasWhole jobs last.file.into f made)
        → KeepsAnswered first.file.into f made t.1 u.1
    no_more broken silent more why has =
        let is : last.file ≡ first.file = more.0 ∙ k.1 in
        (b.far, b.mid.1, b.answered, inl (silent, at_file last b.far.jobs is (has b.far.jobs why (grown last is) (more.1 f k.0))))

    by : (broken : TransferError) → BreaksOffNow b.far station b.mid (last, u.1, kept) broken
        → ((jobs : List Job) → (station.jobs ≡ jobs) ⊎ IsOfFile broken → last.file.place ≡ Growing → KeepsJobs last jobs f kept → HasWhole jobs last.file.into f made)
        → KeepsAnswered first.file.into f made t.1 u.1
    by (TransferError.File fault) (what, refused, may, state, silent, more) has = no_more (TransferError.File fault) silent more (inr tt) has
    by (TransferError.Line fault) (inl (state, silent, more)) has =
        no_more (TransferError.Line fault) silent more (inl (ap (λ (x : Receiving). x.jobs) state ∙ refusal_jobs fault b.far)) has
    by (TransferError.Line fault) (inr (what, refused, may, state, one, more)) has =
        let is : last.file ≡ first.file = more.0 ∙ k.1 in
        let jobs : station.jobs ≡ (after_receiving b.far what refused Wish.Go).jobs = ap (λ (x : Receiving). x.jobs) state ∙ refusal_jobs fault (after_receiving b.far what refused Wish.Go) in
        (b.far, b.mid.1, b.answered, inr (one, (what, refused, may, subst (λ (js : List Job). HasWhole js first.file.into f made) jobs (at_file last station.jobs is (has station.jobs (inl refl) (grown last is) (more.1 f k.0))))))

  -- whatever is left of it
  pub kept_whatever : (left : Result ReceiveEnd TransferError) → IfOk left (λ l. Leaves most Saw l (first_receiving, t, w) (station, u, w')) → OnOk left (GoesOnKeeping first last [] station.jobs looked kept)
      → IfErr left (BreaksOff first_receiving station (first, t.1, looked) (last, u.1, kept))
      → OnOk written ((files : Option FileMap) → IfErr left (λ broken. IsOfFile broken → ⊥) → KeepsJobs last station.jobs files kept → MakesJobFile station.jobs last.file.into files made)
      → IfErr left (λ broken. IsOfFile broken → Discloses kept made IsSame) → OnErr written (Discloses kept made IsSame) → KeepsAnswered first.file.into f made t.1 u.1
  kept_whatever (Ok l) leaves goes breaks makes refused still = kept_to_end l leaves goes (on_ok_weaker written (λ m. m f tt) makes) still
  kept_whatever (Err (TransferError.File e)) leaves goes breaks makes refused still =
      kept_by (TransferError.File e) breaks (λ jobs why growing k. has_kept last jobs f made growing (still_keeps last jobs f kept made k (refused tt)))
  kept_whatever (Err (TransferError.Line e)) leaves goes breaks makes refused still = kept_by (TransferError.Line e) breaks has where
    rest : last.file.place ≡ Growing → KeepsJobs last station.jobs f kept → HasWhole station.jobs last.file.into f made
    rest growing k =
        has_rest written last station.jobs f kept made growing k (on_ok_weaker written (λ m. m f (λ never. absurd never)) makes) still

    has : (jobs : List Job) → (station.jobs ≡ jobs) ⊎ IsOfFile (TransferError.Line e) → last.file.place ≡ Growing → KeepsJobs last jobs f kept → HasWhole jobs last.file.into f made
    has jobs (inr never) growing k = absurd never
    has jobs (inl same_jobs) growing k =
        subst (λ (js : List Job). HasWhole js last.file.into f made) same_jobs (rest growing (subst (λ (js : List Job). KeepsJobs last js f kept) (sym same_jobs) k))

-- over a store that tells its files
pub received_kept : {W : Type 0} (most : ℕ) (Saw : SawReceiver W) (written : Result (Unit {0}) CommandFault) (front : List Entry) (first : JobWriter) (looked : Option FileMap) (station : Receiving) (f made : Option FileMap)
    (t u : LineTells) (w w' : W) (last : JobWriter) (kept : Option FileMap) (left : Result ReceiveEnd TransferError)
    → IsOpened front first.file f → first.kept ≡ 0 → Discloses f looked IsSame
    → IfOk left (λ l. Leaves most Saw l (first_receiving, t, w) (station, u, w')) → OnOk left (GoesOnKeeping first last [] station.jobs looked kept)
    → IfErr left (BreaksOff first_receiving station (first, t.1, looked) (last, u.1, kept))
    → OnOk written ((files : Option FileMap) → IfErr left (λ broken. IsOfFile broken → ⊥) → KeepsJobs last station.jobs files kept → MakesJobFile station.jobs last.file.into files made)
    → IfErr left (λ broken. IsOfFile broken → Discloses kept made IsSame) → OnErr written (Discloses kept made IsSame) → IfSome f (λ _. KeepsAnswered first.file.into f made t.1 u.1)
received_kept most Saw written front first looked station None made t u w w' last kept left opened none same leaves goes breaks makes refused still = tt
received_kept most Saw written front first looked station (Some f) made t u w w' last kept left opened none same leaves goes breaks makes refused still =
    kept_whatever most Saw written front first looked station (Some f) made t u w w' last kept opened none opened.grows same left leaves goes breaks makes refused still

-- nothing was heard
pub nothing_kept : (into : Destination) (f made : Option FileMap) (before after : ℕ) → Discloses f made IsSame → after ≡ before → IfSome f (λ _. KeepsAnswered into f made before after)
nothing_kept into None made before after same silent = tt
nothing_kept into (Some f) made before after same silent = (first_receiving, before, none_answered first_receiving before, inl (silent, ([], [], refl, inr (refl, same))))

-- on a new line some replies were transmitted, and what they answer is kept
pub keeps_so_many : (into : Destination) (f made : Option FileMap) (before after : ℕ) → before ≡ 0 → IfSome f (λ _. KeepsAnswered into f made before after)
    → IfSome f (λ _. (n : ℕ) × KeepsAnswered into f made 0 n)
keeps_so_many into None made before after new kept = tt
keeps_so_many into (Some f) made before after new kept = (after, subst (λ (k : ℕ). KeepsAnswered into (Some f) made k after) new kept)
