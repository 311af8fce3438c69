-- What a station that sends and receives leaves in its two files, from what it held of them when its turns ended.
use Rattle.std.proofs.Common.{◌≡◌, ◌⊎◌, inl, inr, ℕ, List, [], length, Option, Result, Ok, Err, IfErr, IfOk, OnErr, OnOk, refl, ap, sym, ◌∙◌, subst}
use Rattle.std.specs.Prelude.{◌≢◌}
use Rattle.std.proofs.lemmas.Result.{on_ok_weaker}
use Rattle.rje_jobs.specs.declared.job.Job.{Job}
use Rattle.rje_station.specs.Station.{Contending, after_other_ended, after_other_refusal}
use Rattle.rje_station.specs.declared.line_fault.LineFault.TheVariants.{Closed}
use Rattle.rje_station.specs.declared.station_fault.StationFault.TheVariants as fault
use Rattle.rje_commands.specs.declared.command_fault.CommandFault.{CommandFault}
use Rattle.rje_session.specs.Stations.{LineTells}
use Rattle.rje_sockets.specs.declared.transfer_error.TransferError.{TransferError}
use Rattle.rje_sockets.specs.declared.receive_end.ReceiveEnd.{ReceiveEnd}
use Rattle.rje_sockets.specs.declared.job_writer.JobWriter.{JobWriter}
use Rattle.rje_sockets.specs.declared.kept_file.KeptFile.{KeptFile}
use Rattle.rje_sockets.specs.declared.sent_marker.SentMarker.{SentMarker}
use Rattle.rje_store.specs.declared.store.WriteMode.TheVariants.{Growing}
use Rattle.rje_sockets.specs.Answering.{HasWhole}
use Rattle.rje_sockets.specs.BothWays.{AreOver, ExchangesTo, LeavesFrom, StationTurn, Took, Waits, quiet_in_a_row}
use Rattle.rje_sockets.specs.Ending.{MakesJobFile, MarksSent}
use Rattle.rje_sockets.specs.LeavingBoth.{CameTo, LeavesBoth, MarksAlone}
use Rattle.rje_sockets.specs.Inside.Keeping.{IsOfFile, KeepsJobs}
use Rattle.rje_sockets.specs.Inside.BothFiles.{BreaksBoth, GoesOnHolding, HeldSoFar, HoldsBoth, progress_of, HasCounted}
use Rattle.rje_sockets.specs.Watching.{NobodySawReceiver, NobodySawSender}
use Rattle.rje_sockets.proofs.BothFiles.{holds_written}
use Rattle.rje_sockets.proofs.BothWays.{took_turns}
use Rattle.rje_sockets.proofs.Growing.{still_keeps}
use Rattle.rje_sockets.proofs.Received.{has_kept, has_rest}
use Rattle.rje_store.specs.Store.{FileMap, Discloses, IsSame}

-- WHILE IT TAKES ITS TURNS

pub came_near : (s near : Contending) (turns : List StationTurn) → Took s.contender.rank s turns near → CameTo s near
came_near s near turns took = (turns, near, took, inl (inl refl))

-- more is marked, or as much as before
pub counted_on : (s near : Contending) (start had has : ℕ) → CameTo s near → (had ≡ start) ⊎ HasCounted s had → (has ≡ had) ⊎ (has ≡ near.sender.counted) → (has ≡ start) ⊎ HasCounted s has
counted_on s near start had has came before (inl same) = subst (λ (n : ℕ). (n ≡ start) ⊎ HasCounted s n) (sym same) before
counted_on s near start had has came before (inr new) = inr (near, came, sym new)

-- WHEN THEY ENDED

came_left : (most : ℕ) (s s' : Contending) (t u : LineTells) (left : ReceiveEnd) → ExchangesTo most left s t s' u → CameTo s s'
came_left most s s' t u ReceiveEnd.Ended (turns, near, mid, took, ends) = (turns, near, took_turns most NobodySawSender NobodySawReceiver (s, t, tt) turns (near, mid, tt) took, inl (by ends)) where
  by : (AreOver near × (s' ≡ near) × (u ≡ mid)) ⊎ (Waits near × (s' ≡ after_other_refusal (fault.Line Closed) near)) → LeavesFrom near s'
  by (inl (over, same, told)) = inl same
  by (inr (waits, closed)) = inr (inr closed)
came_left most s s' t u ReceiveEnd.Abandoned (turns, near, took, ends) = (turns, near, took_turns most NobodySawSender NobodySawReceiver (s, t, tt) turns (near, u, tt) took, inl (by ends)) where
  by : ((quiet_in_a_row turns ≡ most) × (s' ≡ after_other_ended near)) ⊎ ((length turns ≡ 1000000000) × (s' ≡ near)) → LeavesFrom near s'
  by (inl (quiet, ended)) = inr (inl ended)
  by (inr (long, same)) = inl same

-- what was held then: of the jobs of the station where it stands, or, where the last one couldn't be kept, of those that it had before
record Held (left : Result ReceiveEnd TransferError) (s s' : Contending) (was is : HeldSoFar) : Type 0 where
  pub counted : ℕ
  pub last : Contending
  pub came : CameTo s last
  pub ended : CameTo s s'
  pub same : IfErr left (λ broken. IsOfFile broken → ⊥) → last ≡ s'
  pub holds : GoesOnHolding was is (progress_of s) (counted, last.receiver.jobs)

module _ (most : ℕ) (left : Result ReceiveEnd TransferError) (t u : LineTells) (s s' : Contending) (was is : HeldSoFar) (exchanges : IfOk left (λ l. ExchangesTo most l s t s' u))
    (holds : OnOk left (GoesOnHolding was is (progress_of s) (progress_of s'))) (breaks : IfErr left (BreaksBoth s s' was is)) where
  held : Held left s s' was is
  held = by left exchanges holds breaks where
    by : (left : Result ReceiveEnd TransferError) → IfOk left (λ l. ExchangesTo most l s t s' u) → OnOk left (GoesOnHolding was is (progress_of s) (progress_of s')) → IfErr left (BreaksBoth s s' was is)
        → Held left s s' was is
    by (Ok l) exchanges holds breaks =
        record { counted = s'.sender.counted; last = s'; came = came_left most s s' t u l exchanges; ended = came_left most s s' t u l exchanges; same = λ well. refl; holds = holds }
    by (Err (TransferError.Line fault)) exchanges holds b = record {
      counted = b.near.sender.counted;
      last = s';
      came = (b.turns, b.near, b.took, inr (TransferError.Line fault, b.fails));
      ended = (b.turns, b.near, b.took, inr (TransferError.Line fault, b.fails));
      same = λ well. refl;
      holds = b.holds;
    }
    by (Err (TransferError.File fault)) exchanges holds b = record {
      counted = b.near.sender.counted;
      last = b.near;
      came = came_near s b.near b.turns b.took;
      ended = (b.turns, b.near, b.took, inr (TransferError.File fault, b.fails));
      same = λ never. absurd (never tt);
      holds = b.holds;
    }

  -- the file that was read stays the same
  pub file_stays : is.0.file ≡ was.0.file
  file_stays = held.holds.file

  -- so do the name of the one file, and the other
  pub names_stay : (is.0.name.now ≡ was.0.name.now) × (is.1.file ≡ was.1.file)
  names_stay = (ap (λ (x : _). x.now) held.holds.name, held.holds.own)

-- THE WHOLE FILE OF WHAT IS SENT

-- as many are marked as were counted
pub marks_as_many : {X : Type 0} (written : Result X CommandFault) (file : List ℕ) (n counted : ℕ) (name : List ℕ) (f g : Option FileMap) → OnOk written (MarksSent file n name f g) → n ≡ counted
    → OnOk written (MarksSent file counted name f g)
marks_as_many written file n counted name f g sets is = subst (λ (n : ℕ). OnOk written (MarksSent file n name f g)) is sets

module _ (s s' : Contending) (old new : SentMarker) (count : (new.marked ≡ old.marked) ⊎ HasCounted s new.marked) (start : old.marked ≡ s.sender.counted) where
  alone : (files marked : Option FileMap) → MarksSent new.file.items new.marked new.name.now files marked → MarksAlone s new.file.items new.name.now files marked
  alone files marked sets = by count where
    at : (last : Contending) → CameTo s last → last.sender.counted ≡ new.marked → MarksAlone s new.file.items new.name.now files marked
    at last came is = (last, came, subst (λ (n : ℕ). MarksSent new.file.items n new.name.now files marked) (sym is) sets)

    by : (new.marked ≡ old.marked) ⊎ HasCounted s new.marked → MarksAlone s new.file.items new.name.now files marked
    by (inl still) = at s (came_near s s [] refl) (sym (still ∙ start))
    by (inr (last, came, is)) = at last came is

  -- it is written, or what was marked in between stays
  marked_then : {X : Type 0} (written : Result X CommandFault) (n : ℕ) (keeper : JobWriter) (jobs : List Job) (files g h : Option FileMap) → new.name.now ≢ keeper.file.into.jobs.now → CameTo s s'
      → OnOk written (MarksSent new.file.items s'.sender.counted new.name.now g h) → OnErr written (Discloses g h IsSame) → HoldsBoth new n keeper jobs files g
      → (marked : Option FileMap) × MarksAlone s new.file.items new.name.now files marked × KeepsJobs keeper jobs marked h
  marked_then (Ok x) n keeper jobs files g h apart came sets still both =
      let w = holds_written new n s'.sender.counted keeper jobs files g h apart sets both in
      (w.0, (s', came, w.1), w.2)
  marked_then (Err e) n keeper jobs files g h apart came sets still (marked, marks, keeps) = (marked, alone files marked marks.file, still_keeps keeper jobs marked g h keeps still)

-- WHAT IS LEFT OF WHAT CAME

module _ (kept : Result (Unit {0}) CommandFault) (keeper : JobWriter) (last s' : Contending) (marked g made : Option FileMap) (grows : keeper.file.place ≡ Growing)
    (k : KeepsJobs keeper last.receiver.jobs marked g) (still : OnErr kept (Discloses g made IsSame)) where
  rest_kept : (Well : Type 0) → Well → last ≡ s'
      → OnOk kept ((files : Option FileMap) → Well → KeepsJobs keeper s'.receiver.jobs files g → MakesJobFile s'.receiver.jobs keeper.file.into files made)
      → HasWhole last.receiver.jobs keeper.file.into marked made
  rest_kept Well well same makes =
      has_rest kept keeper last.receiver.jobs marked g made grows k
      (on_ok_weaker kept
      (λ m. subst (λ (x : Contending). KeepsJobs keeper x.receiver.jobs marked g → MakesJobFile x.receiver.jobs keeper.file.into marked made) (sym same) (m marked well)) makes) still

  kept_then : (left : Result ReceiveEnd TransferError) → (IfErr left (λ broken. IsOfFile broken → ⊥) → last ≡ s')
      → OnOk kept ((files : Option FileMap) → IfErr left (λ broken. IsOfFile broken → ⊥) → KeepsJobs keeper s'.receiver.jobs files g → MakesJobFile s'.receiver.jobs keeper.file.into files made)
      → IfErr left (λ broken. IsOfFile broken → Discloses g made IsSame) → HasWhole last.receiver.jobs keeper.file.into marked made
  kept_then (Ok l) same makes refused = rest_kept _ tt (same tt) makes
  kept_then (Err (TransferError.Line e)) same makes refused = rest_kept _ (λ never. never) (same (λ never. never)) makes
  kept_then (Err (TransferError.File e)) same makes refused = has_kept keeper last.receiver.jobs marked made grows (still_keeps keeper last.receiver.jobs marked g made k (refused tt))

-- both
pub leaves_both : {X : Type 0} (most : ℕ) (left : Result ReceiveEnd TransferError) (written : Result X CommandFault) (kept : Result (Unit {0}) CommandFault) (t u : LineTells) (s s' : Contending) (was is : HeldSoFar)
    (h made : Option FileMap) → IfOk left (λ l. ExchangesTo most l s t s' u)
    → OnOk left (GoesOnHolding was is (progress_of s) (progress_of s')) → IfErr left (BreaksBoth s s' was is)
    → (is.0.marked ≡ was.0.marked) ⊎ HasCounted s is.0.marked
    → OnOk written (MarksSent is.0.file.items s'.sender.counted is.0.name.now is.2 h) → OnErr written (Discloses is.2 h IsSame)
    → OnOk kept ((files : Option FileMap) → IfErr left (λ broken. IsOfFile broken → ⊥) → KeepsJobs is.1 s'.receiver.jobs files h → MakesJobFile s'.receiver.jobs is.1.file.into files made)
    → IfErr left (λ broken. IsOfFile broken → Discloses h made IsSame) → OnErr kept (Discloses h made IsSame)
    → was.0.marked ≡ s.sender.counted → was.1.file.place ≡ Growing → was.0.name.now ≢ was.1.file.into.jobs.now
    → (files : Option FileMap) → HoldsBoth was.0 s.sender.counted was.1 s.receiver.jobs files was.2 → LeavesBoth s was.0.file.items was.0.name.now was.1.file.into files made
leaves_both most left written kept t u s s' was is h made exchanges holding breaks count sets stays makes refused still start grows two files had =
    let on = held most left t u s s' was is exchanges holding breaks in
    let apart : is.0.name.now ≢ is.1.file.into.jobs.now = λ e. two (sym (ap (λ (x : _). x.now) on.holds.name) ∙ e ∙ ap (λ (x : KeptFile). x.into.jobs.now) on.holds.own) in
    let m = marked_then s s' was.0 is.0 count start written on.counted is.1 on.last.receiver.jobs files is.2 h apart on.ended sets stays (on.holds.holds two files had) in
    record {
      marked = m.0;
      marks = subst (λ (bytes : _). MarksAlone s bytes.items was.0.name.now files m.0) on.holds.file (subst (λ (name : _). MarksAlone s is.0.file.items name.now files m.0) on.holds.name m.1);
      last = on.last;
      came = on.came;
      kept = subst (λ (x : KeptFile). HasWhole on.last.receiver.jobs x.into m.0 made) on.holds.own
          (kept_then kept is.1 on.last s' m.0 h made (ap (λ (x : KeptFile). x.place) on.holds.own ∙ grows) m.2 still left on.same makes refused);
    }
