-- What a transmission each way made of its two files, from what was read before it.
use Rattle.std.proofs.Common.{◌≡◌, ◌⊎◌, ℕ, List, [], ◌++◌, ap₂, Option, Some, None, Result, Ok, Err, IfErr, IfOk, OnOk, length, refl, ap, sym, ◌∙◌, subst, inl, inr}
use Rattle.std.specs.Prelude.{◌≢◌, IfSome}
use Rattle.std.specs.Option.{IsSomeAnd}
use Rattle.std.specs.Result.{IsOkAnd, MatchResult, is_ok, result_and}
use Rattle.std.specs.Io.KnownBytes.{Appends}
use Rattle.std.proofs.lemmas.List.{append-nil, append_assoc, length-map}
use Rattle.bsc_link.specs.declared.rank.Rank.{Rank}
use Rattle.rje_jobs.specs.declared.job.Job.{Job}
use Rattle.rje_files.specs.declared.entry.Entry.{Entry}
use Rattle.rje_files.specs.Entry.{jobs_in}
use Rattle.rje_files.specs.JobFile.{HasEntries}
use Rattle.rje_files.specs.Marks.{AreMarks}
use Rattle.rje_files.specs.Unsent.{IsLeft, unsent}
use Rattle.rje_station.specs.Sending.{outcome_of}
use Rattle.rje_station.specs.Station.{Contending, first_contending}
use Rattle.rje_commands.specs.declared.command_fault.CommandFault.{CommandFault}
use Rattle.rje_commands.specs.CommandFault.{IsFailing, status_of}
use Rattle.rje_commands.specs.Commands.{OfFile}
use Rattle.rje_commands.proofs.Inputs.{of_file}
use Rattle.rje_session.specs.Stations.{LineTells}
use Rattle.rje_sockets.specs.declared.transfer_error.TransferError.{TransferError}
use Rattle.rje_sockets.specs.declared.receive_end.ReceiveEnd.{ReceiveEnd}
use Rattle.rje_requests.specs.declared.order.Destination.{Destination}
use Rattle.rje_sockets.specs.declared.job_writer.JobWriter.{JobWriter}
use Rattle.rje_sockets.specs.declared.kept_file.KeptFile.{KeptFile}
use Rattle.rje_sockets.specs.declared.sent_marker.SentMarker.{SentMarker}
use Rattle.rje_sockets.specs.declared.socket_commands.ending.Ending.{Ending}
use Rattle.rje_sockets.specs.BothWays.{ExchangesTo}
use Rattle.rje_sockets.specs.Ending.{MakesJobFile, MarksSent}
use Rattle.rje_sockets.specs.Exchanging.{ExchangesLeft, MakesBoth, ending_of_both, exchanged_text, is_idle}
use Rattle.rje_sockets.specs.InFront.{LooksInto}
use Rattle.rje_sockets.specs.Inside.Sending.{IsExchangeFault, IsOutgoing, IsSendFault}
use Rattle.rje_sockets.specs.LeavingBoth.{LeavesBoth, LeavesExchange}
use Rattle.rje_sockets.specs.Inside.Keeping.{IsOfFile, KeepsJobs}
use Rattle.rje_sockets.specs.Inside.Opening.{IsDestinationFault, IsOpened}
use Rattle.rje_sockets.specs.Inside.BreakingOff.{of_broken_off}
use Rattle.rje_sockets.specs.Inside.BothFiles.{GoesOnHolding, HeldSoFar, HoldsBoth, Progress, progress_of, Exchanges}
use Rattle.rje_sockets.proofs.BothFiles.{holds_written}
use Rattle.rje_sockets.proofs.Growing.{none_kept}
use Rattle.rje_sockets.proofs.InFront.{left_alone, opened_as}
use Rattle.rje_sockets.proofs.Marked.{nothing_marked}
use Rattle.rje_sockets.proofs.NamedFiles.{names_more}
use Rattle.rje_store.proofs.Changes.{same_itself}
use Rattle.rje_store.specs.declared.store.WriteMode.TheVariants.{Growing}
use Rattle.rje_store.specs.Store.{FileMap, Discloses, IsSame}

-- what is marked at the end, and what is kept then
pub makes_both : (was is : HeldSoFar) (had : Progress) (s : Contending) (g h : Option FileMap) → GoesOnHolding was is had (progress_of s)
    → MarksSent is.0.file.items s.sender.counted is.0.name.now is.2 g
    → ((files : Option FileMap) → KeepsJobs is.1 s.receiver.jobs files g → MakesJobFile s.receiver.jobs is.1.file.into files h)
    → was.0.name.now ≢ was.1.file.into.jobs.now → (files : Option FileMap) → HoldsBoth was.0 had.0 was.1 had.1 files was.2 → MakesBoth was.0.file.items s was.0.name.now was.1.file.into files h
makes_both was is had s g h on sets makes two files held =
    let n = s.sender.counted in
    let later = s.receiver.jobs in
    let apart : is.0.name.now ≢ is.1.file.into.jobs.now = λ e. two (sym (ap (λ (x : _). x.now) on.name) ∙ e ∙ ap (λ (x : KeptFile). x.into.jobs.now) on.own) in
    let written = holds_written is.0 n n is.1 later files is.2 g apart sets (on.holds two files held) in (
      written.0,
      subst (λ (bytes : _). MarksSent bytes.items n was.0.name.now files written.0) on.file (subst (λ (name : _). MarksSent is.0.file.items n name.now files written.0) on.name written.1),
      subst (λ (x : KeptFile). MakesJobFile later x.into written.0 h) on.own (makes written.0 written.2),
    )

-- a transmission each way that nothing ended but itself
pub all_exchanged : (most : ℕ) (left : Result ReceiveEnd TransferError) (marked kept printed : Result (Unit {0}) CommandFault) (t u : LineTells) (s station : Contending) (was is : HeldSoFar) (g h : Option FileMap)
    (had has : Option (List ℕ)) (text : List ℕ) → IfOk left (λ l. ExchangesTo most l s t station u)
    → OnOk left (GoesOnHolding was is (progress_of s) (progress_of station))
    → OnOk marked (MarksSent is.0.file.items station.sender.counted is.0.name.now is.2 g)
    → OnOk kept ((files : Option FileMap) → IfErr left (λ broken. IsOfFile broken → ⊥) → KeepsJobs is.1 station.receiver.jobs files g → MakesJobFile station.receiver.jobs is.1.file.into files h)
    → OnOk printed (Appends had has text) → text ≡ exchanged_text station.sender.counted (length s.sender.jobs) (outcome_of station.sender) station.receiver.jobs
    → IfOk left (λ l. OnOk (result_and marked kept) (OnOk printed (Exchanges (ending_of_both (outcome_of station.sender) (is_idle (length s.sender.jobs) station.receiver.jobs) l) most s (was.0, was.1) (t, was.2, had) (u, h, has))))
all_exchanged most (Err b) marked kept printed t u s station was is g h had has text exchanges holds sets keeps prints says = tt
all_exchanged most (Ok l) (Err e) kept printed t u s station was is g h had has text exchanges holds sets keeps prints says = tt
all_exchanged most (Ok l) (Ok m) (Err e) printed t u s station was is g h had has text exchanges holds sets keeps prints says = tt
all_exchanged most (Ok l) (Ok m) (Ok k) (Err e) t u s station was is g h had has text exchanges holds sets keeps prints says = tt
all_exchanged most (Ok l) (Ok m) (Ok k) (Ok p) t u s station was is g h had has text exchanges holds sets keeps prints says = record {
  left = l;
  station = station;
  exchanges = exchanges;
  makes = makes_both was is (progress_of s) station g h holds sets (λ files. keeps files tt);
  ending_is = refl;
  text_is = subst (Appends had has) says prints;
}

-- and one that something ended: it is a line, a file or an output that failed, or memory
pub exchange_fails : (r : Result Ending CommandFault) (so : Result ReceiveEnd CommandFault) (left : Result ReceiveEnd TransferError) (marked kept printed : Result (Unit {0}) CommandFault) (ending_by : ReceiveEnd → Ending) (old new : SentMarker)
    → new.file ≡ old.file
    → (IfErr left (λ broken. IsFailing (status_of (of_broken_off broken))) → IfErr (result_and marked kept) (λ fault. IsFailing (status_of fault)) → IfErr printed (λ fault. IsFailing (status_of fault))
    → IfErr so (λ fault. IsFailing (status_of fault)))
    → MatchResult so (λ l. IsOkAnd r (λ ending. ending ≡ ending_by l)) (λ e. r ≡ Err e) → is_ok r ≡ is_ok so
    → IfErr left (λ broken. IsFailing (status_of (of_broken_off broken))) → IfErr marked (λ fault. (jobs : List Job) → IsLeft new.file.items jobs → IsFailing (status_of fault))
    → IfErr kept (λ fault. IsFailing (status_of fault)) → IfErr printed (λ fault. IsFailing (status_of fault))
    → IfErr r (λ fault. (jobs : List Job) → IsLeft old.file.items jobs → IsFailing (status_of fault))
exchange_fails (Ok ending) so left marked kept printed ending_by old new file fails told same breaks unmarked lost unprinted = tt
exchange_fails (Err e) (Ok l) left marked kept printed ending_by old new file fails told same breaks unmarked lost unprinted = absurd told
exchange_fails (Err e) (Err x) left marked kept printed ending_by old new file fails told same breaks unmarked lost unprinted = λ jobs is_left.
    subst (λ (r : Result Ending CommandFault). IfErr r (λ fault. IsFailing (status_of fault))) (sym told) (fails breaks (either marked kept jobs is_left unmarked lost) unprinted) where
      either : (marked kept : Result (Unit {0}) CommandFault) (jobs : List Job) → IsLeft old.file.items jobs → IfErr marked (λ fault. (jobs : List Job) → IsLeft new.file.items jobs → IsFailing (status_of fault))
          → IfErr kept (λ fault. IsFailing (status_of fault)) → IfErr (result_and marked kept) (λ fault. IsFailing (status_of fault))
      either (Ok m) kept jobs is_left unmarked lost = lost
      either (Err m) kept jobs is_left unmarked lost = unmarked jobs (subst (λ (bytes : _). IsLeft bytes.items jobs) (sym file) is_left)

-- three lines, one after another
pub three_lines : (a b c one two three : List ℕ) → a ≡ one → b ≡ two → c ≡ three → a ++ (b ++ (c ++ [])) ≡ one ++ two ++ three
three_lines a b c one two three is also last = ap₂ ◌++◌ is (ap₂ ◌++◌ also (append-nil c ∙ last)) ∙ sym (append_assoc one two three)

-- a marker whose copy is in place, and a keeper, that have done nothing yet
holds_nothing : (marker : SentMarker) (counted : ℕ) (front : List Entry) (keeper : JobWriter) (jobs : List Job) (f g : Option FileMap) → marker.marked ≡ 0 → counted ≡ 0
    → AreMarks marker.file.items marker.places.items → MarksSent marker.file.items 0 marker.name.now f g → marker.name.now ≢ keeper.file.into.jobs.now → IsOpened front keeper.file f
    → keeper.kept ≡ 0 → jobs ≡ [] → HoldsBoth marker counted keeper jobs f g
holds_nothing marker counted front keeper jobs f g none zero are copy two opened kept empty =
    let so = marked f g copy opened in
    (so.0, nothing_marked marker counted f so.0 none zero are so.1, subst (λ (js : List Job). KeepsJobs keeper js so.0 g) (sym empty) (none_kept keeper front so.0 g so.2 kept so.3)) where
      marked : (f g : Option FileMap) → MarksSent marker.file.items 0 marker.name.now f g → IsOpened front keeper.file f
          → (m : Option FileMap) × MarksSent marker.file.items 0 marker.name.now f m × IsOpened front keeper.file m × Discloses m g IsSame
      marked None g (bytes, is, few, t) opened = (None, (bytes, is, few, tt), opened, tt)
      marked (Some f) None (bytes, is, few, never) opened = absurd never
      marked (Some f) (Some g) (bytes, is, few, sets) opened =
          (Some g, (bytes, is, few, sets), opened_as front keeper.file f g (left_alone marker.name.now keeper.file.into.jobs.now bytes f g two sets) opened, same_itself (Some g))

pub exchanges_left : (r : Result Ending CommandFault) (t u : LineTells) (rank : Rank) (most : ℕ) (send : List ℕ) (into : Destination) (jobs : List Job) (s : Contending) (marker : SentMarker) (front : List Entry) (keeper : JobWriter)
    (f g h : Option FileMap) (before after : Option (List ℕ))
    → IsOutgoing send f jobs marker → MarksSent marker.file.items 0 marker.name.now f g → s ≡ first_contending rank jobs
    → keeper.file.into ≡ into → keeper.kept ≡ 0 → IsOpened front keeper.file f → send ≢ into.jobs.now
    → IfOk r (λ ending. Exchanges ending most s (marker, keeper) (t, g, before) (u, h, after))
    → IfOk r (λ ending. ExchangesLeft ending (rank, most) send into (t, f, before) (u, h, after))
exchanges_left (Err fault) t u rank most send into jobs s marker front keeper f g h before after out copy first called kept opened two done = tt
exchanges_left (Ok ending) t u rank most send into jobs s marker front keeper f g h before after out copy first called kept opened two done =
    let file = marker.file.items in
    let left = out.left in
    let given : length jobs ≡ length (unsent left.0) = ap length left.3 ∙ length-map (unsent left.0) (λ e. e.job) in
    let all : length s.sender.jobs ≡ length (unsent left.0) = ap (λ (x : Contending). length x.sender.jobs) first ∙ given in
    let apart : marker.name.now ≢ keeper.file.into.jobs.now = λ e. two (sym out.named ∙ e ∙ ap (λ (x : Destination). x.jobs.now) called) in
    let had = holds_nothing marker s.sender.counted front keeper s.receiver.jobs f g out.none (ap (λ (x : Contending). x.sender.counted) first) out.marks copy apart opened kept
    (ap (λ (x : Contending). x.receiver.jobs) first) in
    let makes = done.makes apart f had in
    record {
      file = file;
      entries = left.0;
      left = done.left;
      station = done.station;
      read = out.read;
      file_is = left.1;
      exchanges = subst (λ (x : Contending). ExchangesTo most done.left x t done.station u) (first ∙ ap (first_contending rank) left.3) done.exchanges;
      makes = subst (λ (n : List ℕ). MakesBoth file done.station n into f h) out.named
          (subst (λ (x : Destination). MakesBoth file done.station marker.name.now x f h) called makes);
      ending_is = subst (λ (n : ℕ). ending ≡ ending_of_both (outcome_of done.station.sender) (is_idle n done.station.receiver.jobs) done.left) all done.ending_is;
      text_is = subst (λ (n : ℕ). Appends before after (exchanged_text done.station.sender.counted n (outcome_of done.station.sender) done.station.receiver.jobs)) all done.text_is;
    }

-- WHATEVER ENDS IT

so_known : (P Q : Type 0) (f : Option FileMap) → (P → Q) → IfSome f (λ _. P) → IfSome f (λ _. Q)
so_known P Q None then known = tt
so_known P Q (Some f) then known = then known

pub leaves_so : (Unsaid : Type 0) (rank : Rank) (send : List ℕ) (into : Destination) (jobs : List Job) (s : Contending) (marker : SentMarker) (front : List Entry) (keeper : JobWriter) (f g h : Option FileMap)
    → IsOutgoing send f jobs marker → MarksSent marker.file.items 0 marker.name.now f g → s ≡ first_contending rank jobs
    → keeper.file.into ≡ into → keeper.kept ≡ 0 → IsOpened front keeper.file f → send ≢ into.jobs.now
    → (marker.marked ≡ s.sender.counted → keeper.file.place ≡ Growing → marker.name.now ≢ keeper.file.into.jobs.now → (files : Option FileMap)
    → HoldsBoth marker s.sender.counted keeper s.receiver.jobs files g → LeavesBoth s marker.file.items marker.name.now keeper.file.into files h)
    → IfSome f (λ _. LeavesExchange Unsaid rank send into f h)
leaves_so Unsaid rank send into jobs s marker front keeper f g h out copy first called kept opened two leaves =
    let left = out.left in
    let zero : s.sender.counted ≡ 0 = ap (λ (x : Contending). x.sender.counted) first in
    let apart : marker.name.now ≢ keeper.file.into.jobs.now = λ e. two (sym out.named ∙ e ∙ ap (λ (x : Destination). x.jobs.now) called) in
    let had = holds_nothing marker s.sender.counted front keeper s.receiver.jobs f g out.none zero out.marks copy apart opened kept (ap (λ (x : Contending). x.receiver.jobs) first) in
    so_known (keeper.file.place ≡ Growing) (LeavesExchange Unsaid rank send into f h) f (λ (growing : keeper.file.place ≡ Growing).
    let both = leaves (out.none ∙ sym zero) growing apart f had in
    inr (of_file (λ file. (entries : List Entry) × HasEntries entries file × LeavesBoth (first_contending rank (jobs_in (unsent entries))) file send into f h) marker.file.items (
      left.0,
      left.1,
      subst (λ (x : Contending). LeavesBoth x marker.file.items send into f h) (first ∙ ap (first_contending rank) left.3)
          (subst (λ (n : List ℕ). LeavesBoth s marker.file.items n into f h) out.named (subst (λ (x : Destination). LeavesBoth s marker.file.items marker.name.now x f h) called both)),
    ) send f out.read)) opened.grows

-- a file that was read after others were looked at
file_before : (P : List ℕ → Type 0) (name : List ℕ) (f g : Option FileMap) → Discloses f g IsSame → OfFile name g P → OfFile name f P
file_before P name None g same read = tt
file_before P name (Some f) None same read = absurd same
file_before P name (Some f) (Some g) same read = subst (λ (known : Option (List ℕ)). IsSomeAnd known P) (same name) read

pub outgoing_before : (name : List ℕ) (f g : Option FileMap) (jobs : List Job) (marker : SentMarker) → Discloses f g IsSame → IsOutgoing name g jobs marker → IsOutgoing name f jobs marker
outgoing_before name f g jobs marker same out = record {
  read = file_before (λ read. marker.file.items ≡ read) name f g same out.read;
  left = out.left;
  marks = out.marks;
  named = out.named;
  none = out.none;
}

-- WHY IT ISN'T EXCHANGED

-- what is sent isn't
pub send_fault_of : (send : List ℕ) (into : Destination) (W : List ℕ → Type 0) (f g : Option FileMap) (fault : CommandFault) → ((n : List ℕ) → W n → n ≡ send) → Discloses f g IsSame
    → IsSendFault W send g fault → IsExchangeFault send into f fault
send_fault_of send into W f g fault writes same (inl (fails, names)) =
    inl (fails, names_more (λ n. n ≡ send) (λ n. (n ≡ send) ⊎ LooksInto into n) W (λ n. (n ≡ send) ⊎ (n ≡ into.jobs.now)) (λ n e. inl e) (λ n w. inl (writes n w)) fault names)
send_fault_of send into W f g fault writes same (inr (file, is, read)) = inr (inl (file, is, file_before (λ read. file ≡ read) send f g same read))

-- what comes isn't received
pub destination_fault_of : (send : List ℕ) (into : Destination) (f g : Option FileMap) (fault : CommandFault) → Discloses f g IsSame → IsDestinationFault into g fault → IsExchangeFault send into f fault
destination_fault_of send into f g fault same (inl (fails, names)) =
    inl (fails, names_more (LooksInto into) (λ n. (n ≡ send) ⊎ LooksInto into n) (λ n. n ≡ into.jobs.now) (λ n. (n ≡ send) ⊎ (n ≡ into.jobs.now)) (λ n e. inr e) (λ n e. inr e) fault names)
destination_fault_of send into f g fault same (inr (file, is, read)) = inr (inr (file, is, file_before (λ read. file ≡ read) into.jobs.now f g same read))
