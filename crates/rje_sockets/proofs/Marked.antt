-- What stays marked of the jobs of a sender as more are counted.
use Rattle.std.proofs.Common.{◌≡◌, inl, inr, ℕ, ◌+◌, List, set, true, Option, Some, Result, Ok, Err, OnOk, OnErr, IfErr, [], ◌⊎◌, refl, ap, sym, ◌∙◌, subst, arith}
use Rattle.std.proofs.lemmas.List.{length-set}
use Rattle.std.specs.List.{slice_get}
use Rattle.bsc_history.specs.History.{History}
use Rattle.rje_jobs.specs.declared.job.Job.{Job}
use Rattle.rje_files.specs.Marks.{AreMarks}
use Rattle.rje_files.specs.Unsent.{IsLeft, IsSentFile}
use Rattle.rje_station.specs.declared.station_fault.StationFault.{StationFault}
use Rattle.rje_station.specs.declared.station_fault.StationFault.TheVariants as fault
use Rattle.rje_station.specs.Sending.{Sending, after_refusal, after_speaking, first_sending}
use Rattle.line_world.specs.AnyLines.{SenderFails, SenderTook, SendsToFault}
use Rattle.rje_store.proofs.Changes.{byte_set, same_after, set_over}
use Rattle.rje_session.specs.Stations.{LineTells}
use Rattle.rje_sockets.specs.declared.sent_marker.SentMarker.{SentMarker}
use Rattle.rje_commands.specs.declared.command_fault.CommandFault.{CommandFault}
use Rattle.rje_commands.specs.Commands.{OfFile}
use Rattle.rje_sockets.specs.Ending.{MarksSent}
use Rattle.rje_sockets.specs.Inside.Sending.{IsOutgoing}
use Rattle.rje_sockets.specs.Marking.{MarksItsCount, MarksNoMore}
use Rattle.rje_sockets.specs.Inside.Marking.{GoesOnMarking, Marks, MarksCounted, WereCounted}
use Rattle.rje_sockets.specs.OverLine.{Sends}
use Rattle.rje_sockets.specs.Watching.{SawSender}
use Rattle.rje_store.specs.Store.{FileMap, Discloses, IsSame, SetsByte}
use Rattle.rje_commands.proofs.Inputs.{of_file}
use Rattle.rje_sockets.proofs.Watched.{sender_took}

-- the next mark
next_mark : (file places name : List ℕ) (n counted place : ℕ) (files g h : Option FileMap) → slice_get places n ≡ Some place → counted ≡ n + 1
    → Discloses g h (SetsByte name place 1) → AreMarks file places → MarksSent file n name files g → MarksSent file counted name files h
next_mark file places name n counted place files g h at one sets are (bytes, sent, few, had) = (
  set bytes place 1,
  subst (λ (k : ℕ). IsSentFile file k (set bytes place 1)) (sym one) (are n place bytes at sent).1,
  omega (arith, few, length-set bytes place 1),
  byte_set name bytes place 1 files g h had sets,
)

pub next_marked : {X E : Type 0} (r : Result X E) (file places name : List ℕ) (n counted place : ℕ) (g h : Option FileMap) → slice_get places n ≡ Some place → counted ≡ n + 1
    → OnOk r (Discloses g h (SetsByte name place 1))
    → OnOk r ((files : Option FileMap) → AreMarks file places → MarksSent file n name files g → MarksSent file counted name files h)
next_marked (Err e) file places name n counted place g h at one sets = tt
next_marked (Ok x) file places name n counted place g h at one sets = λ files are marked. next_mark file places name n counted place files g h at one sets are marked

-- the whole file
pub written_over : (file name : List ℕ) (n counted : ℕ) (files g h : Option FileMap) → MarksSent file n name files g → MarksSent file counted name g h → MarksSent file counted name files h
written_over file name n counted files g h had (bytes, sent, few, sets) = (bytes, sent, few, set_over name had.0 bytes files g h had.3 sets)

pub whole_marked : {X E : Type 0} (r : Result X E) (file places name : List ℕ) (n counted : ℕ) (g h : Option FileMap) → OnOk r (MarksSent file counted name g h)
    → OnOk r ((files : Option FileMap) → AreMarks file places → MarksSent file n name files g → MarksSent file counted name files h)
whole_marked (Err e) file places name n counted g h sets = tt
whole_marked (Ok x) file places name n counted g h sets = λ files are marked. written_over file name n counted files g h marked sets

-- a mark that fails
pub stays : (file name : List ℕ) (n : ℕ) (files g h : Option FileMap) → Discloses g h IsSame → MarksSent file n name files g → MarksSent file n name files h
stays file name n files g h same (bytes, sent, few, sets) = (bytes, sent, few, same_after name bytes files g h sets same)

pub gives_up : (old : SentMarker) (counted more : ℕ) (g h : Option FileMap) → Discloses g h IsSame → GoesOnMarking old (record old { gave_up = true }) counted more g h
gives_up old counted more g h same = (
  refl,
  refl,
  λ files m. record {
    places = m.places;
    all = λ never. cc;
    file = stays old.file.items old.name.now old.marked files g h same m.file;
  },
)

-- a mark that was made
pub marks_more : (old : SentMarker) (counted more : ℕ) (g h : Option FileMap)
    → ((files : Option FileMap) → AreMarks old.file.items old.places.items → MarksSent old.file.items old.marked old.name.now files g → MarksSent old.file.items more old.name.now files h)
    → GoesOnMarking old (record old { marked = more }) counted more g h
marks_more old counted more g h marked = (refl, refl, λ files m. record { places = m.places; all = λ goes_on. refl; file = marked files m.places m.file })

-- ONE AFTER ANOTHER

pub marks_nothing : (marker : SentMarker) (counted : ℕ) (f : Option FileMap) → GoesOnMarking marker marker counted counted f f
marks_nothing marker counted f = (refl, refl, λ files m. m)

pub marks_on : (first old new : SentMarker) (start counted more : ℕ) (f g h : Option FileMap) → GoesOnMarking first old start counted f g → GoesOnMarking old new counted more g h
    → GoesOnMarking first new start more f h
marks_on first old new start counted more f g h p q = (q.0 ∙ p.0, q.1 ∙ p.1, λ files m. q.2 files (p.2 files m))

-- THE END

pub all_marked : (old new : SentMarker) (start counted : ℕ) (f g h : Option FileMap) → GoesOnMarking old new start counted f g
    → MarksSent new.file.items counted new.name.now g h
    → (files : Option FileMap) → Marks old start files f → MarksSent old.file.items counted old.name.now files h
all_marked old new start counted f g h (name, file, on) sets files m =
    subst (λ (bytes : _). MarksSent bytes.items counted old.name.now files h) file
    (subst (λ (n : _). MarksSent new.file.items counted n.now files h) name
    (written_over new.file.items new.name.now new.marked counted files g h (on files m).file sets))

-- a marker whose copy is in place, and that has marked nothing yet
pub nothing_marked : (marker : SentMarker) (counted : ℕ) (f g : Option FileMap) → marker.marked ≡ 0 → counted ≡ 0 → AreMarks marker.file.items marker.places.items
    → MarksSent marker.file.items 0 marker.name.now f g → Marks marker counted f g
nothing_marked marker counted f g none zero are copy = record {
  places = are;
  all = λ goes_on. none ∙ sym zero;
  file = subst (λ (n : ℕ). MarksSent marker.file.items n marker.name.now f g) (sym none) copy;
}

-- a transmission that it begins
pub begun : {X E : Type 0} (r : Result X E) (marker : SentMarker) (name : List ℕ) (start counted : ℕ) (f g h : Option FileMap) → marker.name.now ≡ name → marker.marked ≡ 0 → start ≡ 0
    → AreMarks marker.file.items marker.places.items → MarksSent marker.file.items 0 marker.name.now f g
    → OnOk r ((files : Option FileMap) → Marks marker start files g → MarksSent marker.file.items counted marker.name.now files h)
    → OnOk r (MarksSent marker.file.items counted name f h)
begun (Err e) marker name start counted f g h of none zero are copy on = tt
begun (Ok x) marker name start counted f g h of none zero are copy on =
    subst (λ (n : List ℕ). MarksSent marker.file.items counted n f h) of (on f (nothing_marked marker start f g none zero are copy))

-- WHAT IS MARKED WAS COUNTED, whatever ends the transmission

-- turn by turn
pub counts_on : (s near : Sending) (start had has : ℕ) → (h : History) × SenderTook s h near → (had ≡ start) ⊎ WereCounted s had → (has ≡ had) ⊎ (has ≡ near.counted) → (has ≡ start) ⊎ WereCounted s has
counts_on s near start had has took before (inl same) = subst (λ (n : ℕ). (n ≡ start) ⊎ WereCounted s n) (sym same) before
counts_on s near start had has (h, took) before (inr new) = inr (h, near, took, sym new)

-- a fault leaves the count
refused_count : (f : StationFault) (s : Sending) → (after_refusal f s).counted ≡ s.counted
refused_count fault.Over s = refl
refused_count fault.OutOfMemory s = refl
refused_count (fault.BadJob n) s = refl
refused_count fault.Babble s = refl
refused_count (fault.Line f) s = refl

failed_count : (near s' : Sending) (f : StationFault) → SenderFails near s' f → s'.counted ≡ near.counted
failed_count near s' f (inl e) = ap (λ x. x.counted) e ∙ refused_count f near
failed_count near s' f (inr e) = ap (λ x. x.counted) e ∙ refused_count f (after_speaking near)

pub counted_over : {W : Type 0} (Saw : SawSender W) (was is : Sending × LineTells × W) → Sends Saw was is → WereCounted was.0 is.0.counted
counted_over Saw was is (h, took, through) = (h, is.0, sender_took Saw was is h took, refl)

ended_count : {X : Type 0} (sent : Result X StationFault) (s s' : Sending) → OnOk sent (WereCounted s s'.counted) → IfErr sent (SendsToFault s s') → WereCounted s s'.counted
ended_count (Ok x) s s' counted fails = counted
ended_count (Err f) s s' ends (h, near, took, fails) = (h, near, took, sym (failed_count near s' f fails))

-- at the end the whole file is written, or it stays
marked_so_far : (s : Sending) (had has : ℕ) → had ≡ s.counted → (has ≡ had) ⊎ WereCounted s has → WereCounted s has
marked_so_far s had has new (inl same) = ([], s, refl, sym (same ∙ new))
marked_so_far s had has new (inr counted) = counted

at_end : {Y : Type 0} (written : Result Y CommandFault) (old new : SentMarker) (s s' : Sending) (n : ℕ) (f g h : Option FileMap) → GoesOnMarking old new s.counted n f g
    → (new.marked ≡ old.marked) ⊎ WereCounted s new.marked → WereCounted s s'.counted
    → OnOk written (MarksSent new.file.items s'.counted new.name.now g h) → OnErr written (Discloses g h IsSame)
    → (files : Option FileMap) → old.marked ≡ s.counted → Marks old s.counted files f → MarksCounted s new.file.items new.name.now files h
at_end (Ok y) old new s s' n f g h on count ended sets same files start m =
    (s'.counted, ended, written_over new.file.items new.name.now new.marked s'.counted files g h (on.2 files m).file sets)
at_end (Err e) old new s s' n f g h on count ended sets same files start m =
    (new.marked, marked_so_far s old.marked new.marked start count, stays new.file.items new.name.now new.marked files g h same (on.2 files m).file)

some_count : {X : Type 0} (sent : Result X StationFault) (old new : SentMarker) (s s' : Sending) (f g : Option FileMap) → OnOk sent (GoesOnMarking old new s.counted s'.counted f g)
    → OnErr sent ((n : ℕ) × GoesOnMarking old new s.counted n f g) → (n : ℕ) × GoesOnMarking old new s.counted n f g
some_count (Ok x) old new s s' f g on broken = (s'.counted, on)
some_count (Err e) old new s s' f g on broken = broken

pub counted_alone : {X Y : Type 0} (sent : Result X StationFault) (written : Result Y CommandFault) (old new : SentMarker) (s s' : Sending) (f g h : Option FileMap)
    → OnOk sent (GoesOnMarking old new s.counted s'.counted f g) → OnErr sent ((n : ℕ) × GoesOnMarking old new s.counted n f g)
    → (new.marked ≡ old.marked) ⊎ WereCounted s new.marked → OnOk sent (WereCounted s s'.counted) → IfErr sent (SendsToFault s s')
    → OnOk written (MarksSent new.file.items s'.counted new.name.now g h) → OnErr written (Discloses g h IsSame)
    → (files : Option FileMap) → old.marked ≡ s.counted → Marks old s.counted files f → MarksCounted s old.file.items old.name.now files h
counted_alone sent written old new s s' f g h marked broken count ends fails sets same files start m =
    let some = some_count sent old new s s' f g marked broken in
    let on = some.1 in
    subst (λ (bytes : _). MarksCounted s bytes.items old.name.now files h) on.1
    (subst (λ (n : _). MarksCounted s new.file.items n.now files h) on.0
    (at_end written old new s s' some.0 f g h on count (ended_count sent s s' ends fails) sets same files start m))

-- a transmission of what was left of a file, that a marker begins that has marked nothing
counts_of : (name file : List ℕ) (jobs : List Job) (f h : Option FileMap) → OfFile name f (λ read. file ≡ read) → IsLeft file jobs
    → MarksCounted (first_sending jobs) file name f h → OfFile name f (λ file. MarksItsCount name file f h)
counts_of name file jobs f h read left (n, (history, near, took, is), marks) = of_file (λ read. _) file (record {
  entries = left.0;
  history = history;
  station = near;
  file_is = left.1;
  took = subst (λ js. SenderTook (first_sending js) history near) left.3 took;
  marks = subst (λ (k : ℕ). MarksSent file k name f h) (sym is) marks;
}) name f read

pub begun_counts : (Unsaid : Type 0) (name : List ℕ) (jobs : List Job) (marker : SentMarker) (s : Sending) (f g h : Option FileMap) → IsOutgoing name f jobs marker
    → MarksSent marker.file.items 0 marker.name.now f g → s ≡ first_sending jobs
    → ((files : Option FileMap) → marker.marked ≡ s.counted → Marks marker s.counted files g → MarksCounted s marker.file.items marker.name.now files h)
    → MarksNoMore Unsaid name f h
begun_counts Unsaid name jobs marker s f g h out copy first on =
    let zero : s.counted ≡ 0 = ap (λ x. x.counted) first in
    let counts : MarksCounted s marker.file.items marker.name.now f h = on f (out.none ∙ sym zero) (nothing_marked marker s.counted f g out.none zero out.marks copy) in
    inr (counts_of name marker.file.items jobs f h out.read out.left
    (subst (λ (x : Sending). MarksCounted x marker.file.items name f h) first
    (subst (λ (n : List ℕ). MarksCounted s marker.file.items n f h) out.named counts)))
