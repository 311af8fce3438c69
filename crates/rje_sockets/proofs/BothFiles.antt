-- What is marked in one file and kept in another goes on by each turn.
use Rattle.std.proofs.Common.{◌≡◌, inl, ℕ, Bool, true, false, List, [], ◌∷◌, take, Option, Some, None, if◌then◌else◌, refl, ap, sym, ◌∙◌, subst}
use Rattle.std.proofs.lemmas.Slice.Eq.{bytes_eq-Decides}
use Rattle.std.specs.Prelude.{◌≢◌, bytes_eq}
use Rattle.bsc_frame.specs.declared.heard.Heard.{Heard}
use Rattle.bsc_link.specs.declared.rank.Rank.{Rank}
use Rattle.bsc_link.specs.declared.reply.Reply.{Reply}
use Rattle.bsc_link.specs.declared.say.Say.{Say}
use Rattle.bsc_link.specs.declared.sound.Sound.{Sound}
use Rattle.bsc_link.specs.declared.wish.Wish.{Wish}
use Rattle.bsc_link.specs.Receiver.{receiver_news}
use Rattle.rje_jobs.specs.declared.job.Job.{Job}
use Rattle.rje_station.specs.declared.arrival.Arrival.{Arrival}
use Rattle.rje_station.specs.declared.line_fault.LineFault.TheVariants.{Closed}
use Rattle.rje_station.specs.declared.station_fault.StationFault.{StationFault}
use Rattle.rje_station.specs.declared.station_fault.StationFault.TheVariants as fault
use Rattle.rje_station.specs.Hearing.{sound_heard}
use Rattle.rje_station.specs.Receiving.{Receiving, sound_taken}
use Rattle.rje_station.specs.Sending.{Sending}
use Rattle.rje_station.specs.Station.{Contending, after_other, after_other_ended, after_other_refusal, after_own_reply, gives_way, lets_in}
use Rattle.rje_session.specs.Stations.{FailsInOwn, TakesOthers, TakesOwn, after_answering_other}
use Rattle.rje_session.proofs.Keeps.{refused_jobs}
use Rattle.rje_session.proofs.Places.{fault_receiver, own_receiver}
use Rattle.rje_sockets.specs.declared.transfer_error.TransferError.{TransferError}
use Rattle.rje_files.specs.declared.entry.Entry.{Entry}
use Rattle.rje_sockets.specs.declared.job_writer.JobWriter.{JobWriter}
use Rattle.rje_sockets.specs.declared.kept_file.KeptFile.{KeptFile}
use Rattle.rje_sockets.proofs.InFront.{left_alone, opened_as, opened_untold}
use Rattle.rje_sockets.specs.declared.sent_marker.SentMarker.{SentMarker}
use Rattle.rje_sockets.specs.BothWays.{FailsInOthers, StationTurn, Took}
use Rattle.rje_sockets.specs.Ending.{MarksSent}
use Rattle.rje_sockets.specs.Inside.Marking.{GoesOnMarking, Marks}
use Rattle.rje_sockets.specs.Inside.Keeping.{AreKept, GoesOnKeeping, KeepsJobs, kept_after}
use Rattle.rje_sockets.specs.Inside.BothFiles.{BreaksBoth, GoesOnHolding, HeldSoFar, HoldsBoth, Progress, kept_of, progress_of}
use Rattle.rje_sockets.specs.Inside.Opening.{HasFront, IsOpened}
use Rattle.rje_sockets.proofs.BothWays.{others_fail}
use Rattle.rje_sockets.proofs.Keeping.{Comes, goes_on, heard_comes, nothing}
use Rattle.rje_sockets.proofs.Marked.{stays, written_over}
use Rattle.rje_store.proofs.Changes.{same_itself}
use Rattle.rje_store.specs.Store.{FileMap, Sets}

-- TWO NAMES

-- of two names no third one is both
not_both : (sent own other : List ℕ) → sent ≢ own → bytes_eq other sent ≡ true → bytes_eq other own ≡ true → ⊥
not_both sent own other two is is' = two (sym ((bytes_eq-Decides other sent).0 is) ∙ (bytes_eq-Decides other own).0 is')

swapped : (s r : Bool) (b c o : Option (List ℕ)) → (s ≡ true → r ≡ true → ⊥) → (if r then c else (if s then b else o)) ≡ (if s then b else (if r then c else o))
swapped true true b c o not = absurd (not refl refl)
swapped true false b c o not = refl
swapped false true b c o not = refl
swapped false false b c o not = refl

-- the files with these bytes under a name
abbrev with_bytes : (own bytes : List ℕ) → FileMap → FileMap
with_bytes own bytes f = λ other. if bytes_eq other own then Some bytes else f other

-- the files with what others have under a name
abbrev as_in : (own : List ℕ) → (f n : FileMap) → FileMap
as_in own f n = λ other. if bytes_eq other own then f other else n other

-- what is marked in the one file is marked also where the other one had been made before
marked_behind : (file sent own bytes : List ℕ) (n : ℕ) (f m g : FileMap) → sent ≢ own → Sets own bytes m g → MarksSent file n sent (Some f) (Some m) → MarksSent file n sent (Some (with_bytes own bytes f)) (Some g)
marked_behind file sent own bytes n f m g two sets (b, is, few, had) = (
  b,
  is,
  few,
  λ other. sets other ∙ ap (λ (o : Option (List ℕ)). if bytes_eq other own then Some bytes else o) (had other)
      ∙ swapped (bytes_eq other sent) (bytes_eq other own) (Some b) (Some bytes) (f other) (not_both sent own other two),
)

set_front : (s r : Bool) (a b o h : Option (List ℕ)) → (s ≡ true → r ≡ true → ⊥) → h ≡ (if s then a else (if r then b else o)) → (if r then o else h) ≡ (if s then a else o)
set_front true true a b o h not e = absurd (not refl refl)
set_front false true a b o h not e = refl
set_front true false a b o h not e = e
set_front false false a b o h not e = e

set_behind : (s r : Bool) (a b o h : Option (List ℕ)) → (s ≡ true → r ≡ true → ⊥) → h ≡ (if s then a else (if r then b else o)) → h ≡ (if r then b else (if r then o else h))
set_behind true true a b o h not e = absurd (not refl refl)
set_behind false true a b o h not e = e
set_behind true false a b o h not e = refl
set_behind false false a b o h not e = refl

-- and then as if it had been made behind the marks
sets_apart : (sent own bytes b : List ℕ) (f h : FileMap) → sent ≢ own → Sets sent b (with_bytes own bytes f) h → Sets sent b f (as_in own f h) × Sets own bytes (as_in own f h) h
sets_apart sent own bytes b f h two sets = (
  λ other. set_front (bytes_eq other sent) (bytes_eq other own) (Some b) (Some bytes) (f other) (h other) (not_both sent own other two) (sets other),
  λ other. set_behind (bytes_eq other sent) (bytes_eq other own) (Some b) (Some bytes) (f other) (h other) (not_both sent own other two) (sets other),
)

-- what is said of the files before and after a change of the one, and can be said as well where the other one is made behind it
record IsApart (own : List ℕ) (Q : Option FileMap → Option FileMap → Type 0) : Type 0 where
  leaves : (f h : FileMap) → Q (Some f) (Some h) → h own ≡ f own
  untold : (g : Option FileMap) → Q None g → Q None None
  told : (f : FileMap) → Q (Some f) None → ⊥
  apart : (bytes : List ℕ) (f h : FileMap) → Q (Some (with_bytes own bytes f)) (Some h) → Q (Some f) (Some (as_in own f h)) × Sets own bytes (as_in own f h) h

sent_apart : (file sent own : List ℕ) (n : ℕ) → sent ≢ own → IsApart own (λ f g. MarksSent file n sent f g)
sent_apart file sent own n two = record {
  leaves = λ f h (b, is, few, sets). left_alone sent own b f h two sets;
  untold = λ g (b, is, few, t). (b, is, few, tt);
  told = λ f (b, is, few, t). t;
  apart = λ bytes f h (b, is, few, sets). let a = sets_apart sent own bytes b f h two sets in ((b, is, few, a.0), a.1);
}

marks_apart : (marker : SentMarker) (own : List ℕ) (n : ℕ) → marker.name.now ≢ own → IsApart own (λ f g. Marks marker n f g)
marks_apart marker own n two = let are = sent_apart marker.file.items marker.name.now own marker.marked two in record {
  leaves = λ f h m. are.leaves f h m.file;
  untold = λ g m. record { places = m.places; all = m.all; file = are.untold g m.file };
  told = λ f m. are.told f m.file;
  apart = λ bytes f h m. let a = are.apart bytes f h m.file in (record { places = m.places; all = m.all; file = a.0 }, a.1);
}

module _ (old : SentMarker) (counted : ℕ) (front : List Entry) (keeper : JobWriter) (two : old.name.now ≢ keeper.file.into.jobs.now) (Q : Option FileMap → Option FileMap → Type 0)
    (can : IsApart keeper.file.into.jobs.now Q) where
  abbrev own : List ℕ
  own = keeper.file.into.jobs.now

  as_marked : (files made others later : Option FileMap) → Marks old counted files made → MarksSent old.file.items old.marked old.name.now others later → Marks old counted others later
  as_marked files made others later m file = record { places = m.places; all = m.all; file = file }

  untold_marks : (marked g : Option FileMap) → MarksSent old.file.items old.marked old.name.now None marked → MarksSent old.file.items old.marked old.name.now None g
  untold_marks marked g (b, is, few, t) = (b, is, few, tt)

  -- in front of what is kept stands what stood there
  opened_still : (f m0 h : FileMap) → Marks old counted (Some f) (Some m0) → Q (Some f) (Some h) → IsOpened front keeper.file (Some m0) → IsOpened front keeper.file (Some h)
  opened_still f m0 h m q = opened_as front keeper.file m0 h (can.leaves f h q ∙ sym ((marks_apart old own counted two).leaves f m0 m))

  -- the one file was changed beside what is kept in the other
  beside : (kept : List Job) (files marked g h : Option FileMap) → ((files : Option FileMap) → Marks old counted files g → Q files h) → Marks old counted files marked
      → IsOpened front keeper.file marked → AreKept front kept keeper.long own marked g
      → (marked' : Option FileMap) × Q files marked' × IsOpened front keeper.file marked' × AreKept front kept keeper.long own marked' h
  beside [] None marked g h on m opened same =
      (None, can.untold h (on None (as_marked None marked None g m (untold_marks marked g m.file))), opened_untold front keeper.file marked opened, tt)
  beside (j ∷ js) None marked g h on m opened (bytes, file, is, few, t) =
      (None, can.untold h (on None (as_marked None marked None g m (untold_marks marked g m.file))), opened_untold front keeper.file marked opened, (bytes, file, is, few, tt))
  beside kept (Some f) None g h on m opened k = absurd ((marks_apart old own counted two).told f m)
  beside [] (Some f) (Some m0) g None on m opened same =
      absurd (can.told f (on (Some f) (as_marked (Some f) (Some m0) (Some f) g m (stays old.file.items old.name.now old.marked (Some f) (Some m0) g same m.file))))
  beside [] (Some f) (Some m0) g (Some h) on m opened same =
      let q = on (Some f) (as_marked (Some f) (Some m0) (Some f) g m (stays old.file.items old.name.now old.marked (Some f) (Some m0) g same m.file)) in
      (Some h, q, opened_still f m0 h m q opened, same_itself (Some h))
  beside (j ∷ js) (Some f) (Some m0) None h on m opened (bytes, file, is, few, t) = absurd t
  beside (j ∷ js) (Some f) (Some m0) (Some g) None on m opened (bytes, file, is, few, sets) =
      absurd (can.told (with_bytes own bytes f) (on _ (as_marked (Some f) (Some m0) _ (Some g) m (marked_behind old.file.items old.name.now own bytes old.marked f m0 g two sets m.file))))
  beside (j ∷ js) (Some f) (Some m0) (Some g) (Some h) on m opened (bytes, file, is, few, sets) =
      let a = can.apart bytes f h (on _ (as_marked (Some f) (Some m0) _ (Some g) m (marked_behind old.file.items old.name.now own bytes old.marked f m0 g two sets m.file))) in
      (Some (as_in own f h), a.0, opened_still f m0 (as_in own f h) m a.0 opened, (bytes, file, is, few, a.1))

-- so it was beside what a keeper has kept
beside_keeper : (old : SentMarker) (counted : ℕ) (keeper : JobWriter) (two : old.name.now ≢ keeper.file.into.jobs.now) (Q : Option FileMap → Option FileMap → Type 0) (can : IsApart keeper.file.into.jobs.now Q)
    (jobs : List Job) (files g h : Option FileMap) → ((files : Option FileMap) → Marks old counted files g → Q files h) → HoldsBoth old counted keeper jobs files g
    → (marked : Option FileMap) × Q files marked × KeepsJobs keeper jobs marked h
beside_keeper old counted keeper two Q can jobs files g h on (marked, m, k) =
    let now = beside old counted k.front keeper two Q can (take keeper.kept jobs) files marked g h on m k.opened k.kept in
    (now.0, now.1, record { front = k.front; opened = now.2; few = k.few; all = k.all; cut = k.cut; kept = now.3 })

-- A MARKER AND A KEEPER

pub holds_marked : (old new : SentMarker) (counted more : ℕ) (keeper : JobWriter) (jobs : List Job) (files g h : Option FileMap) → old.name.now ≢ keeper.file.into.jobs.now → GoesOnMarking old new counted more g h
    → HoldsBoth old counted keeper jobs files g → HoldsBoth new more keeper jobs files h
holds_marked old new counted more keeper jobs files g h two (name, file, on) both =
    let apart : new.name.now ≢ keeper.file.into.jobs.now = λ is. two (sym (ap (λ (n : _). n.now) name) ∙ is) in
    beside_keeper old counted keeper two (λ f g. Marks new more f g) (marks_apart new keeper.file.into.jobs.now more apart) jobs files g h on both

-- the whole file is marked
pub holds_written : (marker : SentMarker) (counted n : ℕ) (keeper : JobWriter) (jobs : List Job) (files g h : Option FileMap) → marker.name.now ≢ keeper.file.into.jobs.now
    → MarksSent marker.file.items n marker.name.now g h → HoldsBoth marker counted keeper jobs files g
    → (marked : Option FileMap) × MarksSent marker.file.items n marker.name.now files marked × KeepsJobs keeper jobs marked h
holds_written marker counted n keeper jobs files g h two sets both =
    beside_keeper marker counted keeper two (λ f g. MarksSent marker.file.items n marker.name.now f g) (sent_apart marker.file.items marker.name.now keeper.file.into.jobs.now n two)
    jobs files g h (λ f m. written_over marker.file.items marker.name.now marker.marked n f g h m.file sets) both

-- no turn was taken yet
pub holds_first : (was : HeldSoFar) (had : Progress) → GoesOnHolding was was had had
holds_first was had = record { name = refl; file = refl; own = refl; holds = λ two files h. h }

module _ (first now : HeldSoFar) (had has : Progress) (p : GoesOnHolding first now had has) where
  -- more is marked
  pub goes_on_marked : (new : SentMarker) (h : Option FileMap) (more : Progress) → more.1 ≡ has.1 → GoesOnMarking now.0 new has.0 more.0 now.2 h → GoesOnHolding first (new, now.1, h) had more
  goes_on_marked new h more same on = record {
    name = on.0 ∙ p.name;
    file = on.1 ∙ p.file;
    own = p.own;
    holds = λ two files held.
        let apart : now.0.name.now ≢ now.1.file.into.jobs.now = λ is. two (sym (ap (λ (n : _). n.now) p.name) ∙ is ∙ ap (λ (x : KeptFile). x.into.jobs.now) p.own) in
        subst (λ (js : List Job). HoldsBoth new more.0 now.1 js files h) (sym same) (holds_marked now.0 new has.0 more.0 now.1 has.1 files now.2 h apart on (p.holds two files held));
  }

  -- more is kept
  pub goes_on_kept : (after : JobWriter) (h : Option FileMap) (more : Progress) → more.0 ≡ has.0 → GoesOnKeeping now.1 after has.1 more.1 now.2 h → GoesOnHolding first (now.0, after, h) had more
  goes_on_kept after h more same on = record {
    name = p.name;
    file = p.file;
    own = on.0 ∙ p.own;
    holds = λ two files held.
        let both = p.holds two files held in
        subst (λ (n : ℕ). HoldsBoth now.0 n after more.1 files h) (sym same) (both.0, both.1, on.1 both.0 both.2);
  }

-- WHAT A TURN LEAVES

-- its own turn leaves the jobs that came
pub own_jobs : (s s' : Contending) (said : Say) (heard : Sound) → TakesOwn s s' said heard → s'.receiver.jobs ≡ s.receiver.jobs
own_jobs s s' said heard takes = ap (λ (r : Receiving). r.jobs) (own_receiver s s' said heard takes)

own_failed : (s s' : Contending) (f : StationFault) → FailsInOwn s s' f → s'.receiver.jobs ≡ s.receiver.jobs
own_failed s s' f fails = ap (λ (r : Receiving). r.jobs) (fault_receiver s s' f fails)

yielded : (r : Rank) (sound : Sound) (s : Sending) → (gives_way r sound s).counted ≡ s.counted
yielded Rank.Primary sound s = refl
yielded Rank.Secondary Sound.Enq s = refl
yielded Rank.Secondary Sound.Ack0 s = refl
yielded Rank.Secondary Sound.Ack1 s = refl
yielded Rank.Secondary Sound.Nak s = refl
yielded Rank.Secondary Sound.Wack s = refl
yielded Rank.Secondary Sound.Rvi s = refl
yielded Rank.Secondary Sound.Ttd s = refl
yielded Rank.Secondary Sound.Abort s = refl
yielded Rank.Secondary Sound.Eot s = refl
yielded Rank.Secondary Sound.Block s = refl
yielded Rank.Secondary Sound.Bad s = refl
yielded Rank.Secondary Sound.Noise s = refl
yielded Rank.Secondary Sound.Quiet s = refl

heard_count : (s : Contending) (what : Heard) (refused b : Bool) → lets_in s.contender (sound_heard what) ≡ b → (after_other s what refused Wish.Go).sender.counted ≡ s.sender.counted
heard_count s what refused true is = rw is (yielded s.contender.rank (sound_heard what) s.sender)
heard_count s what refused false is = rw is refl

answering_count : (mid : Contending) (over : Bool) → mid.receiver.over ≡ over → (after_answering_other mid).sender.counted ≡ mid.sender.counted
answering_count mid true is = rw is refl
answering_count mid false is = rw is refl

-- the other's turn leaves the count
pub others_count : (s s' : Contending) (arrival : Arrival) (reply : Option Reply) → TakesOthers s s' arrival reply → s'.sender.counted ≡ s.sender.counted
others_count s s' arrival reply takes =
    let mid = after_other s takes.what arrival.refused Wish.Go in
    ap (λ (x : Contending). x.sender.counted) takes.state ∙ answering_count mid mid.receiver.over refl ∙ heard_count s takes.what arrival.refused _ refl

-- what comes of the other's jobs
comes_in : (s : Contending) (what : Heard) (refused b : Bool) → lets_in s.contender (sound_heard what) ≡ b → Comes s.receiver.jobs (after_other s what refused Wish.Go).receiver.jobs
comes_in s what refused true is = rw is (heard_comes what (receiver_news s.receiver.core (sound_taken what refused) Wish.Go).accepted s.receiver.jobs)
comes_in s what refused false is = rw is (nothing s.receiver.jobs)

-- what came was kept
pub other_kept : (s mid : Contending) (what : Heard) (refused : Bool) (old new : JobWriter) (jobs later : List Job) (f g : Option FileMap) → mid ≡ after_other s what refused Wish.Go
    → jobs ≡ mid.receiver.jobs → later ≡ mid.receiver.jobs → new.file ≡ old.file → new.kept ≡ kept_after old.file.place old.kept jobs
    → ((front : List Entry) (files : Option FileMap) → HasFront front old.file.front → AreKept front (take old.kept jobs) old.long old.file.into.jobs.now files f
    → AreKept front (take new.kept jobs) new.long old.file.into.jobs.now files g)
    → GoesOnKeeping old new s.receiver.jobs later f g
other_kept s mid what refused old new jobs later f g state is stay same next kept =
    let comes : Comes s.receiver.jobs jobs = subst (λ (js : List Job). Comes s.receiver.jobs js) (sym (is ∙ ap (λ (x : Contending). x.receiver.jobs) state)) (comes_in s what refused _ refl) in
    subst (λ (js : List Job). GoesOnKeeping old new s.receiver.jobs js f g) (is ∙ sym stay) (goes_on old new s.receiver.jobs jobs f g comes same next kept)

-- a fault of the line leaves the jobs
pub refusal_leaves : (f : StationFault) (s s' : Contending) → s' ≡ after_other_refusal f s → s'.receiver.jobs ≡ s.receiver.jobs
refusal_leaves f s s' is = ap (λ (x : Contending). x.receiver.jobs) is ∙ refused_jobs f s

answering_jobs : (mid : Contending) (over : Bool) → (if over then after_other_ended mid else after_own_reply mid).receiver.jobs ≡ mid.receiver.jobs
answering_jobs mid true = ended mid mid.receiver.over refl where
  ended : (m : Contending) (b : Bool) → m.receiver.over ≡ b → (after_other_ended m).receiver.jobs ≡ m.receiver.jobs
  ended m true is = rw is refl
  ended m false is = rw is refl
answering_jobs mid false = refl

-- the answer leaves them
pub answer_leaves : (mid s' : Contending) (over : Bool) → s' ≡ (if over then after_other_ended mid else after_own_reply mid) → s'.receiver.jobs ≡ mid.receiver.jobs
answer_leaves mid s' over is = ap (λ (x : Contending). x.receiver.jobs) is ∙ answering_jobs mid over

-- nor does it change the count
pub refusal_count : (s s' : Contending) → s' ≡ after_other_refusal (fault.Line Closed) s → s'.sender.counted ≡ s.sender.counted
refusal_count s s' is = ap (λ (x : Contending). x.sender.counted) is

-- where it is told that the other's transmission ended, count and jobs stay
pub same_count : (s s' : Contending) (n : ℕ) → s' ≡ after_other_ended s → s.sender.counted ≡ n → s'.sender.counted ≡ n
same_count s s' n is same = ap (λ (x : Contending). x.sender.counted) is ∙ same

pub ended_jobs : (old new : JobWriter) (s s' : Contending) (jobs : List Job) (f g : Option FileMap) → s' ≡ after_other_ended s → GoesOnKeeping old new jobs s.receiver.jobs f g
    → GoesOnKeeping old new jobs s'.receiver.jobs f g
ended_jobs old new s s' jobs f g is on = subst (λ (js : List Job). GoesOnKeeping old new jobs js f g) (sym (answer_leaves s s' true is)) on

-- THE BREAK

module _ (s near s' : Contending) (turns : List StationTurn) (took : Took s.contender.rank s turns near) (was now : HeldSoFar) (p : GoesOnHolding was now (progress_of s) (progress_of near)) where
  pub breaks_own : (fault : StationFault) (new : SentMarker) (h : Option FileMap) → new ≡ now.0 → h ≡ now.2 → FailsInOwn near s' fault → BreaksBoth s s' was (new, now.1, h) (TransferError.Line fault)
  breaks_own fault new h unmarked still fails = record {
    turns = turns;
    near = near;
    took = took;
    fails = inl fails;
    holds = subst (λ (m : SentMarker). GoesOnHolding was (m, now.1, h) (progress_of s) (near.sender.counted, s'.receiver.jobs)) (sym unmarked)
        (subst (λ (files : Option FileMap). GoesOnHolding was (now.0, now.1, files) (progress_of s) (near.sender.counted, s'.receiver.jobs)) (sym still)
        (subst (λ (js : List Job). GoesOnHolding was now (progress_of s) (near.sender.counted, js)) (sym (own_failed near s' fault fails)) p));
  }

  pub breaks_others : (broken : TransferError) (after : JobWriter) (h : Option FileMap) → FailsInOthers near s' broken → GoesOnKeeping now.1 after near.receiver.jobs (kept_of near s' broken) now.2 h
      → BreaksBoth s s' was (now.0, after, h) broken
  breaks_others broken after h fails on = record {
    turns = turns;
    near = near;
    took = took;
    fails = others_fail near s' broken fails;
    holds = goes_on_kept was now (progress_of s) (progress_of near) p after h (near.sender.counted, kept_of near s' broken) refl on;
  }
