-- What stays kept of the jobs of a receiving station as more come.
use Rattle.std.proofs.Common.{◌≡◌, inl, inr, ℕ, ◌+◌, ◌<◌, ◌≤◌, List, [], ◌∷◌, length, take, zero, suc, Bool, true, false, Option, Some, None, if◌then◌else◌, refl, ap, sym, ◌∙◌, subst, arith, cond}
use Rattle.std.proofs.lemmas.Bool.{cases_Bool}
use Rattle.std.specs.List.{slice_get}
use Rattle.bsc_codes.specs.declared.block.Block.{Block}
use Rattle.bsc_frame.specs.declared.frame.Frame.TheVariants as frame
use Rattle.bsc_frame.specs.declared.heard.Heard.{Heard}
use Rattle.bsc_frame.specs.declared.heard.Heard.TheVariants as heard
use Rattle.rje_text.specs.declared.unpacked.Unpacked.{Unpacked}
use Rattle.rje_jobs.specs.declared.job.Job.{Job}
use Rattle.rje_jobs.specs.Joined.{ends_job, mode_of_begun}
use Rattle.rje_text.specs.Reading.{reading}
use Rattle.rje_station.specs.JoinedJobs.{begun_in, with_read, with_block}
use Rattle.bsc_link.specs.declared.wish.Wish.{Wish}
use Rattle.bsc_link.specs.Receiver.{receiver_news}
use Rattle.rje_station.specs.Receiving.{Receiving, after_receiving, jobs_after, sound_taken}
use Rattle.rje_files.specs.declared.entry.Entry.{Entry}
use Rattle.rje_sockets.specs.declared.job_writer.JobWriter.{JobWriter}
use Rattle.rje_sockets.specs.declared.kept_file.KeptFile.{KeptFile}
use Rattle.rje_store.specs.declared.store.WriteMode.{WriteMode}
use Rattle.rje_store.specs.declared.store.WriteMode.TheVariants.{Growing, Once}
use Rattle.rje_sockets.specs.Answering.{whole_in_front}
use Rattle.rje_sockets.specs.Inside.Keeping.{AreKept, GoesOnKeeping, kept_after}
use Rattle.rje_sockets.specs.Inside.Opening.{HasFront, IsOpened}
use Rattle.rje_store.specs.Store.{FileMap}

-- JOBS THAT COME

-- the next job stands one place on behind one more
shift_suc : (n : ℕ) (j : Job) (js : List Job) → kept_after Growing (suc n) (j ∷ js) ≡ 1 + kept_after Growing n js
shift_suc n j js = go (slice_get js n) where
  step : (b : Bool) → (if b then suc n + 1 else suc n) ≡ 1 + (if b then n + 1 else n)
  step true = omega arith
  step false = omega arith

  go : (o : Option Job) → elim o [ Some job ↦ (if job.whole then suc n + 1 else suc n) | None ↦ suc n ] ≡ 1 + elim o [ Some job ↦ (if job.whole then n + 1 else n) | None ↦ n ]
  go None = omega arith
  go (Some job) = step job.whole

shift : (n : ℕ) (j : Job) (js : List Job) → kept_after Growing (1 + n) (j ∷ js) ≡ 1 + kept_after Growing n js
shift n j js = ap (λ (m : ℕ). kept_after Growing m (j ∷ js)) one ∙ shift_suc n j js where
  one : 1 + n ≡ suc n
  one = omega arith

-- behind one more job all is as it is without it, or the front ends there
behind : (j : Job) (js : List Job) (n k : ℕ) → kept_after Growing n js ≡ k → kept_after Growing (cond j.whole (1 + n) 0) (j ∷ js) ≡ cond j.whole (1 + k) 0
behind j js n k e = go j.whole refl where
  go : (b : Bool) → j.whole ≡ b → kept_after Growing (cond b (1 + n) 0) (j ∷ js) ≡ cond b (1 + k) 0
  go true is = shift n j js ∙ ap (λ (m : ℕ). 1 + m) e
  go false is = ap (λ (b : Bool). if b then 0 + 1 else 0) is

-- where nothing came, there is no more to keep
none_more : (js : List Job) → kept_after Growing (whole_in_front js) js ≡ whole_in_front js
none_more [] = refl
none_more (j ∷ js) = behind j js (whole_in_front js) (whole_in_front js) (none_more js)

one_job : (n : ℕ) (b : Bool) → (if b then n + 1 else n) ≡ n + cond b (1 + 0) 0
one_job n true = refl
one_job n false = omega arith

first_job : (b : Bool) → (if b then 0 + 1 else 0) ≡ cond b (1 + 0) 0
first_job true = refl
first_job false = refl

-- what a block makes of the jobs
pub record Comes (js more : List Job) : Type 0 where
  pub front : (k : ℕ) → k ≤ whole_in_front js → take k more ≡ take k js
  pub least : whole_in_front js ≤ whole_in_front more
  pub next : kept_after Growing (whole_in_front js) more ≡ whole_in_front more
  pub cut : length js ≤ whole_in_front js + 1 → length more ≤ whole_in_front more + 1

pub nothing : (js : List Job) → Comes js js
nothing js = record { front = λ k l. refl; least = omega arith; next = none_more js; cut = λ l. l }

fewer : (k : ℕ) (j : Job) (js : List Job) → suc k ≤ whole_in_front (j ∷ js) → k ≤ whole_in_front js
fewer k j js = go j.whole where
  go : (b : Bool) → suc k ≤ cond b (1 + whole_in_front js) 0 → k ≤ whole_in_front js
  go true l = omega (arith, l)
  go false l = omega (arith, l)

none : (k : ℕ) (j : Job) (js : List Job) → j.whole ≡ false → suc k ≤ whole_in_front (j ∷ js) → ⊥
none k j js not l = omega (arith, subst (λ (b : Bool). suc k ≤ cond b (1 + whole_in_front js) 0) not l)

-- the front stays
front_stays : (k : ℕ) (js : List Job) (u : Unpacked) (w : Bool) → k ≤ whole_in_front js → take k (with_read js u w) ≡ take k js
front_stays zero js u w l = refl
front_stays (suc k) [] u w l = absurd (omega (arith, l))
front_stays (suc zero) (j ∷ []) u w l = elim (cases_Bool j.whole) [
  | inl is ↦ rw is refl
  | inr not ↦ absurd (none 0 j [] not l)
]
front_stays (suc (suc k)) (j ∷ []) u w l = absurd (omega (arith, fewer (suc k) j [] l))
front_stays (suc k) (j ∷ i ∷ js) u w l = ap (λ (xs : List Job). j ∷ xs) (front_stays k (i ∷ js) u w (fewer k j (i ∷ js) l))

-- and what comes whole is the next
read_next : (js : List Job) (u : Unpacked) (w : Bool) → kept_after Growing (whole_in_front js) (with_read js u w) ≡ whole_in_front (with_read js u w)
read_next [] u w = first_job w
read_next (j ∷ []) u w = elim (cases_Bool j.whole) [
  | inl is ↦ rw is (one_job 1 w)
  | inr not ↦ rw not (first_job w)
]
read_next (j ∷ i ∷ js) u w = behind j (with_read (i ∷ js) u w) (whole_in_front (i ∷ js)) (whole_in_front (with_read (i ∷ js) u w)) (read_next (i ∷ js) u w)

more_or_none : (b : Bool) (n k : ℕ) → n ≤ k → cond b (1 + n) 0 ≤ cond b (1 + k) 0
more_or_none true n k l = omega (arith, l)
more_or_none false n k l = omega arith

read_least : (js : List Job) (u : Unpacked) (w : Bool) → whole_in_front js ≤ whole_in_front (with_read js u w)
read_least [] u w = omega arith
read_least (j ∷ []) u w = elim (cases_Bool j.whole) [
  | inl is ↦ rw is (omega arith)
  | inr not ↦ rw not (omega arith)
]
read_least (j ∷ i ∷ js) u w = more_or_none j.whole (whole_in_front (i ∷ js)) (whole_in_front (with_read (i ∷ js) u w)) (read_least (i ∷ js) u w)

behind_cut : (b : Bool) (long whole longer more : ℕ) → 0 < long → (long ≤ whole + 1 → longer ≤ more + 1) → suc long ≤ cond b (1 + whole) 0 + 1 → suc longer ≤ cond b (1 + more) 0 + 1
behind_cut true long whole longer more some so l = omega (arith, so (omega (arith, l)))
behind_cut false long whole longer more some so l = absurd (omega (arith, some, l))

read_cut : (js : List Job) (u : Unpacked) (w : Bool) → length js ≤ whole_in_front js + 1 → length (with_read js u w) ≤ whole_in_front (with_read js u w) + 1
read_cut [] u w l = omega arith
read_cut (j ∷ []) u w l = elim (cases_Bool j.whole) [
  | inl is ↦ rw is (omega arith)
  | inr not ↦ rw not (omega arith)
]
read_cut (j ∷ i ∷ js) u w l = behind_cut j.whole (length (i ∷ js)) (whole_in_front (i ∷ js)) (length (with_read (i ∷ js) u w)) (whole_in_front (with_read (i ∷ js) u w)) (omega arith) (read_cut (i ∷ js) u w) l

block_comes : (js : List Job) (b : Block) → Comes js (with_block js b)
block_comes js b = go (reading b (mode_of_begun (begun_in js))) where
  go : (o : Option Unpacked) → Comes js (elim o [ None ↦ js | Some u ↦ with_read js u (ends_job b.closing) ])
  go None = nothing js
  go (Some u) = let w = ends_job b.closing in record {
    front = λ k l. front_stays k js u w l;
    least = read_least js u w;
    next = read_next js u w;
    cut = read_cut js u w;
  }

-- whatever was heard
pub heard_comes : (what : Heard) (accepted : Bool) (js : List Job) → Comes js (jobs_after what accepted js)
heard_comes (heard.Frame (frame.Block b)) true js = block_comes js b
heard_comes _ _ js = nothing js

-- A KEEPER

kept_few : (place : WriteMode) (kept : ℕ) (js more : List Job) → Comes js more → (place ≡ Growing → kept ≡ whole_in_front js) → kept ≤ whole_in_front js → kept_after place kept more ≤ whole_in_front more
kept_few Growing kept js more c all few = omega (arith, ap (λ (n : ℕ). kept_after Growing n more) (all refl) ∙ c.next)
kept_few Once kept js more c all few = omega (arith, few, c.least)

kept_all : (place : WriteMode) (kept : ℕ) (js more : List Job) → Comes js more → (place ≡ Growing → kept ≡ whole_in_front js) → place ≡ Growing → kept_after place kept more ≡ whole_in_front more
kept_all place kept js more c all grows = ap (λ (p : WriteMode). kept_after p kept more) grows ∙ ap (λ (n : ℕ). kept_after Growing n more) (all grows) ∙ c.next

-- something came, and what has come whole was kept
pub goes_on : (old new : JobWriter) (js more : List Job) (f g : Option FileMap) → Comes js more → new.file ≡ old.file
    → new.kept ≡ kept_after old.file.place old.kept more
    → ((front : List Entry) (files : Option FileMap) → HasFront front old.file.front → AreKept front (take old.kept more) old.long old.file.into.jobs.now files f
    → AreKept front (take new.kept more) new.long old.file.into.jobs.now files g)
    → GoesOnKeeping old new js more f g
goes_on old new js more f g c same next kept = (
  same,
  λ files k. record {
    front = k.front;
    opened = subst (λ (x : KeptFile). IsOpened k.front x files) (sym same) k.opened;
    few = omega (arith, next, kept_few old.file.place old.kept js more c k.all k.few);
    all = λ grows. next ∙ kept_all old.file.place old.kept js more c k.all (sym (ap (λ (x : KeptFile). x.place) same) ∙ grows);
    cut = c.cut k.cut;
    kept = subst (λ (x : KeptFile). AreKept k.front (take new.kept more) new.long x.into.jobs.now files g) (sym same)
        (kept k.front files k.opened.has
        (subst (λ (xs : List Job). AreKept k.front xs old.long old.file.into.jobs.now files f) (sym (c.front old.kept k.few)) k.kept));
  },
)

-- one after another
pub goes_on_twice : (first old new : JobWriter) (js more all : List Job) (f g h : Option FileMap) → GoesOnKeeping first old js more f g → GoesOnKeeping old new more all g h → GoesOnKeeping first new js all f h
goes_on_twice first old new js more all f g h p q = (q.0 ∙ p.0, λ files k. q.1 files (p.1 files k))

pub goes_nowhere : (keeper : JobWriter) (js : List Job) (f : Option FileMap) → GoesOnKeeping keeper keeper js js f f
goes_nowhere keeper js f = (refl, λ files k. k)

-- one turn of a station: it heard something, what has come whole was kept, and its jobs stay as it replies
pub turn_kept : (r heard r' : Receiving) (what : Heard) (refused : Bool) (old new : JobWriter) (jobs : List Job) (f g : Option FileMap) → heard ≡ after_receiving r what refused Wish.Go
    → jobs ≡ heard.jobs → r'.jobs ≡ heard.jobs → new.file ≡ old.file → new.kept ≡ kept_after old.file.place old.kept jobs
    → ((front : List Entry) (files : Option FileMap) → HasFront front old.file.front → AreKept front (take old.kept jobs) old.long old.file.into.jobs.now files f
    → AreKept front (take new.kept jobs) new.long old.file.into.jobs.now files g)
    → GoesOnKeeping old new r.jobs r'.jobs f g
turn_kept r heard r' what refused old new jobs f g state is stay same next kept =
    let accepted : Bool = (receiver_news r.core (sound_taken what refused) Wish.Go).accepted in
    let comes : Comes r.jobs heard.jobs = subst (λ (s : Receiving). Comes r.jobs s.jobs) (sym state) (heard_comes what accepted r.jobs) in
    let all : Comes r.jobs jobs = subst (λ (js : List Job). Comes r.jobs js) (sym is) comes in
    subst (λ (js : List Job). GoesOnKeeping old new r.jobs js f g) (is ∙ sym stay) (goes_on old new r.jobs jobs f g all same next kept)
