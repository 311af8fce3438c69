-- The files of a receiver that go on with one more job.
use Rattle.std.proofs.Common.{◌≡◌, ℕ, ◌+◌, ◌<◌, ◌≤◌, List, [], ◌∷◌, ◌++◌, length, map, drop, take, get_or, Option, refl, ap, sym, ◌∙◌, subst, arith}
use Rattle.std.proofs.lemmas.List.{append-nil, append_assoc, length-append, length-drop, length-map, map-append, take_all, take_more}
use Rattle.rje_jobs.specs.declared.job.Job.{Job}
use Rattle.rje_files.specs.declared.entry.Entry.{Entry}
use Rattle.rje_files.specs.declared.job_file.version.FileVersion.TheVariants.{Second}
use Rattle.rje_files.specs.Entry.{entry_of}
use Rattle.rje_files.specs.Growth.{GrowsBy, grown}
use Rattle.rje_files.specs.JobFile.{IsEntryFileOf}
use Rattle.rje_store.specs.declared.store.WriteMode.{WriteMode}
use Rattle.rje_store.specs.declared.store.WriteMode.TheVariants.{Growing, Once}
use Rattle.rje_store.proofs.Changes.{same_after, same_twice, set_after, set_longer, set_over}
use Rattle.rje_sockets.specs.Ending.{MakesJobFile}
use Rattle.rje_requests.specs.declared.order.Destination.{Destination}
use Rattle.rje_sockets.specs.declared.job_writer.JobWriter.{JobWriter}
use Rattle.rje_sockets.specs.declared.kept_file.KeptFile.{KeptFile}
use Rattle.rje_sockets.specs.InFront.{StandInFront}
use Rattle.rje_sockets.specs.Inside.Keeping.{AreKept, GoesOnKeeping, KeepsJobs}
use Rattle.rje_sockets.specs.Inside.Opening.{IsOpened}
use Rattle.rje_store.specs.Store.{FileMap, Discloses, Extends, IsSame, Sets}

-- a file has its front
has_front : (es : List _) (bytes : List ℕ) → IsEntryFileOf Second es bytes → 14 ≤ length bytes
has_front es bytes (are, file) = omega (arith, ap length (sym file))

grown_long : (front tail bytes : List ℕ) → length front ≡ 14 → 14 ≤ length bytes → length (grown front tail bytes) ≡ length bytes + length tail
grown_long front tail bytes f l =
    omega (arith, f, l, length-append front (drop (length front) bytes ++ tail), length-append (drop (length front) bytes) tail, length-drop (length front) bytes)

-- the first job's file
pub first_kept : (entries : List Entry) (jobs : List Job) (name base front tail : List ℕ) (job : Job) (count long longer : ℕ) (files f g : Option FileMap) → length jobs ≡ 0
    → IsEntryFileOf Second entries base → length entries ≡ count → GrowsBy count (entry_of job) front tail
    → AreKept entries jobs long name files f → Discloses f g (Sets name (grown front tail base)) → longer ≡ length (grown front tail base) → longer ≤ 16777216
    → AreKept entries (jobs ++ job ∷ []) longer name files g
first_kept entries (j ∷ js) name base front tail job count long longer files f g n file many grows kept sets is few = absurd (omega (arith, n))
first_kept entries [] name base front tail job count long longer files f g n file many grows same sets is few =
    (grown front tail base, grows entries base many file, sym is, few, set_after name (grown front tail base) files f g same sets)

-- so many entries there are, of which those in front are so many
pub many_after : (entries : List Entry) (jobs : List Job) (in_front kept count : ℕ) → in_front ≡ length entries → length jobs ≡ kept → count ≡ in_front + kept → length (entries ++ map entry_of jobs) ≡ count
many_after entries jobs in_front kept count first then all = omega (arith, first, then, all, length-append entries (map entry_of jobs), length-map jobs entry_of)

-- the next job's
pub next_kept : (entries : List Entry) (jobs : List Job) (name front tail : List ℕ) (job : Job) (count long longer : ℕ) (files f g : Option FileMap) → (length jobs ≡ 0 → ⊥)
    → length (entries ++ map entry_of jobs) ≡ count → GrowsBy count (entry_of job) front tail → length front ≡ 14
    → AreKept entries jobs long name files f → Discloses f g (Extends name front tail) → longer ≡ long + length tail → longer ≤ 16777216
    → AreKept entries (jobs ++ job ∷ []) longer name files g
next_kept entries [] name front tail job count long longer files f g some many grows f14 kept extends is few = absurd (some refl)
next_kept entries (j ∷ js) name front tail job count long longer files f g some many grows f14 (bytes, file, l, limit, sets) extends is few =
    let more = grows (entries ++ map entry_of (j ∷ js)) bytes many file in
    let whole : (entries ++ map entry_of (j ∷ js)) ++ entry_of job ∷ [] ≡ entries ++ map entry_of ((j ∷ js) ++ job ∷ []) =
    append_assoc entries (map entry_of (j ∷ js)) (entry_of job ∷ []) ∙ ap (λ (es : List Entry). entries ++ es) (sym (map-append entry_of (j ∷ js) (job ∷ []))) in (
      grown front tail bytes,
      subst (λ (es : List Entry). IsEntryFileOf Second es (grown front tail bytes)) whole more,
      grown_long front tail bytes f14 (has_front (entries ++ map entry_of (j ∷ js)) bytes file) ∙ ap (λ (k : ℕ). k + length tail) l ∙ sym is,
      few,
      set_longer name bytes front tail files f g sets extends,
    )

-- THE END

-- what was kept is the file
pub made_of : (front : List Entry) (file : KeptFile) (kept jobs : List Job) (long : ℕ) (files f : Option FileMap) → IsOpened front file files → kept ≡ jobs → (length jobs ≡ 0 → ⊥)
    → AreKept front kept long file.into.jobs.now files f → MakesJobFile jobs file.into files f
made_of front file [] jobs long files f opened is some kept = absurd (some (ap length (sym is)))
made_of front file (j ∷ js) jobs long files f opened is some (bytes, of, l, few, sets) =
    subst (λ (all : List Job). MakesJobFile all file.into files f) is (front, bytes, opened.stand, of, omega (arith, l, few), sets)

-- a file that is written after some jobs were kept takes their place
over_kept : (front : List Entry) (kept : List Job) (long : ℕ) (name bytes : List ℕ) (files f g : Option FileMap) → AreKept front kept long name files f → Discloses f g (Sets name bytes)
    → Discloses files g (Sets name bytes)
over_kept front [] long name bytes files f g same sets = set_after name bytes files f g same sets
over_kept front (j ∷ js) long name bytes files f g (first, of, l, few, had) sets = set_over name first bytes files f g had sets

-- where nothing came, it is that of the entries in front
pub made_of_front : (keeper : JobWriter) (jobs : List Job) (files f g : Option FileMap) → KeepsJobs keeper jobs files f → length jobs ≡ 0 → length keeper.file.front.bytes.items ≤ 16777216
    → Discloses f g (Sets keeper.file.into.jobs.now keeper.file.front.bytes.items) → MakesJobFile jobs keeper.file.into files g
made_of_front keeper (j ∷ js) files f g k none few sets = absurd (omega (arith, none))
made_of_front keeper [] files f g k none few sets = (
  k.front,
  keeper.file.front.bytes.items,
  k.opened.stand,
  subst (λ (es : List Entry). IsEntryFileOf Second es keeper.file.front.bytes.items) (sym (append-nil k.front)) k.opened.has.0,
  few,
  over_kept k.front (take keeper.kept []) keeper.long keeper.file.into.jobs.now keeper.file.front.bytes.items files f g k.kept sets,
)

-- a device or a pipe gets all of them
pub made_at_once : (keeper : JobWriter) (jobs : List Job) (bytes : List ℕ) (files f g : Option FileMap) → KeepsJobs keeper jobs files f → keeper.file.place ≡ Once
    → IsEntryFileOf Second (map entry_of jobs) bytes → length bytes ≤ 16777216 → Discloses f g (Sets keeper.file.into.jobs.now bytes) → MakesJobFile jobs keeper.file.into files g
made_at_once keeper jobs bytes files f g k once of few sets = (
  [],
  bytes,
  subst (λ (front : List Entry). StandInFront keeper.file.into.existing keeper.file.into.jobs.now files front) (k.opened.once once) k.opened.stand,
  of,
  few,
  over_kept k.front (take keeper.kept jobs) keeper.long keeper.file.into.jobs.now bytes files f g k.kept sets,
)

-- all jobs but one are kept, and then this one
pub one_left : (jobs : List Job) (kept : ℕ) (job : Job) → kept < length jobs → length jobs ≤ kept + 1 → get_or jobs kept job ≡ job → take kept jobs ++ job ∷ [] ≡ jobs
one_left jobs kept job less most there =
    ap (λ (x : Job). take kept jobs ++ x ∷ []) (sym there) ∙ sym (take_more jobs kept job less) ∙ take_all (kept + 1) jobs most

-- all jobs are kept
pub none_left : (jobs : List Job) (kept : ℕ) → (kept < length jobs → ⊥) → take kept jobs ≡ jobs
none_left jobs kept all = take_all kept jobs (omega (arith, all))

pub grows_not_once : (place : WriteMode) → (place ≡ Once → ⊥) → place ≡ Growing
grows_not_once Growing other = refl
grows_not_once Once other = absurd (other refl)

-- A WHOLE TRANSMISSION

-- a keeper that has kept nothing
pub none_kept : (keeper : JobWriter) (front : List Entry) (f g : Option FileMap) → IsOpened front keeper.file f → keeper.kept ≡ 0 → Discloses f g IsSame → KeepsJobs keeper [] f g
none_kept keeper front f g opened none same = record {
  front = front;
  opened = opened;
  few = omega (arith, none);
  all = λ grows. none;
  cut = omega arith;
  kept = subst (λ (n : ℕ). AreKept front (take n []) keeper.long keeper.file.into.jobs.now f g) (sym none) same;
}

-- WHERE NO FILE CHANGES

pub kept_still : (front : List Entry) (jobs : List Job) (long : ℕ) (name : List ℕ) (files f g : Option FileMap) → AreKept front jobs long name files f → Discloses f g IsSame → AreKept front jobs long name files g
kept_still front [] long name files f g same still = same_twice files f g same still
kept_still front (j ∷ js) long name files f g (bytes, file, l, few, sets) still = (bytes, file, l, few, same_after name bytes files f g sets still)

pub still_keeps : (keeper : JobWriter) (jobs : List Job) (files f g : Option FileMap) → KeepsJobs keeper jobs files f → Discloses f g IsSame → KeepsJobs keeper jobs files g
still_keeps keeper jobs files f g k still = record {
  front = k.front;
  opened = k.opened;
  few = k.few;
  all = k.all;
  cut = k.cut;
  kept = kept_still k.front (take keeper.kept jobs) keeper.long keeper.file.into.jobs.now files f g k.kept still;
}

pub goes_still : (keeper keeper' : JobWriter) (jobs : List Job) (f g : Option FileMap) → keeper' ≡ keeper → Discloses f g IsSame → GoesOnKeeping keeper keeper' jobs jobs f g
goes_still keeper keeper' jobs f g is still =
    subst (λ (k : JobWriter). GoesOnKeeping keeper k jobs jobs f g) (sym is) (refl, λ files k. still_keeps keeper jobs files f g k still)

pub makes_still : (jobs : List Job) (into : Destination) (files f g : Option FileMap) → MakesJobFile jobs into files f → Discloses f g IsSame → MakesJobFile jobs into files g
makes_still jobs into files f g (front, bytes, stand, of, few, sets) still = (front, bytes, stand, of, few, same_after into.jobs.now bytes files f g sets still)
