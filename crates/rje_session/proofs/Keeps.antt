-- All jobs that came whole stay kept, where the next one is kept after each hearing.
use Rattle.std.proofs.Common.{◌≡◌, ℕ, zero, suc, ◌+◌, Bool, true, false, List, [], ◌∷◌, Option, Some, None, slice_get, if◌then◌else◌, refl, ap, sym, ◌∙◌, subst, arith}
use Rattle.std.proofs.lemmas.Bool.{true≢false}
use Rattle.bsc_codes.specs.declared.block.Block.{Block}
use Rattle.bsc_frame.specs.declared.frame.Frame.TheVariants as frame
use Rattle.bsc_frame.specs.declared.heard.Heard.{Heard}
use Rattle.bsc_frame.specs.declared.heard.Heard.TheVariants as heard
use Rattle.bsc_link.specs.declared.rank.Rank.{Rank}
use Rattle.bsc_link.specs.declared.sound.Sound.{Sound}
use Rattle.bsc_link.specs.declared.wish.Wish.{Wish}
use Rattle.bsc_link.specs.Receiver.{receiver_news}
use Rattle.rje_text.specs.declared.unpacked.Unpacked.{Unpacked}
use Rattle.rje_text.specs.Reading.{reading}
use Rattle.rje_jobs.specs.declared.job.Job.{Job}
use Rattle.rje_jobs.specs.Joined.{ends_job, mode_of_begun, with_records}
use Rattle.rje_station.specs.Hearing.{sound_heard}
use Rattle.rje_station.specs.JoinedJobs.{begun_in, with_block, with_read}
use Rattle.rje_station.specs.Receiving.{jobs_after, sound_taken}
use Rattle.rje_station.specs.Sending.{Sending}
use Rattle.rje_station.specs.Station.{Contending, after_other, after_other_refusal, gives_way, lets_in}
use Rattle.rje_station.specs.declared.station_fault.StationFault.{StationFault}
use Rattle.rje_station.specs.declared.station_fault.StationFault.TheVariants as fault
use Rattle.rje_session.specs.Keeping.{AreKept, kept_with}
use Rattle.rje_session.specs.Outstanding.{BeginsAt}
use Rattle.rje_session.specs.Stations.{after_answering_other}

-- ---- What is kept.

-- all are kept, with the next of them where it came whole
abbrev KeptOn : ℕ → List Job → Type 0
KeptOn n jobs = AreKept (kept_with n (slice_get jobs n)) jobs

one_suc : (n : ℕ) (j : Job) (b : Bool) → (if b then suc n + 1 else suc n) ≡ suc (if b then n + 1 else n)
one_suc n j true = omega arith
one_suc n j false = refl

kept_suc : (n : ℕ) (o : Option Job) → kept_with (suc n) o ≡ suc (kept_with n o)
kept_suc n None = refl
kept_suc n (Some j) = one_suc n j j.whole

kept_behind : (n : ℕ) (j : Job) (jobs : List Job) → j.whole ≡ true → KeptOn n jobs → KeptOn (suc n) (j ∷ jobs)
kept_behind n j jobs whole on = subst (λ m. AreKept m (j ∷ jobs)) (sym (kept_suc n (slice_get jobs n))) (whole, on)

-- where nothing came
same_kept : (n : ℕ) (jobs : List Job) → AreKept n jobs → KeptOn n jobs
same_kept zero [] kept = tt
same_kept zero (j ∷ jobs) kept = rw kept.0 (refl, kept.1)
same_kept (suc n) [] kept = absurd kept
same_kept (suc n) (j ∷ jobs) kept = kept_behind n j jobs kept.0 (same_kept n jobs kept.1)

-- one that is the only one
only_kept : (j : Job) (b : Bool) → j.whole ≡ b → KeptOn 0 (j ∷ [])
only_kept j true is = rw is (refl, tt)
only_kept j false is = rw is (refl, refl)

with_only : (b : Bool) (x y : List Job) → b ≡ false → KeptOn 0 y → KeptOn 0 (if b then x else y)
with_only true x y never on = absurd (true≢false never)
with_only false x y is on = on

with_next : (b : Bool) (x y : List Job) → b ≡ true → KeptOn 1 x → KeptOn 1 (if b then x else y)
with_next true x y is on = on
with_next false x y never on = absurd (true≢false (sym never))

read_kept : (n : ℕ) (jobs : List Job) (u : Unpacked) (w : Bool) → AreKept n jobs → KeptOn n (with_read jobs u w)
read_kept zero [] u w kept = only_kept (with_records None u w) w refl
read_kept zero (j ∷ []) u w kept = with_only j.whole (j ∷ with_records None u w ∷ []) (with_records (Some j) u w ∷ []) kept.0 (only_kept (with_records (Some j) u w) w refl)
read_kept zero (j ∷ k ∷ jobs) u w kept = absurd cc
read_kept (suc n) [] u w kept = absurd kept
read_kept (suc zero) (j ∷ []) u w kept = with_next j.whole (j ∷ with_records None u w ∷ []) (with_records (Some j) u w ∷ []) kept.0 (kept_behind 0 j (with_records None u w ∷ []) kept.0 (only_kept (with_records None u w) w refl))
read_kept (suc (suc n)) (j ∷ []) u w kept = absurd kept.1
read_kept (suc n) (j ∷ k ∷ jobs) u w kept = kept_behind n j (with_read (k ∷ jobs) u w) kept.0 (read_kept n (k ∷ jobs) u w kept.1)

block_kept : (n : ℕ) (jobs : List Job) (b : Block) → AreKept n jobs → KeptOn n (with_block jobs b)
block_kept n jobs b kept =
    elim (reading b (mode_of_begun (begun_in jobs))) as (λ o. KeptOn n (elim o [ None ↦ jobs | Some u ↦ with_read jobs u (ends_job b.closing) ])) [
      | None ↦ same_kept n jobs kept
      | Some u ↦ read_kept n jobs u (ends_job b.closing) kept
    ]

heard_kept : (n : ℕ) (jobs : List Job) (what : Heard) (accepted : Bool) → AreKept n jobs → KeptOn n (jobs_after what accepted jobs)
heard_kept n jobs (heard.Frame (frame.Block b)) true kept = block_kept n jobs b kept
heard_kept n jobs (heard.Frame (frame.Block b)) false kept = same_kept n jobs kept
heard_kept n jobs (heard.Frame _) accepted kept = same_kept n jobs kept
heard_kept n jobs _ accepted kept = same_kept n jobs kept

let_in_kept : (n : ℕ) (s : Contending) (what : Heard) (refused b : Bool) → lets_in s.contender (sound_heard what) ≡ b → AreKept n s.receiver.jobs
    → KeptOn n (after_other s what refused Wish.Go).receiver.jobs
let_in_kept n s what refused true is kept = rw is (heard_kept n s.receiver.jobs what (receiver_news s.receiver.core (sound_taken what refused) Wish.Go).accepted kept)
let_in_kept n s what refused false is kept = rw is (same_kept n s.receiver.jobs kept)

-- after the other was heard, and the next job is kept where it came whole
pub others_kept : (n now : ℕ) (s mid : Contending) (jobs : List Job) (what : Heard) (refused : Bool) → mid ≡ after_other s what refused Wish.Go → jobs ≡ mid.receiver.jobs
    → AreKept n s.receiver.jobs → now ≡ kept_with n (slice_get jobs n) → AreKept now mid.receiver.jobs
others_kept n now s mid jobs what refused is are kept next =
    let on : KeptOn n mid.receiver.jobs = subst (λ (x : Contending). KeptOn n x.receiver.jobs) (sym is) (let_in_kept n s what refused _ refl kept) in
    subst (λ m. AreKept m mid.receiver.jobs) (sym (next ∙ ap (λ l. kept_with n (slice_get l n)) are)) on

-- and once it is answered
answering_jobs : (s : Contending) (over : Bool) → s.receiver.over ≡ over → (after_answering_other s).receiver.jobs ≡ s.receiver.jobs
answering_jobs s true is = rw is refl
answering_jobs s false is = rw is refl

pub answered_kept : (n : ℕ) (mid s : Contending) → s ≡ after_answering_other mid → AreKept n mid.receiver.jobs → AreKept n s.receiver.jobs
answered_kept n mid s is kept = subst (λ (l : List Job). AreKept n l) (sym (ap (λ (x : Contending). x.receiver.jobs) is ∙ answering_jobs mid mid.receiver.over refl)) kept

-- and where the line fails
pub refused_jobs : (fault : StationFault) (s : Contending) → (after_other_refusal fault s).receiver.jobs ≡ s.receiver.jobs
refused_jobs fault.Over s = refl
refused_jobs _ s = refl

pub failed_kept : (n : ℕ) (mid s : Contending) (fault : StationFault) → s ≡ after_other_refusal fault mid → AreKept n mid.receiver.jobs → AreKept n s.receiver.jobs
failed_kept n mid s fault is kept = subst (λ (l : List Job). AreKept n l) (sym (ap (λ (x : Contending). x.receiver.jobs) is ∙ refused_jobs fault mid)) kept

-- ---- Which block is outstanding.

way_begins : (rank : Rank) (sound : Sound) (s : Sending) (from : ℕ) → BeginsAt s from → BeginsAt (gives_way rank sound s) from
way_begins Rank.Secondary Sound.Enq s from begins = begins
way_begins _ _ s from begins = begins

module _ (s : Contending) (what : Heard) (refused : Bool) where
  let_in_begins : (b : Bool) → lets_in s.contender (sound_heard what) ≡ b → (from : ℕ) → BeginsAt s.sender from → BeginsAt (after_other s what refused Wish.Go).sender from
  let_in_begins true is from begins = rw is (way_begins s.contender.rank (sound_heard what) s.sender from begins)
  let_in_begins false is from begins = rw is begins

  pub others_begin : (mid : Contending) (from : ℕ) → mid ≡ after_other s what refused Wish.Go → BeginsAt s.sender from → BeginsAt mid.sender from
  others_begin mid from is begins = subst (λ (x : Contending). BeginsAt x.sender from) (sym is) (let_in_begins _ refl from begins)

answering_sender : (s : Contending) (over : Bool) → s.receiver.over ≡ over → (after_answering_other s).sender ≡ s.sender
answering_sender s true is = rw is refl
answering_sender s false is = rw is refl

pub answered_begins : (mid s : Contending) (from : ℕ) → s ≡ after_answering_other mid → BeginsAt mid.sender from → BeginsAt s.sender from
answered_begins mid s from is begins = subst (λ (x : Sending). BeginsAt x from) (sym (ap (λ (x : Contending). x.sender) is ∙ answering_sender mid mid.receiver.over refl)) begins

refused_sender : (fault : StationFault) (s : Contending) → (after_other_refusal fault s).sender ≡ s.sender
refused_sender fault.Over s = refl
refused_sender _ s = refl

pub failed_begins : (mid s : Contending) (fault : StationFault) (from : ℕ) → s ≡ after_other_refusal fault mid → BeginsAt mid.sender from → BeginsAt s.sender from
failed_begins mid s fault from is begins = subst (λ (x : Sending). BeginsAt x from) (sym (ap (λ (x : Contending). x.sender) is ∙ refused_sender fault mid)) begins
