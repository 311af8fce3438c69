-- Joining blocks to jobs.
use Rattle.std.proofs.Common.{◌≡◌, ℕ, zero, suc, ◌<◌, Bool, true, false, List, [], ◌∷◌, ◌++◌, length, get_or, slice_set, Option, Some, None, is_some, not, ◌&&◌, refl, ap, sym, ◌∙◌, arith, if◌then◌else◌}
use Rattle.std.specs.Option.{option_to_list}
use Rattle.std.proofs.lemmas.List.{append_assoc, append-nil}
use Rattle.std.proofs.Math.Bool.{and-false, and-true}
use Rattle.bsc_codes.specs.declared.block.Block.{Block}
use Rattle.rje_text.specs.declared.unpacked.Unpacked.{Unpacked}
use Rattle.rje_text.specs.Reading.{reading}
use Rattle.bsc_frame.specs.declared.frame.Frame.TheVariants as frame
use Rattle.bsc_frame.specs.declared.heard.Heard.{Heard}
use Rattle.bsc_frame.specs.declared.heard.Heard.TheVariants as heard
use Rattle.bsc_link.specs.declared.sound.Sound.TheVariants as Sound
use Rattle.bsc_link.specs.declared.receiver_place.ReceiverPlace.{ReceiverPlace}
use Rattle.bsc_link.specs.declared.receiver_place.ReceiverPlace.TheVariants as Place
use Rattle.bsc_link.specs.declared.wish.Wish.{Wish}
use Rattle.bsc_link.specs.Receiver.{ReceiverState, receiver_news}
use Rattle.rje_jobs.specs.declared.job.Job.{Job}
use Rattle.rje_jobs.specs.Joined.{mode_of_begun, with_records, joined_behind, ends_job, joined}
use Rattle.rje_station.specs.Receiving.{sound_taken, jobs_after}
use Rattle.rje_station.specs.JoinedJobs.{begun_in, with_read, with_block, with_blocks}
use Rattle.rje_station.specs.Laws.{JoinsBlocks, JoinsOn, accepted_after, HearsJobs}

pub last_begun : (js : List Job) (n : ℕ) (d : Job) → length js ≡ suc n → (get_or js n d).whole ≡ false → begun_in js ≡ Some (get_or js n d)
last_begun [] n d l h = absurd (omega (arith, l))
last_begun (j ∷ []) zero d l h = rw h refl
last_begun (j ∷ []) (suc n) d l h = absurd (omega (arith, l))
last_begun (j ∷ k ∷ js) zero d l h = absurd (omega (arith, l))
last_begun (j ∷ k ∷ js) (suc n) d l h = last_begun (k ∷ js) n d (omega (arith, l)) h

pub last_whole : (js : List Job) (n : ℕ) (d : Job) → length js ≡ suc n → (get_or js n d).whole ≡ true → begun_in js ≡ None
last_whole [] n d l h = absurd (omega (arith, l))
last_whole (j ∷ []) zero d l h = rw h refl
last_whole (j ∷ []) (suc n) d l h = absurd (omega (arith, l))
last_whole (j ∷ k ∷ js) zero d l h = absurd (omega (arith, l))
last_whole (j ∷ k ∷ js) (suc n) d l h = last_whole (k ∷ js) n d (omega (arith, l)) h

pick : (x j : Job) (b : Bool) → ◌≡◌ {A = Option Job} (if b then None else Some x) (Some j) → (b ≡ false) × (x ≡ j)
pick x j true h = absurd (none h)
  where
    none : ◌≡◌ {A = Option Job} None (Some j) → ⊥
    none e = cc
pick x j false h = (refl, cc)

pick_none : (x : Job) (b : Bool) → ◌≡◌ {A = Option Job} (if b then None else Some x) None → b ≡ true
pick_none x true h = refl
pick_none x false h = absurd (some h)
  where
    some : ◌≡◌ {A = Option Job} (Some x) None → ⊥
    some e = cc

-- the job in hand goes on
pub set_last : (js : List Job) (n : ℕ) (j : Job) (u : Unpacked) (w : Bool) → length js ≡ suc n → begun_in js ≡ Some j → slice_set js n (with_records (Some j) u w) ≡ with_read js u w
set_last [] n j u w l h = absurd (omega (arith, l))
set_last (x ∷ []) zero j u w l h =
    let p = pick x j x.whole h in
    rw p.0 (ap (λ y. with_records (Some y) u w ∷ []) (sym p.1))
set_last (x ∷ []) (suc n) j u w l h = absurd (omega (arith, l))
set_last (x ∷ y ∷ js) zero j u w l h = absurd (omega (arith, l))
set_last (x ∷ y ∷ js) (suc n) j u w l h = ap (λ xs. x ∷ xs) (set_last (y ∷ js) n j u w (omega (arith, l)) h)

-- a new job
pub push_last : (js : List Job) (u : Unpacked) (w : Bool) → begun_in js ≡ None → js ++ with_records None u w ∷ [] ≡ with_read js u w
push_last [] u w h = refl
push_last (x ∷ []) u w h = rw (pick_none x x.whole h) refl
push_last (x ∷ y ∷ js) u w h = ap (λ xs. x ∷ xs) (push_last (y ∷ js) u w h)

-- the mode says whether a job is begun
pub no_mode : (o : Option Job) → is_some (mode_of_begun o) ≡ false → o ≡ None
no_mode None h = refl
no_mode (Some j) h = absurd cc

pub begun_some : (js : List Job) → is_some (mode_of_begun (begun_in js)) ≡ true → 0 < length js
begun_some [] h = absurd cc
begun_some (j ∷ js) h = omega arith

pub begun_last : (js : List Job) (n : ℕ) (d : Job) → length js ≡ suc n → is_some (mode_of_begun (begun_in js)) ≡ true → begun_in js ≡ Some (get_or js n d)
begun_last js n d l h = by (get_or js n d).whole refl
  where
    by : (b : Bool) → (get_or js n d).whole ≡ b → begun_in js ≡ Some (get_or js n d)
    by true e = absurd (no (rw (last_whole js n d l e) at h))
      where
        no : false ≡ true → ⊥
        no g = cc
    by false e = last_begun js n d l e

-- ---- What the core accepts.

bad_not_accepted : (core : ReceiverState) (wish : Wish) (p : ReceiverPlace) → core.place ≡ p → (receiver_news core Sound.Bad wish).accepted ≡ false
bad_not_accepted core wish Place.Idle e = rw e refl
bad_not_accepted core wish Place.InTransmission e = rw e refl
bad_not_accepted core wish Place.Ended e = rw e refl

-- whether a block is accepted is known before it is read
pub jobs_same : (h : Heard) (refused : Bool) (core : ReceiverState) (wish : Wish) (jobs : List Job)
    → jobs_after h ((receiver_news core Sound.Block wish).accepted && not refused) jobs ≡ jobs_after h (receiver_news core (sound_taken h refused) wish).accepted jobs
jobs_same (heard.Frame (frame.Block b)) true core wish jobs =
    ap (λ x. jobs_after (heard.Frame (frame.Block b)) x jobs) (and-false (receiver_news core Sound.Block wish).accepted ∙ sym (bad_not_accepted core wish core.place refl))
jobs_same (heard.Frame (frame.Block b)) false core wish jobs = ap (λ x. jobs_after (heard.Frame (frame.Block b)) x jobs) (and-true (receiver_news core Sound.Block wish).accepted)
jobs_same (heard.Frame frame.Enq) refused core wish jobs = refl
jobs_same (heard.Frame frame.Ack0) refused core wish jobs = refl
jobs_same (heard.Frame frame.Ack1) refused core wish jobs = refl
jobs_same (heard.Frame frame.Nak) refused core wish jobs = refl
jobs_same (heard.Frame frame.Wack) refused core wish jobs = refl
jobs_same (heard.Frame frame.Rvi) refused core wish jobs = refl
jobs_same (heard.Frame frame.Ttd) refused core wish jobs = refl
jobs_same (heard.Frame frame.Abort) refused core wish jobs = refl
jobs_same (heard.Frame frame.Eot) refused core wish jobs = refl
jobs_same heard.Bad refused core wish jobs = refl
jobs_same heard.Noise refused core wish jobs = refl
jobs_same heard.Quiet refused core wish jobs = refl

-- ---- Joining block by block.

-- the jobs that are whole, and the one in hand
abbrev AreWhole : List Job → Type 0
AreWhole [] = Unit {0}
AreWhole (j ∷ js) = (j.whole ≡ true) × AreWhole js

abbrev IsBegun : Option Job → Type 0
IsBegun None = Unit {0}
IsBegun (Some j) = j.whole ≡ false

whole_append : (js : List Job) (j : Job) → AreWhole js → j.whole ≡ true → AreWhole (js ++ j ∷ [])
whole_append [] j h w = (w, tt)
whole_append (x ∷ js) j h w = (h.0, whole_append js j h.1 w)

begun_is : (done : List Job) (begun : Option Job) → AreWhole done → IsBegun begun → begun_in (done ++ option_to_list begun) ≡ begun
begun_is [] None h g = refl
begun_is [] (Some j) h g = rw g refl
begun_is (x ∷ []) None h g = rw h.0 refl
begun_is (x ∷ []) (Some j) h g = rw g refl
begun_is (x ∷ y ∷ js) begun h g = begun_is (y ∷ js) begun h.1 g

join_is : (done : List Job) (begun : Option Job) (u : Unpacked) (w : Bool) → AreWhole done → IsBegun begun → with_read (done ++ option_to_list begun) u w ≡ done ++ with_records begun u w ∷ []
join_is [] None u w h g = refl
join_is [] (Some j) u w h g = rw g refl
join_is (x ∷ []) None u w h g = rw h.0 refl
join_is (x ∷ []) (Some j) u w h g = ap (λ xs. x ∷ xs) (join_is [] (Some j) u w tt g)
join_is (x ∷ y ∷ js) begun u w h g = ap (λ xs. x ∷ xs) (join_is (y ∷ js) begun u w h.1 g)

whole_is : (begun : Option Job) (u : Unpacked) (w : Bool) → (with_records begun u w).whole ≡ w
whole_is None u w = refl
whole_is (Some j) u w = refl

begun_text : (begun : Option Job) (u : Unpacked) → IsBegun (Some (with_records begun u false))
begun_text begun u = whole_is begun u false

joins_read : (bs : List Block) (go : (done : List Job) (begun : Option Job) → AreWhole done → IsBegun begun → with_blocks (done ++ option_to_list begun) bs ≡ done ++ joined_behind begun bs) (done : List Job) (begun : Option Job) (o : Option Unpacked) (e : Bool) → AreWhole done → IsBegun begun
    → with_blocks (elim o [ None ↦ done ++ option_to_list begun | Some u ↦ with_read (done ++ option_to_list begun) u e ]) bs
    ≡ done ++ (elim o [ None ↦ joined_behind begun bs | Some u ↦ if e then with_records begun u true ∷ joined_behind None bs else joined_behind (Some (with_records begun u false)) bs ])
joins_read bs go done begun None e h g = go done begun h g
joins_read bs go done begun (Some u) true h g =
    let j = with_records begun u true in
    ap (λ js. with_blocks js bs) (join_is done begun u true h g ∙ sym (append-nil (done ++ j ∷ [])))
    ∙ go (done ++ j ∷ []) None (whole_append done j h (whole_is begun u true)) tt
    ∙ append_assoc done (j ∷ []) (joined_behind None bs)
joins_read bs go done begun (Some u) false h g =
    ap (λ js. with_blocks js bs) (join_is done begun u false h g) ∙ go done (Some (with_records begun u false)) h (begun_text begun u)

joins_from : (bs : List Block) (done : List Job) (begun : Option Job) → AreWhole done → IsBegun begun → with_blocks (done ++ option_to_list begun) bs ≡ done ++ joined_behind begun bs
joins_from [] done begun h g = refl
joins_from (b ∷ bs) done begun h g =
    ap (λ o. with_blocks (elim (reading b (mode_of_begun o)) [ None ↦ done ++ option_to_list begun | Some u ↦ with_read (done ++ option_to_list begun) u (ends_job b.closing) ]) bs) (begun_is done begun h g)
    ∙ joins_read bs (λ d o k l. joins_from bs d o k l) done begun (reading b (mode_of_begun begun)) (ends_job b.closing) h g

pub joins_blocks : JoinsBlocks
joins_blocks bs = joins_from bs [] None tt tt

with_append : (jobs : List Job) (bs : List Block) (b : Block) → with_blocks jobs (bs ++ b ∷ []) ≡ with_block (with_blocks jobs bs) b
with_append jobs [] b = refl
with_append jobs (x ∷ bs) b = with_append (with_block jobs x) bs b

pub joins_on : JoinsOn
joins_on bs b = ap (λ js. with_block js b) (sym (joins_blocks bs)) ∙ sym (with_append [] bs b) ∙ joins_blocks (bs ++ b ∷ [])

-- ---- What a station holds after a hearing.

joins_after : (h : Heard) (accepted : Bool) (jobs : List Job) (bs : List Block) → jobs ≡ joined bs → jobs_after h accepted jobs ≡ joined (accepted_after h accepted bs)
joins_after (heard.Frame (frame.Block b)) true jobs bs e = ap (λ js. with_block js b) e ∙ joins_on bs b
joins_after (heard.Frame (frame.Block b)) false jobs bs e = e
joins_after (heard.Frame frame.Enq) accepted jobs bs e = e
joins_after (heard.Frame frame.Ack0) accepted jobs bs e = e
joins_after (heard.Frame frame.Ack1) accepted jobs bs e = e
joins_after (heard.Frame frame.Nak) accepted jobs bs e = e
joins_after (heard.Frame frame.Wack) accepted jobs bs e = e
joins_after (heard.Frame frame.Rvi) accepted jobs bs e = e
joins_after (heard.Frame frame.Ttd) accepted jobs bs e = e
joins_after (heard.Frame frame.Abort) accepted jobs bs e = e
joins_after (heard.Frame frame.Eot) accepted jobs bs e = e
joins_after heard.Bad accepted jobs bs e = e
joins_after heard.Noise accepted jobs bs e = e
joins_after heard.Quiet accepted jobs bs e = e

pub hears_jobs : HearsJobs
hears_jobs accepted s what refused wish e = joins_after what (receiver_news s.core (sound_taken what refused) wish).accepted s.jobs accepted e
