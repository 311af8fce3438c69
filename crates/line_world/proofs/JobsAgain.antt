-- What the blocks of one job are joined to.
use Rattle.std.proofs.Common.{◌≡◌, ◌⊎◌, inl, inr, ℕ, ◌+◌, Bool, true, false, leb, List, [], ◌∷◌, ◌++◌, length, Option, Some, None, if◌then◌else◌, refl, ap, sym, ◌∙◌, arith}
use Rattle.std.specs.List.{flat_map}
use Rattle.std.proofs.lemmas.List.{append_assoc}
use Rattle.bsc_codes.specs.declared.block.Block.{Block}
use Rattle.bsc_codes.specs.declared.block.Closing.{Closing}
use Rattle.bsc_codes.specs.declared.block.Closing.TheVariants.{Etb, Etx}
use Rattle.rje_text.specs.declared.mode.Mode.{Mode}
use Rattle.rje_text.specs.declared.select.Select.{Select}
use Rattle.rje_text.specs.declared.record.Record.{Record}
use Rattle.rje_text.specs.declared.unpacked.Unpacked.{Unpacked}
use Rattle.rje_text.specs.Cut.{block, cut, cut_behind}
use Rattle.rje_text.specs.Laws.{IsJobRead}
use Rattle.rje_text.specs.Reading.{reading}
use Rattle.rje_text.specs.Spelling.{spelling}
use Rattle.rje_jobs.specs.declared.job.Job.{Job}
use Rattle.rje_jobs.specs.Blocks.{blocks, blocks_of_job}
use Rattle.rje_jobs.specs.Joined.{ends_job, mode_of_begun, with_records, joined_behind}
use Rattle.rje_station.specs.Sending.{ended_by, counted_by}

-- ---- ETX is on the last block of a job alone.

abbrev pub IsOneJob : List Block → Type 0
IsOneJob [] = ⊥
IsOneJob (b ∷ []) = b.closing ≡ Etx
IsOneJob (b ∷ c ∷ bs) = (b.closing ≡ Etb) × IsOneJob (c ∷ bs)

one_more : (b : Block) (bs : List Block) → b.closing ≡ Etb → IsOneJob bs → IsOneJob (b ∷ bs)
one_more b [] e h = absurd h
one_more b (c ∷ bs) e h = (e, h)

one_if : (t : Bool) (a b : List Block) → IsOneJob a → IsOneJob b → IsOneJob (if t then a else b)
one_if true a b h k = h
one_if false a b h k = k

cut_one : (mode : Mode) (text : List ℕ) (rs : List Record) → IsOneJob (cut_behind mode text rs)
cut_one mode text [] = refl
cut_one mode text (r ∷ rs) =
    one_if (leb (length (text ++ spelling mode r)) 510) _ _ (cut_one mode (text ++ spelling mode r) rs) (one_more (block mode Etb text) (cut_behind mode (spelling mode r) rs) refl (cut_one mode (spelling mode r) rs))

pub job_one : (j : Job) → IsOneJob (blocks_of_job j)
unfolding cut
job_one j = cut_one j.mode _ j.records

-- ---- They end one job.

ended_one : (bs rest : List Block) → IsOneJob bs → ended_by (bs ++ rest) ≡ ended_by rest + 1
ended_one [] rest h = absurd h
ended_one (b ∷ []) rest h = ap (λ c. counted_by c (ended_by rest)) h
ended_one (b ∷ c ∷ bs) rest h = ap (λ k. counted_by k (ended_by (c ∷ bs ++ rest))) h.0 ∙ ended_one (c ∷ bs) rest h.1

pub ended_all : (jobs : List Job) → ended_by (blocks jobs) ≡ length jobs
ended_all [] = refl
ended_all (j ∷ js) =
    let e : length js + 1 ≡ length (j ∷ js) = omega arith in
    ended_one (blocks_of_job j) (blocks js) (job_one j) ∙ ap (λ n. n + 1) (ended_all js) ∙ e

-- ---- They are joined to the job.

nil_behind : (xs : List Record) → xs ++ [] ≡ xs
nil_behind [] = refl
nil_behind (x ∷ xs) = ap (λ ys. x ∷ ys) (nil_behind xs)

same_select : (x y : Select) → Some x ≡ Some y → x ≡ y
same_select x y e = cc

-- the job of what was read of its blocks
abbrev pub job_of : Option Job → List Unpacked → Option Job
job_of begun [] = None
job_of begun (u ∷ []) = Some (with_records begun u true)
job_of begun (u ∷ v ∷ us) = job_of (Some (with_records begun u false)) (v ∷ us)

pub kept : (mode : Mode) (begun : Option Job) (so_far : Option Mode) (u : Unpacked) → mode_of_begun begun ≡ so_far → u.mode ≡ mode → (so_far ≡ None) ⊎ (so_far ≡ Some mode) → mode_of_begun (Some (with_records begun u false)) ≡ Some u.mode
kept mode None so_far u same moded now = refl
kept mode (Some j) so_far u same moded (inl none) = let e : Some j.mode ≡ None = same ∙ none in absurd cc
kept mode (Some j) so_far u same moded (inr is) = same ∙ is ∙ ap (λ x. Some x) (sym moded)

-- one step of joining, by what was read
abbrev joined_on : Option Unpacked → Option Job → Closing → List Block → List Job
joined_on None begun closing rest = joined_behind begun rest
joined_on (Some u) begun Etx rest = with_records begun u true ∷ joined_behind None rest
joined_on (Some u) begun Etb rest = joined_behind (Some (with_records begun u false)) rest

step_by : (o : Option Unpacked) (begun : Option Job) (c : Closing) (rest : List Block) → elim o [
  | None ↦ joined_behind begun rest
  | Some u ↦ if ends_job c
      then with_records begun u true ∷ joined_behind None rest
      else joined_behind (Some (with_records begun u false)) rest
] ≡ joined_on o begun c rest
step_by None begun c rest = refl
step_by (Some u) begun Etx rest = refl
step_by (Some u) begun Etb rest = refl

step_is : (begun : Option Job) (b : Block) (rest : List Block) → joined_behind begun (b ∷ rest) ≡ joined_on (reading b (mode_of_begun begun)) begun b.closing rest
step_is begun b rest = step_by (reading b (mode_of_begun begun)) begun b.closing rest

pub last_read : (begun : Option Job) (b : Block) (rest : List Block) (u : Unpacked) → reading b (mode_of_begun begun) ≡ Some u → b.closing ≡ Etx → joined_behind begun (b ∷ rest) ≡ with_records begun u true ∷ joined_behind None rest
last_read begun b rest u e c = step_is begun b rest ∙ ap (λ o. joined_on o begun b.closing rest) e ∙ ap (λ k. joined_on (Some u) begun k rest) c

pub next_read : (begun : Option Job) (b : Block) (rest : List Block) (u : Unpacked) → reading b (mode_of_begun begun) ≡ Some u → b.closing ≡ Etb → joined_behind begun (b ∷ rest) ≡ joined_behind (Some (with_records begun u false)) rest
next_read begun b rest u e c = step_is begun b rest ∙ ap (λ o. joined_on o begun b.closing rest) e ∙ ap (λ k. joined_on (Some u) begun k rest) c

abbrev pub records_read : List Unpacked → List Record
records_read us = flat_map (λ u. u.records) us

pub more_of : (j : Job) (u : Unpacked) (us : List Unpacked) → job_of (Some j) (u ∷ us) ≡ Some (record j { records = j.records ++ records_read (u ∷ us); whole = true })
more_of j u [] = ap (λ rs. Some (record j { records = j.records ++ rs; whole = true })) (sym (nil_behind u.records))
more_of j u (v ∷ us) =
    more_of (with_records (Some j) u false) v us ∙ ap (λ rs. Some (record j { records = rs; whole = true })) (append_assoc j.records u.records (records_read (v ∷ us)))

all_of : (u : Unpacked) (us : List Unpacked) → job_of None (u ∷ us) ≡ Some (record { select = u.select; mode = u.mode; records = records_read (u ∷ us); whole = true })
all_of u [] = ap (λ rs. Some (record { select = u.select; mode = u.mode; records = rs; whole = true })) (sym (nil_behind u.records))
all_of u (v ∷ us) = more_of (with_records None u false) v us

same_job : (j : Job) (u : Unpacked) (us : List Unpacked) → j.whole ≡ true → IsJobRead j.select j.mode j.records (u ∷ us) → Some (record { select = u.select; mode = u.mode; records = records_read (u ∷ us); whole = true }) ≡ Some j
same_job j u us whole read =
    let select : u.select ≡ j.select = same_select _ _ read.selected in
    ap (λ x. Some (record { select = x; mode = u.mode; records = records_read (u ∷ us); whole = true })) select
    ∙ ap (λ x. Some (record { select = j.select; mode = x; records = records_read (u ∷ us); whole = true })) read.moded.0
    ∙ ap (λ x. Some (record { select = j.select; mode = j.mode; records = x; whole = true })) read.all
    ∙ ap (λ x. Some (record { select = j.select; mode = j.mode; records = j.records; whole = x })) (sym whole)

pub job_is : (j : Job) (us : List Unpacked) → j.whole ≡ true → IsJobRead j.select j.mode j.records us → job_of None us ≡ Some j
job_is j [] whole read = let e : None ≡ Some j.select = read.selected in absurd cc
job_is j (u ∷ us) whole read = all_of u us ∙ same_job j u us whole read
