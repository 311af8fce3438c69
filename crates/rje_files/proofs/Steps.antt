-- A reader's steps, byte by byte.
use Rattle.std.proofs.Common.{◌≡◌, ◌≢◌, ℕ, suc, ◌+◌, ◌*◌, ◌-◌, ◌^◌, ◌<◌, ◌≤◌, Bool, true, false, ◌==◌, List, [], ◌∷◌, drop, get_or, refl, ap, sym, ◌∙◌, subst, arith}
use Rattle.std.proofs.lemmas.List.{drop_more}
use Rattle.rje_files.specs.declared.job_file.reader.Due.{Due}
use Rattle.rje_files.specs.declared.job_file.reader.Due.TheVariants.{Head, JobCount, Name, Select, Action, Length, Data}
use Rattle.rje_files.specs.declared.job_file.reader.Reader.{Reader}
use Rattle.rje_files.specs.declared.job_file.version.FileVersion.{FileVersion}
use Rattle.rje_files.specs.declared.job_file.version.FileVersion.TheVariants.{First, Second}
use Rattle.rje_files.specs.Entry.{may_stand}
use Rattle.rje_files.specs.JobFile.{head}
use Rattle.rje_files.specs.Inside.Reading.Grammar.{TheseBytes, Number, Records, Entries, FromVersion, is_action_byte}
use Rattle.rje_files.specs.Inside.Reading.Reader.{Expects, Follows, IsSound, IsSoundDue, IsStep}

-- what follows, where the reader's due is known
pub at_due : (d : Reader) (due : Due) (xs : List ℕ) → d.due ≡ due → Expects d xs → Follows due d.version d.jobs d.records xs
at_due d due xs e h = subst (λ (q : Due). Follows q d.version d.jobs d.records xs) e h

pub from_due : (d : Reader) (due : Due) (xs : List ℕ) → d.due ≡ due → Follows due d.version d.jobs d.records xs → Expects d xs
from_due d due xs e h = subst (λ (q : Due). Follows q d.version d.jobs d.records xs) (sym e) h

head_open : (k : ℕ) → k < 5 → drop k head ≡ get_or head k 0 ∷ drop (k + 1) head
head_open k l = drop_more head k 0 (omega arith)

pub head_refused : (d : Reader) (k x : ℕ) → d.due ≡ Head k → k < 5 → x ≢ get_or head k 0 → (xs : List ℕ) → Expects d (x ∷ xs) → ⊥
head_refused d k x e l n xs h =
    let t = subst (λ (hs : List ℕ). TheseBytes hs (FromVersion d.version) (x ∷ xs)) (head_open k l) (at_due d (Head k) (x ∷ xs) e h) in
    n t.0

pub head_ends : (v : FileVersion) (k : ℕ) → k < 5 → TheseBytes (drop k head) (FromVersion v) [] → ⊥
head_ends v k l h = subst (λ (hs : List ℕ). TheseBytes hs (FromVersion v) []) (head_open k l) h

pub head_step : (d : Reader) (k x : ℕ) → d.due ≡ Head k → k < 5 → k ≢ 4 → x ≡ get_or head k 0 → IsStep d x (record d { due = Head (k + 1) })
head_step d k x e l n same = record {
  sound = omega arith;
  there = λ xs h.
      let t = subst (λ (hs : List ℕ). TheseBytes hs (FromVersion d.version) (x ∷ xs)) (head_open k l) (at_due d (Head k) (x ∷ xs) e h) in t.1;
  back = λ xs h.
      from_due d (Head k) (x ∷ xs) e (subst (λ (hs : List ℕ). TheseBytes hs (FromVersion d.version) (x ∷ xs)) (sym (head_open k l)) (same, h));
}

pub action_step : (d : Reader) (x : ℕ) → d.due ≡ Action → is_action_byte x ≡ true → IsStep d x (record d { due = Length })
action_step d x e a = record {
  sound = tt;
  there = λ xs h. (at_due d Action (x ∷ xs) e h).1;
  back = λ xs h. from_due d Action (x ∷ xs) e (a, h);
}

pub length_step : (d : Reader) (x : ℕ) → d.due ≡ Length → x ≢ 0 → x ≤ 144 → IsStep d x (record d { due = Data x })
length_step d x e a l = record {
  sound = omega arith;
  there = λ xs h. (at_due d Length (x ∷ xs) e h).1;
  back = λ xs h. from_due d Length (x ∷ xs) e (l, h);
}

pub name_step : (d : Reader) (n m : ℕ) (ended : Bool) (x : ℕ) → d.due ≡ Name n ended → n ≡ suc m → 0 < m → m ≤ 8 → may_stand ended x ≡ true
    → IsStep d x (record d { due = Name m (x == 0x20) })
name_step d n m ended x e en l k good =
    let due : d.due ≡ Name (suc m) ended = e ∙ ap (λ (i : ℕ). Name i ended) en in
    record {
      sound = (l, k);
      there = λ xs h. (at_due d (Name (suc m) ended) (x ∷ xs) due h).1;
      back = λ xs h. from_due d (Name (suc m) ended) (x ∷ xs) due (good, h);
    }

pub name_sound : (d : Reader) (n : ℕ) (ended : Bool) → d.due ≡ Name n ended → IsSound d → (0 < n) × (n ≤ 8)
name_sound d n ended e h = subst IsSoundDue e h

pub count_step : (d : Reader) (n m c k x : ℕ) → d.due ≡ JobCount n c → n ≡ suc m → 0 < m → m ≤ 8 → k ≡ c * 256 + x → k < 256 ^ (8 - m) → x < 256
    → IsStep d x (record d { due = JobCount m k })
count_step d n m c k x e en l top value bound byte =
    let due : d.due ≡ JobCount (suc m) c = e ∙ ap (λ (i : ℕ). JobCount i c) en in
    record {
      sound = (l, top, bound);
      there = λ xs h. subst (λ (i : ℕ). Number m i (Entries d.version) xs) (sym value) (at_due d (JobCount (suc m) c) (x ∷ xs) due h).1;
      back = λ xs h. from_due d (JobCount (suc m) c) (x ∷ xs) due (byte, subst (λ (i : ℕ). Number m i (Entries d.version) xs) value h);
    }

pub count_sound : (d : Reader) (n c : ℕ) → d.due ≡ JobCount n c → IsSound d → (0 < n) × (n ≤ 8) × (c < 256 ^ (8 - n))
count_sound d n c e h = subst IsSoundDue e h

-- an entry's first field is due in front of an entry
pub entry_there : (v : FileVersion) (due : Due) (r n j : ℕ) → (v ≡ First → due ≡ Select) → (v ≡ Second → due ≡ Name 8 false) → r ≡ 0 → n ≡ suc j
    → (xs : List ℕ) → Records r (Entries v n) xs → Follows due v j 0 xs
entry_there First due r n j f g er en xs h =
    subst (λ (q : Due). Follows q First j 0 xs) (sym (f refl)) (subst (λ (i : ℕ). Entries First i xs) en (subst (λ (i : ℕ). Records i (Entries First n) xs) er h))
entry_there Second due r n j f g er en xs h =
    subst (λ (q : Due). Follows q Second j 0 xs) (sym (g refl)) (subst (λ (i : ℕ). Entries Second i xs) en (subst (λ (i : ℕ). Records i (Entries Second n) xs) er h))

pub entry_back : (v : FileVersion) (due : Due) (r n j : ℕ) → (v ≡ First → due ≡ Select) → (v ≡ Second → due ≡ Name 8 false) → r ≡ 0 → n ≡ suc j
    → (xs : List ℕ) → Follows due v j 0 xs → Records r (Entries v n) xs
entry_back First due r n j f g er en xs h =
    subst (λ (i : ℕ). Records i (Entries First n) xs) (sym er) (subst (λ (i : ℕ). Entries First i xs) (sym en) (subst (λ (q : Due). Follows q First j 0 xs) (f refl) h))
entry_back Second due r n j f g er en xs h =
    subst (λ (i : ℕ). Records i (Entries Second n) xs) (sym er) (subst (λ (i : ℕ). Entries Second i xs) (sym en) (subst (λ (q : Due). Follows q Second j 0 xs) (g refl) h))
