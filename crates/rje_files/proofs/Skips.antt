-- A reader's steps over data, many bytes at once.
use Rattle.std.proofs.Common.{◌≡◌, ℕ, suc, ◌+◌, ◌<◌, List, [], ◌∷◌, ◌++◌, length, ap, sym, subst, arith}
use Rattle.rje_files.specs.declared.job_file.reader.Due.{Due}
use Rattle.rje_files.specs.declared.job_file.reader.Due.TheVariants.{Head, Version, JobCount, Name, State, Select, Mode, Whole, RecordCount, Action, Length, Data, Nothing}
use Rattle.rje_files.specs.declared.job_file.reader.Reader.{Reader}
use Rattle.rje_files.specs.Inside.Reading.Grammar.{AnyBytes, Records, Entries}
use Rattle.rje_files.specs.Inside.Reading.Reader.{Expects, IsSound, IsSkip, data_left}
use Rattle.rje_files.proofs.Steps.{at_due, from_due}

-- any bytes that begin with these
bytes_on : (ys xs : List ℕ) (n : ℕ) (Rest : List ℕ → Type 0) → AnyBytes (length ys + n) Rest (ys ++ xs) → AnyBytes n Rest xs
bytes_on [] xs n Rest h = let e : 0 + n ≡ n = omega arith in subst (λ (k : ℕ). AnyBytes k Rest xs) e h
bytes_on (y ∷ ys) xs n Rest h =
    let e : suc (length ys) + n ≡ suc (length ys + n) = omega arith in
    bytes_on ys xs n Rest (subst (λ (k : ℕ). AnyBytes k Rest (y ∷ (ys ++ xs))) e h)

bytes_back : (ys xs : List ℕ) (n : ℕ) (Rest : List ℕ → Type 0) → AnyBytes n Rest xs → AnyBytes (length ys + n) Rest (ys ++ xs)
bytes_back [] xs n Rest h = let e : n ≡ 0 + n = omega arith in subst (λ (k : ℕ). AnyBytes k Rest xs) e h
bytes_back (y ∷ ys) xs n Rest h =
    let e : suc (length ys + n) ≡ suc (length ys) + n = omega arith in
    subst (λ (k : ℕ). AnyBytes k Rest (y ∷ (ys ++ xs))) e (bytes_back ys xs n Rest h)

-- what is due, where data are
pub data_is : (d : Due) (n : ℕ) → 0 < n → data_left d ≡ n → d ≡ Data n
data_is (Data m) n l e = ap Data e
data_is (Head k) n l e = absurd (omega (arith, l, e))
data_is Version n l e = absurd (omega (arith, l, e))
data_is (JobCount m v) n l e = absurd (omega (arith, l, e))
data_is (Name m ended) n l e = absurd (omega (arith, l, e))
data_is State n l e = absurd (omega (arith, l, e))
data_is Select n l e = absurd (omega (arith, l, e))
data_is Mode n l e = absurd (omega (arith, l, e))
data_is Whole n l e = absurd (omega (arith, l, e))
data_is (RecordCount m v) n l e = absurd (omega (arith, l, e))
data_is Action n l e = absurd (omega (arith, l, e))
data_is Length n l e = absurd (omega (arith, l, e))
data_is Nothing n l e = absurd (omega (arith, l, e))

-- what is left of a record's data, and what follows it
abbrev Left : Reader → ℕ → List ℕ → Type 0
Left d n = AnyBytes n (Records d.records (Entries d.version d.jobs))

pub skip : (d e : Reader) (count left : ℕ) → d.due ≡ Data (count + left) → IsSound e
    → ((xs : List ℕ) → Left d left xs → Expects e xs) → ((xs : List ℕ) → Expects e xs → Left d left xs) → IsSkip d count e
skip d e count left due sound on back = record {
  sound = sound;
  there = λ ys xs l h. on xs (bytes_on ys xs left (Records d.records (Entries d.version d.jobs))
      (subst (λ (n : ℕ). Left d (n + left) (ys ++ xs)) (sym l) (at_due d (Data (count + left)) (ys ++ xs) due h)));
  back = λ ys xs l h. from_due d (Data (count + left)) (ys ++ xs) due
      (subst (λ (n : ℕ). Left d (n + left) (ys ++ xs)) l (bytes_back ys xs left (Records d.records (Entries d.version d.jobs)) (back xs h)));
}
