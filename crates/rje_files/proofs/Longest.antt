-- Where a reader stops: the longest prefix that begins a job file.
use Rattle.std.proofs.Common.{◌≡◌, ℕ, zero, suc, ◌+◌, ◌*◌, ◌<◌, ◌≤◌, Bool, true, false, List, [], ◌∷◌, ◌++◌, length, take, drop, get_or, refl, ap, sym, ◌∙◌, subst, arith}
use Rattle.std.proofs.lemmas.List.{append_assoc, append-nil, take_more, take_all, length-take-le, length-drop}
use Rattle.std.proofs.Math.Seq.{take-add}
use Rattle.rje_files.specs.declared.job_file.reader.Due.{Due}
use Rattle.rje_files.specs.declared.job_file.reader.Due.TheVariants.{Head, Version, JobCount, Name, State, Select, Mode, Whole, RecordCount, Action, Length, Data, Nothing}
use Rattle.rje_files.specs.declared.job_file.reader.Reader.{Reader}
use Rattle.rje_files.specs.declared.job_file.version.FileVersion.{FileVersion}
use Rattle.rje_files.specs.declared.job_file.version.FileVersion.TheVariants.{First, Second}
use Rattle.rje_files.specs.JobFile.{IsFileUpTo, head}
use Rattle.rje_files.specs.FileFault.{Begins, IsLongest}
use Rattle.rje_files.specs.Inside.Reading.Grammar.{TheseBytes, Number, AnyBytes, Records, Name as NameBytes, AfterMode, AfterSelect, FromSelect, FromState, Fields, Counted, Entries, FromVersion, File}
use Rattle.rje_files.specs.Inside.Reading.Reader.{Expects, Rest, Follows, IsSound, IsSkip, HasRead}
use Rattle.rje_files.proofs.Steps.{at_due, from_due}
use Rattle.rje_files.proofs.Grammar.{file_there, file_back}

-- Something may always follow.
abbrev Word : (List ℕ → Type 0) → Type 0
Word Rest = (xs : List ℕ) × Rest xs

these_word : (hs : List ℕ) (Rest : List ℕ → Type 0) → Word Rest → Word (TheseBytes hs Rest)
these_word [] Rest w = w
these_word (h ∷ hs) Rest w = let more = these_word hs Rest w in (h ∷ more.0, (refl, more.1))

number_word : (n v : ℕ) (Rest : ℕ → List ℕ → Type 0) → ((k : ℕ) → Word (Rest k)) → Word (Number n v Rest)
number_word zero v Rest w = w v
number_word (suc n) v Rest w = let more = number_word n (v * 256 + 0) Rest w in (0 ∷ more.0, (omega arith, more.1))

bytes_word : (n : ℕ) (Rest : List ℕ → Type 0) → Word Rest → Word (AnyBytes n Rest)
bytes_word zero Rest w = w
bytes_word (suc n) Rest w = let more = bytes_word n Rest w in (0 ∷ more.0, more.1)

records_word : (r : ℕ) (Rest : List ℕ → Type 0) → Word Rest → Word (Records r Rest)
records_word zero Rest w = w
records_word (suc r) Rest w = let more = records_word r Rest w in (0 ∷ 0 ∷ more.0, (refl, (omega arith, more.1)))

name_word : (n : ℕ) (ended : Bool) (Rest : List ℕ → Type 0) → Word Rest → Word (NameBytes n ended Rest)
name_word zero ended Rest w = w
name_word (suc n) ended Rest w = let more = name_word n true Rest w in (0x20 ∷ more.0, (refl, more.1))

mode_word : (v : FileVersion) (Rest : List ℕ → Type 0) → Word Rest → Word (AfterMode v Rest)
mode_word First Rest w = (0 ∷ w.0, (omega arith, w.1))
mode_word Second Rest w = w

select_word : (v : FileVersion) (Rest : List ℕ → Type 0) → Word Rest → Word (AfterSelect v Rest)
select_word v Rest w = let more = mode_word v Rest w in (0 ∷ more.0, (omega arith, more.1))

from_select_word : (v : FileVersion) (Rest : List ℕ → Type 0) → Word Rest → Word (FromSelect v Rest)
from_select_word v Rest w = let more = select_word v Rest w in (0 ∷ more.0, (omega arith, more.1))

from_state_word : (v : FileVersion) (Rest : List ℕ → Type 0) → Word Rest → Word (FromState v Rest)
from_state_word v Rest w = let more = from_select_word v Rest w in (0 ∷ more.0, (omega arith, more.1))

fields_word : (v : FileVersion) (Rest : List ℕ → Type 0) → Word Rest → Word (Fields v Rest)
fields_word First Rest w = from_select_word First Rest w
fields_word Second Rest w = name_word 8 false (FromState Second Rest) (from_state_word Second Rest w)

entries_word : (v : FileVersion) (j : ℕ) → Word (Entries v j)
entries_word v zero = ([], refl)
entries_word v (suc j) =
    let Rest : ℕ → List ℕ → Type 0 = λ r. Records r (Entries v j) in
    fields_word v (Counted Rest) (number_word 8 0 Rest (λ r. records_word r (Entries v j) (entries_word v j)))

of_entry : (v : FileVersion) (j : ℕ) → (r : ℕ) → Word (Records r (Entries v j))
of_entry v j r = records_word r (Entries v j) (entries_word v j)

rest_word : (v : FileVersion) (j : ℕ) → Word (Rest v j)
rest_word v j = number_word 8 0 (λ (q : ℕ). Records q (Entries v j)) (of_entry v j)

version_word : (v : FileVersion) → Word (FromVersion v)
version_word First = let more = number_word 8 0 (Entries First) (entries_word First) in (1 ∷ more.0, more.1)
version_word Second = let more = number_word 8 0 (Entries First) (entries_word First) in (1 ∷ more.0, more.1)

due_word : (d : Due) (v : FileVersion) (j r : ℕ) → Word (Follows d v j r)
due_word (Head k) v j r = these_word (drop k head) (FromVersion v) (version_word v)
due_word Version v j r = version_word v
due_word (JobCount n c) v j r = number_word n c (Entries v) (entries_word v)
due_word (Name n ended) v j r = name_word n ended (FromState v (Rest v j)) (from_state_word v (Rest v j) (rest_word v j))
due_word State v j r = from_state_word v (Rest v j) (rest_word v j)
due_word Select v j r = from_select_word v (Rest v j) (rest_word v j)
due_word Mode v j r = select_word v (Rest v j) (rest_word v j)
due_word Whole v j r = mode_word First (Rest v j) (rest_word v j)
due_word (RecordCount n c) v j r = number_word n c (λ (q : ℕ). Records q (Entries v j)) (of_entry v j)
due_word Action v j r = of_entry v j (suc r)
due_word Length v j r = let more = of_entry v j r in (0 ∷ more.0, (omega arith, more.1))
due_word (Data n) v j r = bytes_word n (Records r (Entries v j)) (of_entry v j r)
due_word Nothing v j r = ([], refl)

-- a reader at the front
pub read_none : (newest : FileVersion) (d : Reader) → d.due ≡ Head 0 → d.version ≡ newest → HasRead (IsFileUpTo newest) [] d
read_none newest d e same = record {
  sound = subst (λ (q : Due). IsSound (record d { due = q })) (sym e) (omega arith);
  there = λ xs h. from_due d (Head 0) xs e (subst (λ (v : FileVersion). File v xs) (sym same) (file_there newest xs h));
  back = λ xs h. file_back newest xs (subst (λ (v : FileVersion). File v xs) same (at_due d (Head 0) xs e h));
}

regroup : (b : List ℕ) (p : ℕ) (xs : List ℕ) → p < length b → take (p + 1) b ++ xs ≡ take p b ++ get_or b p 0 ∷ xs
regroup b p xs l = ap (λ (ys : List ℕ). ys ++ xs) (take_more b p 0 l) ∙ append_assoc (take p b) (get_or b p 0 ∷ []) xs

-- over what a file is
module _ (IsFile : List ℕ → Type 0) where
  pub read_past : (b : List ℕ) (p n : ℕ) (d e : Reader) → p + n ≤ length b → HasRead IsFile (take p b) d → IsSkip d n e → HasRead IsFile (take (p + n) b) e
  read_past b p n d e l h s =
      let ys = take n (drop p b) in
      let len : length ys ≡ n = length-take-le n (drop p b) (omega (arith, length-drop p b, l)) in
      let join : (xs : List ℕ) → take (p + n) b ++ xs ≡ take p b ++ (ys ++ xs) = λ xs. ap (λ (zs : List ℕ). zs ++ xs) (take-add p n b) ∙ append_assoc (take p b) ys xs in
      record {
        sound = s.sound;
        there = λ xs f. s.there ys xs len (h.there (ys ++ xs) (subst IsFile (join xs) f));
        back = λ xs f. subst IsFile (sym (join xs)) (h.back (ys ++ xs) (s.back ys xs len f));
      }

  pub begins : (front : List ℕ) (d : Reader) → HasRead IsFile front d → Begins IsFile front
  begins front d h = let w = due_word d.due d.version d.jobs d.records in (w.0, h.back w.0 w.1)

  pub longest : (b : List ℕ) (p : ℕ) (d : Reader) → p < length b → HasRead IsFile (take p b) d → ((xs : List ℕ) → Expects d (get_or b p 0 ∷ xs) → ⊥) → IsLongest IsFile b p
  longest b p d l h n = record {
    within = omega arith;
    begins = begins (take p b) d h;
    stops = λ _ f. n f.0 (h.there (get_or b p 0 ∷ f.0) (subst IsFile (regroup b p f.0 l) f.1));
  }

  -- a reader at the end of all bytes
  pub read_all : (b : List ℕ) (p : ℕ) (d : Reader) → length b ≤ p → HasRead IsFile (take p b) d → HasRead IsFile b d
  read_all b p d l h = subst (λ (xs : List ℕ). HasRead IsFile xs d) (take_all p b l) h

  pub all_read : (b : List ℕ) (d : Reader) → HasRead IsFile b d → IsLongest IsFile b (length b)
  all_read b d h =
      let whole : take (length b) b ≡ b = take_all (length b) b (omega arith) in
      record { within = omega arith; begins = rw whole (begins b d h); stops = λ l _. absurd (omega (arith, l)) }

  -- a prefix is a file where nothing more may come
  pub is_file : (front : List ℕ) (d : Reader) → HasRead IsFile front d → Expects d [] → IsFile front
  is_file front d h e = subst IsFile (append-nil front) (h.back [] e)

  pub no_file : (front : List ℕ) (d : Reader) → HasRead IsFile front d → (Expects d [] → ⊥) → IsFile front → ⊥
  no_file front d h e f = e (h.there [] (subst IsFile (sym (append-nil front)) f))

  -- a whole file
  pub whole_file : (b : List ℕ) → IsFile b → IsLongest IsFile b (length b)
  whole_file b h =
      let whole : take (length b) b ≡ b = take_all (length b) b (omega arith) in
      record { within = omega arith; begins = ([], subst IsFile (sym (append-nil (take (length b) b) ∙ whole)) h); stops = λ l _. absurd (omega (arith, l)) }
