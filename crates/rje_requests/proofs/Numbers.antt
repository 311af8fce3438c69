-- What the texts of numbers, and the parts of a text, tell.
use Rattle.std.proofs.Common.{◌≡◌, ◌↔◌, ◌+◌, ◌<◌, ◌≤◌, ◌^◌, ℕ, Bool, true, false, IsTrue, List, [], ◌∷◌, length, Option, Some, None, Result, Ok, Err, MatchOption, is_some, ltb, refl, sym, ap, subst, ◌∙◌, arith}
use Rattle.std.specs.Prelude.{◌==◌, ◌&&◌, ◌||◌}
use Rattle.std.specs.Borrow.{Bor}
use Rattle.std.specs.Char.{digit_value, is_digit}
use Rattle.std.specs.List.{All, after_first, before_first, list_all, list_any, onto_first, position_or_len}
use Rattle.std.specs.Str.Parse.{AllDigits, IsNumeral, ParsesUnsigned, digits_value, without_leading_plus}
use Rattle.std.proofs.lemmas.Bool.{eq-eqb, eqb-true, false≢true, lt-ltb, ltb-false, ltb-true}
use Rattle.std.proofs.lemmas.List.Splits.{slice_split-cons_no, slice_split_first}
use Rattle.rje_requests.specs.Callers.{parts_of}
use Rattle.rje_requests.specs.JobNumbers.{AreJobNumbers, AreOthers, AreWithin, HasAbove, IsAbove, IsAnother, IsJobNumber, IsWithin, has_number, is_number, is_numeral}

-- NUMERALS

both : (a b : Bool) → (a && b) ≡ true → (a ≡ true) × (b ≡ true)
both true true e = (refl, refl)
both true false e = cc
both false b e = cc

all_digits : (ds : List ℕ) → AllDigits 10 ds → list_all (λ d. is_digit d 10) ds ≡ true
all_digits [] h = refl
all_digits (c ∷ cs) h =
    let first : is_digit c 10 ≡ true = lt-ltb (digit_value c) 10 h.0 in
    let rest : list_all (λ d. is_digit d 10) cs ≡ true = all_digits cs h.1 in
    rw (first, rest) refl

digits_all : (ds : List ℕ) → list_all (λ d. is_digit d 10) ds ≡ true → AllDigits 10 ds
digits_all [] e = tt
digits_all (c ∷ cs) e =
    let parts = both (is_digit c 10) (list_all (λ d. is_digit d 10) cs) e in
    (ltb-true (digit_value c) 10 parts.0, digits_all cs parts.1)

numeral : (ds : List ℕ) → IsNumeral 10 ds → is_numeral ds ≡ true
numeral [] h = absurd (omega (arith, h.0))
numeral (c ∷ cs) h = all_digits (c ∷ cs) h.1

is_some_numeral : (ds : List ℕ) → is_numeral ds ≡ true → IsNumeral 10 ds
is_some_numeral [] e = cc
is_some_numeral (c ∷ cs) e = (omega arith, digits_all (c ∷ cs) e)

-- A TEXT THAT IS READ AS A NUMBER OF 64 BITS

-- it is read as this number
abbrev pub IsRead : (text : List ℕ) → ℕ → Type 0
IsRead text number =
    (IsNumeral 10 (without_leading_plus text) × (digits_value 10 (without_leading_plus text) < 2 ^ 64))
    × (number ≡ digits_value 10 (without_leading_plus text))

-- it is the number that is read
pub read_is : (text : List ℕ) (number : ℕ) → IsRead text number → is_number number text ≡ true
read_is text number h =
    rw (numeral (without_leading_plus text) h.0.0, eq-eqb (digits_value 10 (without_leading_plus text)) number (sym h.1)) refl

pub read_small : (text : List ℕ) (number : ℕ) → IsRead text number → number < 2 ^ 64
read_small text number h = rw h.1 h.0.1

-- what it is is read of it
pub is_read : {E : Type 0} (text : List ℕ) (r : Result ℕ E) (number : ℕ) → ParsesUnsigned 64 10 text r → is_number number text ≡ true → number < 2 ^ 64 → r ≡ Ok number
is_read {E} text r number h e small = go r h
  where
    parts : (is_numeral (without_leading_plus text) ≡ true) × ((digits_value 10 (without_leading_plus text) == number) ≡ true)
    parts = both (is_numeral (without_leading_plus text)) (digits_value 10 (without_leading_plus text) == number) e

    value : digits_value 10 (without_leading_plus text) ≡ number
    value = eqb-true (digits_value 10 (without_leading_plus text)) number parts.1

    go : (r : Result ℕ E) → ParsesUnsigned 64 10 text r → r ≡ Ok number
    go (Ok read) h = ap (λ (n : ℕ). Ok n) (h.1 ∙ value)
    go (Err error) h = absurd (h (is_some_numeral (without_leading_plus text) parts.0, rw value small))

-- whether it is a number is told by what is read of it
pub read_same : (text : List ℕ) (number read : ℕ) → IsRead text read → (read == number) ≡ is_number number text
read_same text number read h = rw (numeral (without_leading_plus text) h.0.0, ← h.1) refl

pub unread_not : {E : Type 0} (text : List ℕ) (number : ℕ) (error : E) → ParsesUnsigned {E = E} 64 10 text (Err error) → number < 2 ^ 64 → false ≡ is_number number text
unread_not {E} text number error h small = go (is_number number text) refl
  where
    go : (b : Bool) → is_number number text ≡ b → false ≡ b
    go true e = let read : Err error ≡ Ok number = is_read text (Err error) number h e small in cc
    go false e = refl

-- the number of a job
pub read_job : (text : List ℕ) (number : ℕ) → IsRead text number → 0 < number → IsJobNumber text number
read_job text number h some = (read_is text number h, some, read_small text number h)

-- THE PARTS OF A TEXT

pub first_of_parts : (text first more : List ℕ) → first ≡ before_first (λ c. c == 44) text → more ≡ after_first (λ c. c == 44) text
    → position_or_len (λ c. c == 44) text < length text → parts_of text ≡ first ∷ parts_of more
first_of_parts text first more before after short = rw (before, after) (slice_split_first (λ c. c == 44) text 0 short)

pub only_part : (text : List ℕ) → position_or_len (λ c. c == 44) text ≡ length text → parts_of text ≡ text ∷ []
only_part [] e = refl
only_part (c ∷ cs) e = go (c == 44) refl (only_part cs)
  where
    go : (b : Bool) → (c == 44) ≡ b → (position_or_len (λ d. d == 44) cs ≡ length cs → parts_of cs ≡ cs ∷ []) → parts_of (c ∷ cs) ≡ (c ∷ cs) ∷ []
    go true is rest = let none : position_or_len (λ c. c == 44) (c ∷ cs) ≡ 0 = rw is refl in absurd (omega (arith, none, e))
    go false is rest =
        let more : position_or_len (λ c. c == 44) (c ∷ cs) ≡ 1 + position_or_len (λ c. c == 44) cs = rw is refl in
        slice_split-cons_no (λ c. c == 44) c cs is ∙ ap (onto_first c) (rest (omega (arith, more, e)))

-- the two parts at the first comma, or one where there is none
pub split_parts : (text : List ℕ) (r : Option (Bor (List ℕ) × Bor (List ℕ)))
    → MatchOption r (position_or_len (λ c. c == 44) text ≡ length text) (λ p. (p.0.now ≡ before_first (λ c. c == 44) text)
    × (p.1.now ≡ after_first (λ c. c == 44) text) × (position_or_len (λ c. c == 44) text < length text))
    → MatchOption r (parts_of text ≡ text ∷ []) (λ p. parts_of text ≡ p.0.now ∷ parts_of p.1.now)
split_parts text None h = only_part text h
split_parts text (Some p) h = first_of_parts text p.0.now p.1.now h.0 h.1 h.2

-- a number is among the parts where it is the first or among the others
pub has_first : (text first more : List ℕ) (number : ℕ) → parts_of text ≡ first ∷ parts_of more
    → has_number text number ≡ (is_number number first || has_number more number)
has_first text first more number parts = ap (list_any (is_number number)) parts

has_only : (text : List ℕ) (number : ℕ) → parts_of text ≡ text ∷ [] → has_number text number ≡ is_number number text
has_only text number parts = ap (list_any (is_number number)) parts ∙ or_false (is_number number text)
  where
    or_false : (b : Bool) → (b || false) ≡ b
    or_false true = refl
    or_false false = refl

or_either : (a b : Bool) → (a || b) ≡ true → a ≡ false → b ≡ true
or_either true b e none = cc
or_either false b e none = e

or_first : (a b : Bool) → a ≡ true → (a || b) ≡ true
or_first true b e = refl
or_first false b e = cc

or_second : (a b : Bool) → b ≡ true → (a || b) ≡ true
or_second true b e = refl
or_second false b e = e

-- the numbers above one that a text has are those that the rest of it has, and the rest has no others
pub record AreLeft (text rest : List ℕ) (most : ℕ) : Type 0 where
  pub above : (number : ℕ) → number < 2 ^ 64 → most < number → has_number text number ≡ true → has_number rest number ≡ true
  pub among : (number : ℕ) → has_number rest number ≡ true → has_number text number ≡ true

pub all_left : (text : List ℕ) (most : ℕ) → AreLeft text text most
all_left text most = record { above = λ number small above h. h; among = λ number h. h }

pub fewer_left : (text rest first more : List ℕ) (most : ℕ) → AreLeft text rest most → parts_of rest ≡ first ∷ parts_of more → IsWithin first most
    → AreLeft text more most
fewer_left text rest first more most left parts within = record {
  above = λ number small above h. or_either (is_number number first) (has_number more number)
      (sym (has_first rest first more number parts) ∙ left.above number small above h) (no_more number small above);
  among = λ number h. left.among number (has_first rest first more number parts ∙ or_second (is_number number first) (has_number more number) h);
}
  where
    no_more : (number : ℕ) → number < 2 ^ 64 → most < number → is_number number first ≡ false
    no_more number small above = go (is_number number first) refl
      where
        go : (b : Bool) → is_number number first ≡ b → b ≡ false
        go true e = let at_most = within number small e in absurd (omega (arith, at_most, above))
        go false e = refl

pub first_above : (text rest first more : List ℕ) (most number : ℕ) → AreLeft text rest most → parts_of rest ≡ first ∷ parts_of more → IsAbove first most number
    → HasAbove text most number
first_above text rest first more most number left parts is =
    (left.among number (has_first rest first more number parts ∙ or_first (is_number number first) (has_number more number) is.0), is.1)

pub last_above : (text rest : List ℕ) (most : ℕ) (r : Option ℕ) → AreLeft text rest most → parts_of rest ≡ rest ∷ []
    → MatchOption r (IsWithin rest most) (IsAbove rest most) → MatchOption r (AreWithin text most) (HasAbove text most)
last_above text rest most None left parts within = λ number small h. go number small h (ltb most number) refl
  where
    go : (number : ℕ) → number < 2 ^ 64 → has_number text number ≡ true → (b : Bool) → ltb most number ≡ b → number ≤ most
    go number small h true e = within number small (sym (has_only rest number parts) ∙ left.above number small (ltb-true most number e) h)
    go number small h false e = ltb-false most number e
last_above text rest most (Some number) left parts is = (left.among number (has_only rest number parts ∙ is.0), is.1)

-- NUMBERS OF JOBS

pub others_first : (text first more : List ℕ) → parts_of text ≡ first ∷ parts_of more → IsAnother first (parts_of more) → AreJobNumbers text ↔ AreJobNumbers more
others_first text first more parts another = (
  (λ h. (subst AreOthers parts h).1),
  (λ h. subst AreOthers (sym parts) (another, h)),
)

pub none_first : (text first more : List ℕ) → parts_of text ≡ first ∷ parts_of more → (IsAnother first (parts_of more) → ⊥) → AreJobNumbers text → ⊥
none_first text first more parts none h = none (subst AreOthers parts h).0

pub last_number : (text : List ℕ) (r : Option ℕ) → parts_of text ≡ text ∷ []
    → MatchOption r ((number : ℕ) → IsJobNumber text number → ⊥) (λ number. IsJobNumber text number) → IsTrue (is_some r) ↔ AreJobNumbers text
last_number text None parts none = ((λ e. absurd (false≢true e)), (λ h. let last = (subst AreOthers parts h).0 in absurd (none last.0 last.1)))
last_number text (Some number) parts job = ((λ e. subst AreOthers (sym parts) ((number, job, refl), tt)), (λ h. refl))

pub both_ways : {A B C : Type 0} → A ↔ B → B ↔ C → A ↔ C
both_ways ab bc = ((λ a. bc.0 (ab.0 a)), (λ c. ab.1 (bc.1 c)))
