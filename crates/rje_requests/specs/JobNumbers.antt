-- The numbers of jobs, as the words of `--job` of `take` and `mark` give them (own profile).
use Rattle.std.specs.Prelude.{◌≡◌, ◌==◌, ◌&&◌, ◌<◌, ◌≤◌, ◌^◌, ℕ, ⊤, Bool, true, false, List, [], ◌∷◌}
use Rattle.std.specs.Char.{is_digit}
use Rattle.std.specs.List.{list_all, list_any}
use Rattle.std.specs.Str.Parse.{digits_value, without_leading_plus}
use Rattle.rje_requests.specs.Callers.{parts_of}

-- decimal digits, one at least
abbrev pub is_numeral : List ℕ → Bool
is_numeral [] = false
is_numeral (c ∷ digits) = list_all (λ d. is_digit d 10) (c ∷ digits)

-- the text is this number in decimal digits, which a plus may precede
abbrev pub is_number : ℕ → List ℕ → Bool
is_number number text = is_numeral (without_leading_plus text) && digits_value 10 (without_leading_plus text) == number

-- one of the parts between the commas of the text is this number
abbrev pub has_number : (text : List ℕ) → ℕ → Bool
has_number text number = list_any (is_number number) (parts_of text)

-- the text is this number, which a job can have: they count from 1, and have 64 bits
abbrev pub IsJobNumber : (text : List ℕ) → ℕ → Type 0
IsJobNumber text number = (is_number number text ≡ true) × (0 < number) × (number < 2 ^ 64)

-- the text is the number of a job, and none of these others is that number
abbrev pub IsAnother : (text : List ℕ) → (others : List (List ℕ)) → Type 0
IsAnother text others = (number : ℕ) × IsJobNumber text number × (list_any (is_number number) others ≡ false)

-- each of these texts is the number of a job, and another one than those after it
abbrev pub AreOthers : List (List ℕ) → Type 0
AreOthers [] = ⊤
AreOthers (part ∷ parts) = IsAnother part parts × AreOthers parts

-- the parts between the commas of the text are the numbers of jobs, each once
abbrev pub AreJobNumbers : (text : List ℕ) → Type 0
AreJobNumbers text = AreOthers (parts_of text)

-- the text is no number of 64 bits above this one
abbrev pub IsWithin : (text : List ℕ) → (most : ℕ) → Type 0
IsWithin text most = (number : ℕ) → number < 2 ^ 64 → is_number number text ≡ true → number ≤ most

-- the text is this number, which is above that one
abbrev pub IsAbove : (text : List ℕ) → (most number : ℕ) → Type 0
IsAbove text most number = (is_number number text ≡ true) × (most < number)

-- none of the numbers of the text, each of 64 bits, is above this one
abbrev pub AreWithin : (text : List ℕ) → (most : ℕ) → Type 0
AreWithin text most = (number : ℕ) → number < 2 ^ 64 → has_number text number ≡ true → number ≤ most

-- this is one of the numbers of the text, and above that one
abbrev pub HasAbove : (text : List ℕ) → (most number : ℕ) → Type 0
HasAbove text most number = (has_number text number ≡ true) × (most < number)
