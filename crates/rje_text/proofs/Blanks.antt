-- Runs of blanks, and what is written for them.
use Rattle.std.proofs.Common.{◌≡◌, ◌≢◌, ℕ, zero, suc, ◌+◌, ◌*◌, ◌<◌, true, false, List, [], ◌∷◌, ◌++◌, ◌≤◌, length, take, drop, get_or, refl, sym, ap, ◌∙◌, arith, add-one, eqb, ⊎_elim, subst}
use Rattle.std.proofs.lemmas.Bool.{cases_lt, cases_eq}
use Rattle.std.proofs.lemmas.List.{append_assoc, append-nil, get_or-drop, length-drop}
use Rattle.std.proofs.lemmas.Bool.Decides.{nat_tests}
use Rattle.std.specs.List.{flat_map}
use Rattle.bsc_codes.specs.Bytes.{BLANK, IGS}
use Rattle.rje_text.specs.Spelling.{Run, full_counts, written_run, with_blank, runs_of}
use Rattle.rje_text.specs.Inside.Words.{AreWords, IsAlone}
use Rattle.rje_text.specs.Spelling.Run.{Blanks, Byte}

-- m blanks in front of the pieces
abbrev pub blanks_then : ℕ → List Run → List Run
blanks_then zero ps = ps
blanks_then (suc m) ps = with_blank (blanks_then m ps)

-- what is written for m blanks and then the bytes
abbrev pub behind : ℕ → List ℕ → List ℕ
behind m bytes = flat_map written_run (blanks_then m (runs_of bytes))

blanks_then-with_blank : (m : ℕ) (ps : List Run) → blanks_then m (with_blank ps) ≡ with_blank (blanks_then m ps)
blanks_then-with_blank zero ps = refl
blanks_then-with_blank (suc m) ps = ap with_blank (blanks_then-with_blank m ps)

blanks_then-byte : (m b : ℕ) (ps : List Run) → blanks_then (suc m) (Byte b ∷ ps) ≡ Blanks (suc m) ∷ Byte b ∷ ps
blanks_then-byte zero b ps = refl
blanks_then-byte (suc m) b ps = ap with_blank (blanks_then-byte m b ps) ∙ ap (λ n. Blanks n ∷ Byte b ∷ ps) (add-one (suc m))

blanks_then-nil : (m : ℕ) → blanks_then (suc m) [] ≡ Blanks (suc m) ∷ []
blanks_then-nil zero = refl
blanks_then-nil (suc m) = ap with_blank (blanks_then-nil m) ∙ ap (λ n. Blanks n ∷ []) (add-one (suc m))

is_blank : (x : ℕ) → x ≡ BLANK → eqb x BLANK ≡ true
is_blank x e = grind (arith, nat_tests)

not_blank : (x : ℕ) → x ≢ BLANK → eqb x BLANK ≡ false
not_blank x e = grind (arith, nat_tests)

pub behind_blank : (m x : ℕ) (xs : List ℕ) → x ≡ BLANK → behind m (x ∷ xs) ≡ behind (m + 1) xs
behind_blank m x xs e = rw (is_blank x e, add-one m) (ap (flat_map written_run) (blanks_then-with_blank m (runs_of xs)))

pub behind_byte : (m x : ℕ) (xs : List ℕ) → x ≢ BLANK → behind m (x ∷ xs) ≡ written_run (Blanks m) ++ x ∷ behind 0 xs
behind_byte zero x xs e = rw (not_blank x e) refl
behind_byte (suc m) x xs e = rw (not_blank x e) (ap (flat_map written_run) (blanks_then-byte m x (runs_of xs)))

pub behind_end : (m : ℕ) → behind m [] ≡ written_run (Blanks m)
behind_end zero = refl
behind_end (suc m) = ap (flat_map written_run) (blanks_then-nil m) ∙ append-nil (written_run (Blanks (suc m)))

-- so many blanks in front
behind_blanks : (m n : ℕ) (bytes : List ℕ) → n ≤ length bytes → ((k : ℕ) → k < n → get_or bytes k 0 ≡ BLANK) → behind m bytes ≡ behind (m + n) (drop n bytes)
behind_blanks m zero bytes h e = let none : m ≡ m + 0 = omega arith in ap (λ k. behind k bytes) none
behind_blanks m (suc n) [] h e = absurd (omega (arith, h))
behind_blanks m (suc n) (x ∷ xs) h e =
    let more : (m + 1) + n ≡ m + suc n = omega arith in
    behind_blank m x xs (e 0 (omega arith)) ∙ behind_blanks (m + 1) n xs (omega (arith, h)) (λ k l. e (suc k) (omega (arith, l)))
    ∙ ap (λ k. behind k (drop n xs)) more

pub blanks_first : (n : ℕ) (bytes : List ℕ) → n ≤ length bytes → ((k : ℕ) → k < n → get_or bytes k 0 ≡ BLANK) → behind 0 bytes ≡ behind n (drop n bytes)
blanks_first n bytes h e =
    let all : 0 + n ≡ n = omega arith in
    behind_blanks 0 n bytes h e ∙ ap (λ k. behind k (drop n bytes)) all

-- a blank alone stands as it is
one_blank : (xs : List ℕ) → 0 < length xs → get_or xs 0 0 ≢ BLANK → behind 1 xs ≡ BLANK ∷ behind 0 xs
one_blank [] h d = absurd (omega (arith, h))
one_blank (y ∷ ys) h d = behind_byte 1 y ys d ∙ ap (λ zs. BLANK ∷ zs) (sym (behind_byte 0 y ys d))

words_behind : (x n : ℕ) (xs : List ℕ) → AreWords (suc n) (x ∷ xs) → AreWords n xs
words_behind x n xs e k h d =
    let w = e (suc k) (omega (arith, h)) d in
    let more : suc k + 1 ≡ suc (k + 1) = omega arith in
    (omega (arith, w.0), subst (λ (j : ℕ). get_or (x ∷ xs) j 0 ≢ BLANK) more w.1)

-- so many bytes of words in front
behind_words : (n : ℕ) (bytes : List ℕ) → n ≤ length bytes → AreWords n bytes → behind 0 bytes ≡ take n bytes ++ behind 0 (drop n bytes)
behind_words zero bytes h e = refl
behind_words (suc n) [] h e = absurd (omega (arith, h))
behind_words (suc n) (x ∷ xs) h e = first ∙ ap (λ ys. x ∷ ys) (behind_words n xs (omega (arith, h)) (words_behind x n xs e))
  where
    alone : x ≡ BLANK → behind 0 (x ∷ xs) ≡ x ∷ behind 0 xs
    alone d =
        let w = e 0 (omega arith) d in
        behind_blank 0 x xs d ∙ one_blank xs (omega (arith, h, w.0)) w.1 ∙ ap (λ b. b ∷ behind 0 xs) (sym d)

    first : behind 0 (x ∷ xs) ≡ x ∷ behind 0 xs
    first = ⊎_elim alone (behind_byte 0 x xs) (cases_eq x BLANK)

-- blanks, and then words, which are empty at the end alone and begin with another byte
pub behind_word : (m n : ℕ) (bytes : List ℕ) → n ≤ length bytes → AreWords n bytes → (0 < length bytes → get_or bytes 0 0 ≢ BLANK) → (n ≡ 0 → length bytes ≡ 0)
    → behind m bytes ≡ written_run (Blanks m) ++ (take n bytes ++ behind 0 (drop n bytes))
behind_word m zero [] h e d none = behind_end m ∙ sym (append-nil (written_run (Blanks m)))
behind_word m zero (x ∷ xs) h e d none = absurd (omega (arith, none refl))
behind_word m (suc n) [] h e d none = absurd (omega (arith, h))
behind_word m (suc n) (x ∷ xs) h e d none =
    behind_byte m x xs (d (omega arith)) ∙ ap (λ ys. written_run (Blanks m) ++ x ∷ ys) (behind_words n xs (omega (arith, h)) (words_behind x n xs e))

-- the words end where two blanks begin, or at the end
pub words_end : (n : ℕ) (bytes : List ℕ) → ((k : ℕ) → k < n → IsAlone bytes k) → (n < length bytes → get_or bytes n 0 ≡ BLANK) → AreWords n bytes
words_end n bytes alone at k h d = (⊎_elim (λ (l : k + 1 < n). l) past (cases_lt (k + 1) n), w.1)
  where
    w : (k + 1 < length bytes) × (get_or bytes (k + 1) 0 ≢ BLANK)
    w = alone k h d

    past : n ≤ k + 1 → k + 1 < n
    past l =
        let same : n ≡ k + 1 = omega (arith, h, l) in
        absurd (w.1 (subst (λ (j : ℕ). get_or bytes j 0 ≡ BLANK) same (at (omega (arith, same, w.0)))))

-- behind all blanks in front stands another byte
pub word_begins : (rest left : List ℕ) (b : ℕ) → left ≡ drop b rest → (b < length rest → get_or rest b 0 ≢ BLANK) → 0 < length left → get_or left 0 0 ≢ BLANK
word_begins rest left b is other some blank =
    let inside : b < length rest = omega (arith, some, ap (λ (xs : List ℕ). length xs) is, length-drop b rest) in
    let same : b + 0 ≡ b = omega arith in
    other inside (sym (ap (λ k. get_or rest k 0) same) ∙ sym (get_or-drop b rest 0 0) ∙ sym (ap (λ (xs : List ℕ). get_or xs 0 0) is) ∙ blank)

-- the word behind all blanks in front has a byte, unless nothing is left
pub word_is_some : (rest left : List ℕ) (b n : ℕ) → left ≡ drop b rest → (b < length rest → get_or rest b 0 ≢ BLANK) → (n < length left → get_or left n 0 ≡ BLANK)
    → n ≡ 0 → length left ≡ 0
word_is_some rest left b n is other blank none = ⊎_elim (λ (some : 0 < length left). absurd (other (inside some) (sym (at some)))) (λ (h : length left ≤ 0). omega (arith, h)) (cases_lt 0 (length left))
  where
    inside : 0 < length left → b < length rest
    inside h = omega (arith, h, ap (λ (xs : List ℕ). length xs) is, length-drop b rest)

    at : 0 < length left → BLANK ≡ get_or rest b 0
    at h =
        let here : n < length left = omega (arith, h, none) in
        let zero_th : get_or left n 0 ≡ get_or (drop b rest) 0 0 = ap (λ k. get_or left k 0) none ∙ ap (λ (xs : List ℕ). get_or xs 0 0) is in
        let same : b + 0 ≡ b = omega arith in
        sym (blank here) ∙ zero_th ∙ get_or-drop b rest 0 0 ∙ ap (λ k. get_or rest k 0) same

pub word_join : (out w word r : List ℕ) → ((out ++ w) ++ word) ++ r ≡ out ++ (w ++ (word ++ r))
word_join out w word r = simp append_assoc

pub length-full_counts : (n : ℕ) → length (full_counts n) ≡ 2 * n
length-full_counts zero = refl
length-full_counts (suc n) = omega (arith, length-full_counts n)

pub full_counts-more : (n : ℕ) → full_counts (n + 1) ≡ full_counts n ++ IGS ∷ 0x7F ∷ []
full_counts-more n = ap full_counts (add-one n) ∙ at_end n
  where
    at_end : (n : ℕ) → full_counts (suc n) ≡ full_counts n ++ IGS ∷ 0x7F ∷ []
    at_end zero = refl
    at_end (suc n) = ap (λ xs. IGS ∷ 0x7F ∷ xs) (at_end n)
