-- The page, read both ways; and the program's table of codes is the page.
use Rattle.std.proofs.Common.{◌≡◌, ℕ, ◌-◌, ◌<◌, ◌≤◌, ◌&&◌, Bool, true, false, cond, eqb, leb, List, [], ◌∷◌, length, get_or, map, Option, Some, None, IsSome, refl, ap, sym, ◌∙◌, subst, arith, ◌⊎◌, inl, inr, ⊎_elim}
use Rattle.std.specs.List.{find, list_all, slice_get, range_with_len}
use Rattle.std.specs.Option.{option_map}
use Rattle.std.specs.Prelude.{nat_lt, if◌then◌else◌}
use Rattle.std.proofs.lemmas.Bool.{le-ltb, lt-ltb}
use Rattle.std.proofs.lemmas.Option.{slice_get-get_or, none-some, same_Some}
use Rattle.std.proofs.lemmas.List.FromFn.{get_or-map-range_with_len}
use Rattle.std.proofs.lemmas.Bool.Decides.{nat_tests}
use Rattle.bsc_codes.specs.declared.code_page.TheConstants.{PRINTABLE}
use Rattle.bsc_codes.specs.CodePage.{Entry, ebcdic_of, ascii_of, page_037}
use Rattle.bsc_codes.proofs.Both.{both}

-- ---- What is found in a list passes the test, and what every entry passes.

first_or : {X : Type 0} (b : Bool) (x y : X) (o : Option X) → cond b (Some x) o ≡ Some y → ((b ≡ true) × (x ≡ y)) ⊎ (o ≡ Some y)
first_or true x y o h = inl (refl, same_Some x y h)
first_or false x y o h = inr h

found_passes : (test every : Entry → Bool) (page : List Entry) (e : Entry) → list_all every page ≡ true → find test page ≡ Some e → (test e ≡ true) × (every e ≡ true)
found_passes test every [] e h f = absurd (none-some e f)
found_passes test every (x ∷ xs) e h f =
    ⊎_elim (λ (w : (test x ≡ true) × (x ≡ e)). subst (λ y. (test y ≡ true) × (every y ≡ true)) w.1 (w.0, (both _ _ h).0))
    (λ (w : find test xs ≡ Some e). found_passes test every xs e (both _ _ h).1 w)
    (first_or (test x) x e (find test xs) f)

-- what o and a function give, where both give something
pub mapped : {X Y : Type 0} (f : X → Y) (o : Option X) (y : Y) → option_map f o ≡ Some y → (x : X) × (o ≡ Some x) × (f x ≡ y)
mapped f None y h = absurd (none-some y h)
mapped f (Some x) y h = (x, refl, same_Some (f x) y h)

-- ---- Each entry's character has its code, each entry's code its character, and no other.

same : Option ℕ → ℕ → Bool
same None n = false
same (Some m) n = eqb m n

same_is : (o : Option ℕ) (n : ℕ) → same o n ≡ true → o ≡ Some n
unfolding same
same_is None n h = absurd (no h)
  where
    no : false ≡ true → ⊥
    no e = cc
same_is (Some m) n h = let e : m ≡ n = grind (arith, nat_tests) in ap Some e

good : Entry → Bool
good e = same (ascii_of e.code) e.character && (same (ebcdic_of e.character) e.code && (leb 32 e.character && leb e.character 126))

all_good : list_all good page_037 ≡ true
unfolding good same ebcdic_of ascii_of page_037
all_good = refl

good_entry : (test : Entry → Bool) (e : Entry) → find test page_037 ≡ Some e → (test e ≡ true) × (ascii_of e.code ≡ Some e.character) × (ebcdic_of e.character ≡ Some e.code) × (32 ≤ e.character) × (e.character ≤ 126)
unfolding good
good_entry test e f =
    let p = found_passes test good page_037 e all_good f in
    let q = both (same (ascii_of e.code) e.character) _ p.1 in
    let r = both (same (ebcdic_of e.character) e.code) _ q.1 in
    let s = both (leb 32 e.character) (leb e.character 126) r.1 in
    let low : 32 ≤ e.character = grind (arith, nat_tests, s.0) in
    let high : e.character ≤ 126 = grind (arith, nat_tests, s.1) in
    (p.0, same_is _ _ q.0, same_is _ _ r.0, low, high)

entry_of : (a e : ℕ) → ebcdic_of a ≡ Some e → (x : Entry) × (find (λ y. eqb y.character a) page_037 ≡ Some x) × (x.code ≡ e)
unfolding ebcdic_of
entry_of a e h = mapped (λ (x : Entry). x.code) (find (λ y. eqb y.character a) page_037) e h

entry_for : (a e : ℕ) → ascii_of e ≡ Some a → (x : Entry) × (find (λ y. eqb y.code e) page_037 ≡ Some x) × (x.character ≡ a)
unfolding ascii_of
entry_for a e h = mapped (λ (x : Entry). x.character) (find (λ y. eqb y.code e) page_037) a h

pub forward : (a e : ℕ) → ebcdic_of a ≡ Some e → ascii_of e ≡ Some a
forward a e h =
    let x = entry_of a e h in
    let g = good_entry (λ y. eqb y.character a) x.0 x.1 in
    let at : x.0.character ≡ a = grind (arith, nat_tests, g.0) in
    sym (ap ascii_of x.2) ∙ g.1 ∙ ap Some at

pub backward : (a e : ℕ) → ascii_of e ≡ Some a → ebcdic_of a ≡ Some e
backward a e h =
    let x = entry_for a e h in
    let g = good_entry (λ y. eqb y.code e) x.0 x.1 in
    let at : x.0.code ≡ e = grind (arith, nat_tests, g.0) in
    sym (ap ebcdic_of x.2) ∙ g.2 ∙ ap Some at

-- a character that has a code is printable
pub character_within : (a e : ℕ) → ebcdic_of a ≡ Some e → (32 ≤ a) × (a ≤ 126)
character_within a e h =
    let x = entry_of a e h in
    let g = good_entry (λ y. eqb y.character a) x.0 x.1 in
    let at : x.0.character ≡ a = grind (arith, nat_tests, g.0) in
    subst (λ y. (32 ≤ y) × (y ≤ 126)) at (g.3, g.4)

is_some_some : (o : Option ℕ) → IsSome o → (e : ℕ) × (o ≡ Some e)
is_some_some None h = absurd (no h)
  where
    no : false ≡ true → ⊥
    no q = cc
is_some_some (Some e) h = (e, refl)

pub has_printable : (a : ℕ) → IsSome (ebcdic_of a) → (32 ≤ a) × (a ≤ 126)
has_printable a h = let e = is_some_some (ebcdic_of a) h in character_within a e.0 e.1

-- what holds of the code of each entry holds of the code of each character
pub code_passes : (every : ℕ → Bool) → list_all (λ (e : Entry). every e.code) page_037 ≡ true → (a e : ℕ) → ebcdic_of a ≡ Some e → every e ≡ true
code_passes every h a e f =
    let x = entry_of a e f in
    subst (λ y. every y ≡ true) x.2 (found_passes (λ y. eqb y.character a) (λ z. every z.code) page_037 x.0 h x.1).1

-- ---- The program's table.

-- the code of a character by the program's table
abbrev by_table : ℕ → Option ℕ
by_table a = if nat_lt a 32 then None else slice_get PRINTABLE (a - 32)

-- the page by the program's table, computed
page_is : map by_table (range_with_len 0 256) ≡ map ebcdic_of (range_with_len 0 256)
unfolding ebcdic_of page_037
page_is = refl

code_is : (a : ℕ) → a < 256 → by_table a ≡ ebcdic_of a
code_is a h =
    sym (get_or-map-range_with_len by_table 0 256 a a None h (omega arith))
    ∙ ap (λ t. get_or t a None) page_is
    ∙ get_or-map-range_with_len ebcdic_of 0 256 a a None h (omega arith)

pub low_none : (a : ℕ) → a < 32 → ebcdic_of a ≡ None
low_none a l = sym (code_is a (omega arith)) ∙ rw (lt-ltb a 32 l) refl

pub high_get : (a : ℕ) → 32 ≤ a → a < 256 → slice_get PRINTABLE (a - 32) ≡ ebcdic_of a
high_get a l h = sym (rw (le-ltb a 32 l) refl) ∙ code_is a h

length-table : length PRINTABLE ≡ 95
length-table = refl

pub printable_has : (a : ℕ) → 32 ≤ a → a ≤ 126 → IsSome (ebcdic_of a)
printable_has a l h =
    let len = length-table in
    rw (sym (high_get a l (omega arith)) ∙ slice_get-get_or PRINTABLE (a - 32) 0 (omega arith)) refl
