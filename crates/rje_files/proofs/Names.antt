-- Names: characters, and then blanks.
use Rattle.std.proofs.Common.{◌≡◌, ℕ, zero, suc, ◌+◌, ◌-◌, ◌==◌, Bool, true, false, ◌&&◌, ◌||◌, List, [], ◌∷◌, ◌++◌, length, replicate, refl, ap, sym, ◌∙◌, subst, arith, length-append}
use Rattle.std.proofs.lemmas.Bool.Decides.{nat_tests}
use Rattle.rje_files.specs.Entry.{is_name_character, is_name_from, is_job_name, is_name_text}
use Rattle.rje_files.specs.Laws.{NamesArePadded}
use Rattle.rje_text.proofs.Both.{both, together}

-- after a blank there are only blanks
blanks : (cs : List ℕ) → is_name_from true cs ≡ true → cs ≡ replicate (length cs) 0x20
blanks [] e = refl
blanks (c ∷ cs) e = go (c == 0x20) refl (blanks cs) e
  where
    go : (b : Bool) → (c == 0x20) ≡ b → (is_name_from true cs ≡ true → cs ≡ replicate (length cs) 0x20) → ((b || false) && is_name_from b cs) ≡ true
        → c ∷ cs ≡ replicate (suc (length cs)) 0x20
    go true is later e = let one : c ≡ 0x20 = grind (arith, nat_tests) in rw one (ap (λ xs. 0x20 ∷ xs) (later e))
    go false is later e = cc

-- a name from some place on is characters and then blanks
record Parts (cs : List ℕ) : Type 0 where
  text : List ℕ
  blanks : ℕ
  characters : is_name_text text ≡ true
  whole : cs ≡ text ++ replicate blanks 0x20

parts : (cs : List ℕ) → is_name_from false cs ≡ true → Parts cs
parts [] e = record { text = []; blanks = 0; characters = refl; whole = refl }
parts (c ∷ cs) e = go (c == 0x20) refl (parts cs) e
  where
    go : (b : Bool) → (c == 0x20) ≡ b → (is_name_from false cs ≡ true → Parts cs) → ((b || (true && is_name_character c)) && is_name_from b cs) ≡ true → Parts (c ∷ cs)
    go true is later e =
        let one : c ≡ 0x20 = grind (arith, nat_tests) in
        record { text = []; blanks = suc (length cs); characters = refl; whole = rw one (ap (λ xs. 0x20 ∷ xs) (blanks cs e)) }
    go false is later e =
        let two = both (is_name_character c) (is_name_from false cs) e in
        let rest = later two.1 in
        record {
          text = c ∷ rest.text;
          blanks = rest.blanks;
          characters = together (is_name_character c) (is_name_text rest.text) two.0 rest.characters;
          whole = ap (λ xs. c ∷ xs) rest.whole;
        }

abbrev spaces : ℕ → List ℕ
spaces k = replicate k 0x20

length-blanks : (k : ℕ) → length (spaces k) ≡ k
length-blanks zero = refl
length-blanks (suc k) = ap suc (length-blanks k)

blanks_stand : (ended : Bool) (k : ℕ) → is_name_from ended (replicate k 0x20) ≡ true
blanks_stand ended zero = refl
blanks_stand ended (suc k) = blanks_stand true k

no_blank : (c : ℕ) → is_name_character c ≡ true → (c == 0x20) ≡ false
no_blank c e = go (c == 0x20) refl
  where
    go : (b : Bool) → (c == 0x20) ≡ b → b ≡ false
    go false is = refl
    go true is = let one : c ≡ 0x20 = grind (arith, nat_tests) in let never : is_name_character 0x20 ≡ true = subst (λ x. is_name_character x ≡ true) one e in cc

text_stands : (text : List ℕ) (k : ℕ) → is_name_text text ≡ true → is_name_from false (text ++ replicate k 0x20) ≡ true
text_stands [] k e = blanks_stand false k
text_stands (c ∷ text) k e =
    let two = both (is_name_character c) (is_name_text text) e in
    rw (no_blank c two.0, two.0) (text_stands text k two.1)

pub names_padded : NamesArePadded
names_padded name eight = (
  λ e. let p = parts name e in
      let many : length name ≡ length p.text + p.blanks = ap length p.whole ∙ length-append p.text (replicate p.blanks 0x20) ∙ ap (λ k. length p.text + k) (length-blanks p.blanks) in
      let left : p.blanks ≡ 8 - length p.text = omega (arith, many, eight) in
      (p.text, omega (arith, many, eight), p.characters, p.whole ∙ ap (λ k. p.text ++ replicate k 0x20) left),
  λ t. subst (λ (n : List ℕ). is_job_name n ≡ true) (sym t.3) (text_stands t.0 (8 - length t.0) t.2),
)
