-- Words that clap takes for no options.
use Rattle.std.proofs.Common.{ℕ, List, [], ◌∷◌, ◌≡◌, ◌==◌, arith, None, Bool, true, false, refl, codes}
use Rattle.std.specs.Str.{bytes_eq}
use Rattle.std.proofs.lemmas.Bool.{not-true}
use Rattle.std.proofs.lemmas.Bool.Decides.{nat_tests}
use Rattle.clap.specs.Words.{Text}
use Rattle.clap.specs.Lexer.{long_of, short_of}
use Rattle.rje_cli.specs.CommandLine.{is_file, names_file}

-- clap takes the word for no option
abbrev pub IsPlain : Text → Type 0
IsPlain word = (bytes_eq word (codes "--") ≡ false) × (long_of word ≡ None) × (short_of word ≡ None)

pub unhyphened : (c : ℕ) (rest : List ℕ) → (c == 45) ≡ false → IsPlain (c ∷ rest)
unhyphened c rest h = (rw h refl, rw h refl, rw h refl)

one_character : (c : ℕ) (hyphen : Bool) → (c == 45) ≡ hyphen → IsPlain (c ∷ [])
one_character c true h = let is : c ≡ 45 = grind (arith, nat_tests) in rw is (refl, refl, refl)
one_character c false h = unhyphened c [] h

pub deck_plain : (deck : Text) → is_file deck ≡ true → IsPlain deck
deck_plain [] h = cc
deck_plain (c ∷ []) h = one_character c (c == 45) refl
deck_plain (c ∷ d ∷ rest) h = unhyphened c (d ∷ rest) (not-true (c == 45) h)

pub jobs_plain : (jobs : Text) → names_file jobs ≡ true → IsPlain jobs
jobs_plain [] h = cc
jobs_plain (c ∷ rest) h = unhyphened c rest (not-true (c == 45) h)
