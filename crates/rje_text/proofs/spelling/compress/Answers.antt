-- Runs of blanks become counts.
-- An invariant: what is written is the spelling of the bytes so far; a run is written at its end, and `behind` says what comes after it.
use Rattle.std.proofs.Common.{◌≡◌, ℕ, ◌+◌, ◌++◌, [], List, length, take, drop, ap, sym, ◌∙◌, arith}
use Rattle.std.proofs.lemmas.List.{append-nil, drop_all, drop-drop, length-append, length-take-le}
use Rattle.rje_text.specs.Spelling.{compressed, written_run}
use Rattle.rje_text.specs.Spelling.Run.{Blanks}
use Rattle.rje_text.proofs.Blanks.{behind, blanks_first, behind_word, word_begins, word_join, word_is_some}
use Rattle.rje_text.proofs.spelling.compress.Goals as goal

pub loop-i-preserved : goal.loop-i-preserved
loop-i-preserved c =
    let bs = c.args.bytes.now in
    let i = c.loop-i.i in
    let b = c.blanks_in_front-blanks.result in
    let n = c.words_in_front.result in
    let rest = c.split_at.result.1.now in
    let behind_them = c.split_at-in-loop-i.result.1.now in
    let word = c.split_at-in-loop-i-2.result.0.now in
    let blanks = blanks_first b rest c.blanks_in_front-blanks.ensures.within c.blanks_in_front-blanks.ensures.before in
    let is_data : behind_them ≡ drop b rest = c.split_at-in-loop-i.ensures.back in
    let none = word_is_some rest behind_them b n is_data c.blanks_in_front-blanks.ensures.at c.words_in_front.ensures.at in
    let begins = word_begins rest behind_them b is_data c.blanks_in_front-blanks.ensures.at in
    let words = behind_word b n behind_them c.words_in_front.ensures.within c.words_in_front.ensures.alone begins none in
    let is_word : word ≡ take n behind_them = c.split_at-in-loop-i-2.ensures.front in
    let len : length word ≡ n = ap (λ (xs : List ℕ). length xs) is_word ∙ length-take-le n behind_them c.words_in_front.ensures.within in
    let after : drop n behind_them ≡ drop (i + (b + length word)) bs =
    ap (drop n) (is_data ∙ ap (drop b) c.split_at.ensures.back ∙ drop-drop b i bs) ∙ drop-drop n _ bs ∙ ap (λ k. drop k bs) (omega (arith, len)) in
    let out = c.loop-i.out.items in
    let written = written_run (Blanks b) in
    let joined = word_join out written word (behind 0 (drop n behind_them)) in
    let blanks_eq : behind 0 (drop i bs) ≡ behind b behind_them =
    ap (behind 0) (sym c.split_at.ensures.back) ∙ blanks ∙ ap (behind b) (sym is_data) in
    let spelled : out ++ (written ++ (word ++ behind 0 (drop n behind_them))) ≡ out ++ behind 0 (drop i bs) =
    ap (λ (xs : List ℕ). out ++ xs) (ap (λ (xs : List ℕ). written ++ (xs ++ behind 0 (drop n behind_them))) is_word ∙ sym words ∙ sym blanks_eq) in
    let appended : c.append.new.text.items ≡ (out ++ written) ++ word = c.append.ensures ∙ ap (λ (xs : List ℕ). xs ++ word) c.push_blanks.ensures.text in
    record {
      within = omega arith;
      text = ap (λ (xs : List ℕ). c.append.new.text.items ++ behind 0 xs) (sym after) ∙ ap (λ (xs : List ℕ). xs ++ behind 0 (drop n behind_them)) appended ∙ joined ∙ spelled
          ∙ c.loop-i.invariant.text;
      room = omega (arith, len, ap (λ (xs : List ℕ). length xs) c.append.ensures, length-append c.push_blanks.new.out.items word);
    }

pub returns-clause-text : goal.returns-clause-text
unfolding compressed
returns-clause-text c =
    let bs = c.args.bytes.now in
    let out = c.loop-i.out.items in
    let none : behind 0 (drop c.loop-i.i bs) ≡ [] = ap (behind 0) (drop_all c.loop-i.i bs (omega arith)) in
    sym (append-nil out) ∙ ap (λ (xs : List ℕ). out ++ xs) (sym none) ∙ c.loop-i.invariant.text
