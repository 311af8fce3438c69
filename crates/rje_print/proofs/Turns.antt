-- The four words of a turn's line.
use Rattle.std.proofs.Common.{◌≡◌, ℕ, Bool, List, ◌∷◌, ◌++◌, codes, refl, ◌∙◌, arith}
use Rattle.std.proofs.lemmas.List.{append_assoc}
use Rattle.bsc_link.specs.declared.wish.Wish.{Wish}
use Rattle.rje_print.specs.Script.{IsFate, IsTurn, IsSplit, Lacks, wish_word, pause_word}
use Rattle.rje_print.proofs.Splits.{above_lack, no_split, split_is}
use Rattle.rje_print.proofs.Fates.{codes_above, fate_lacks_blank}

-- two words that say what the line does, one of a wish and one of a pause
pub record AreWords (up down wish pause : List ℕ) : Type 0 where
  pub up_is : IsFate up
  pub down_is : IsFate down
  pub wished : Wish
  pub wish_is : wish ≡ wish_word wished
  pub paused : Bool
  pub pause_is : pause ≡ pause_word paused

record IsTurnOf (line : List ℕ) : Type 0 where
  up : List ℕ
  down : List ℕ
  wish : List ℕ
  pause : List ℕ
  words : AreWords up down wish pause
  line_is : line ≡ up ++ 0x20 ∷ (down ++ 0x20 ∷ (wish ++ 0x20 ∷ pause))

words_of : (line : List ℕ) → IsTurn line → IsTurnOf line
words_of line (turn, h, fit) = record {
  up = h.up;
  down = h.down;
  wish = wish_word turn.wish;
  pause = pause_word turn.pause;
  words = record {
    up_is = (turn.up, h.up_word, fit.0);
    down_is = (turn.down, h.down_word, fit.1);
    wished = turn.wish;
    wish_is = refl;
    paused = turn.pause;
    pause_is = refl;
  };
  line_is = h.words ∙ simp append_assoc;
}

wish_lacks_blank : (wish : Wish) → Lacks 0x20 (wish_word wish)
wish_lacks_blank Wish.Go = above_lack 0x20 0x20 (codes "go") (omega arith) (codes_above (codes "go") refl)
wish_lacks_blank Wish.Hold = above_lack 0x20 0x20 (codes "hold") (omega arith) (codes_above (codes "hold") refl)
wish_lacks_blank Wish.Turn = above_lack 0x20 0x20 (codes "turn") (omega arith) (codes_above (codes "turn") refl)

-- a line without a blank is no turn's
pub no_blank : (line : List ℕ) → Lacks 0x20 line → ¬ (IsTurn line)
no_blank line none h =
    let t = words_of line h in no_split 0x20 line t.up (t.down ++ 0x20 ∷ (t.wish ++ 0x20 ∷ t.pause)) none t.line_is

-- nor is one with one blank
pub one_blank : (line up rest : List ℕ) → IsSplit 0x20 line up rest → Lacks 0x20 rest → ¬ (IsTurn line)
one_blank line up rest first none h =
    let t = words_of line h in
    let ups = split_is 0x20 line up rest t.up (t.down ++ 0x20 ∷ (t.wish ++ 0x20 ∷ t.pause)) first (fate_lacks_blank t.up t.words.up_is) t.line_is in
    no_split 0x20 rest t.down (t.wish ++ 0x20 ∷ t.pause) none ups.1

-- nor is one with two
pub two_blanks : (line up rest down more : List ℕ) → IsSplit 0x20 line up rest → IsSplit 0x20 rest down more → Lacks 0x20 more → ¬ (IsTurn line)
two_blanks line up rest down more first second none h =
    let t = words_of line h in
    let ups = split_is 0x20 line up rest t.up (t.down ++ 0x20 ∷ (t.wish ++ 0x20 ∷ t.pause)) first (fate_lacks_blank t.up t.words.up_is) t.line_is in
    let downs = split_is 0x20 rest down more t.down (t.wish ++ 0x20 ∷ t.pause) second (fate_lacks_blank t.down t.words.down_is) ups.1 in
    no_split 0x20 more t.wish t.pause none downs.1

-- the words of a turn's line stand in front of its blanks and after the third
pub words_are : (line up rest down more wish pause : List ℕ) → IsSplit 0x20 line up rest → IsSplit 0x20 rest down more → IsSplit 0x20 more wish pause
    → IsTurn line → AreWords up down wish pause
words_are line up rest down more wish pause first second third h =
    let t = words_of line h in
    let ups = split_is 0x20 line up rest t.up (t.down ++ 0x20 ∷ (t.wish ++ 0x20 ∷ t.pause)) first (fate_lacks_blank t.up t.words.up_is) t.line_is in
    let downs = split_is 0x20 rest down more t.down (t.wish ++ 0x20 ∷ t.pause) second (fate_lacks_blank t.down t.words.down_is) ups.1 in
    let none : Lacks 0x20 t.wish = rw t.words.wish_is (wish_lacks_blank t.words.wished) in
    let wishes = split_is 0x20 more wish pause t.wish t.pause third none downs.1 in
    record {
      up_is = rw ups.0 t.words.up_is;
      down_is = rw downs.0 t.words.down_is;
      wished = t.words.wished;
      wish_is = wishes.0 ∙ t.words.wish_is;
      paused = t.words.paused;
      pause_is = wishes.1 ∙ t.words.pause_is;
    }
