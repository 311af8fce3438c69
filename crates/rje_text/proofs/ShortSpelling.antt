-- How long the spelling of a record can be.
use Rattle.std.proofs.Common.{◌≡◌, ◌≢◌, ℕ, zero, suc, ◌+◌, ◌/◌, ◌%◌, ◌<◌, ◌≤◌, List, [], ◌∷◌, ◌++◌, length, refl, arith, ⊎_elim, Option, Some, None}
use Rattle.std.proofs.lemmas.List.{length-append}
use Rattle.std.proofs.lemmas.Bool.{cases_eq}
use Rattle.bsc_codes.specs.Bytes.{BLANK, IGS, IRS}
use Rattle.rje_text.specs.declared.mode.Mode.{Mode}
use Rattle.rje_text.specs.declared.mode.Mode.TheVariants.{Normal, Transparent}
use Rattle.rje_text.specs.declared.record.Record.{Record}
use Rattle.rje_text.specs.Action.{code_of}
use Rattle.rje_text.specs.Spelling.{spelling, compressed, written_run, full_counts, rest_of_blanks, action_escape}
use Rattle.rje_text.specs.Spelling.Run.{Blanks}
use Rattle.rje_text.proofs.Expanding.{not_equal}
use Rattle.rje_text.proofs.Blanks.{behind, behind_blank, behind_byte, behind_end, length-full_counts}

-- two blanks or more are counted
pub rest_is : (n : ℕ) → 1 < n → rest_of_blanks n ≡ IGS ∷ (BLANK + n) ∷ []
rest_is n h = rw (not_equal n 0 (λ e. absurd (omega (arith, e))), not_equal n 1 (λ e. absurd (omega (arith, e)))) refl

rest_short : (r : ℕ) → length (rest_of_blanks r) ≤ r
rest_short zero = omega arith
rest_short (suc zero) = omega arith
rest_short (suc (suc r)) = rw (rest_is (suc (suc r)) (omega arith)) (omega arith)

blanks_short : (m : ℕ) → length (written_run (Blanks m)) ≤ m
blanks_short m = omega (arith, length-append (full_counts (m / 63)) (rest_of_blanks (m % 63)), length-full_counts (m / 63), rest_short (m % 63))

behind_short : (m : ℕ) (xs : List ℕ) → length (behind m xs) ≤ m + length xs
behind_short m [] = rw (behind_end m) (omega (arith, blanks_short m))
behind_short m (x ∷ xs) =
    ⊎_elim
    (λ (e : x ≡ BLANK). rw (behind_blank m x xs e) (omega (arith, behind_short (m + 1) xs)))
    (λ (n : x ≢ BLANK). rw (behind_byte m x xs n) (omega (arith, length-append (written_run (Blanks m)) (x ∷ behind 0 xs), blanks_short m, behind_short 0 xs)))
    (cases_eq x BLANK)

escape_short : (o : Option ℕ) → length (action_escape o) ≤ 2
escape_short None = omega arith
escape_short (Some code) = omega arith

-- compressing never lengthens
pub compressed_short : (xs : List ℕ) → length (compressed xs) ≤ length xs
unfolding compressed
compressed_short xs = omega (arith, behind_short 0 xs)

pub spelling_short : (mode : Mode) (r : Record) → length r.bytes.items ≤ 144 → length (spelling mode r) ≤ 147
spelling_short Normal r h =
    omega (
      arith,
      length-append (action_escape (code_of r.action)) (compressed r.bytes.items ++ IRS ∷ []),
      length-append (compressed r.bytes.items) (IRS ∷ []),
      compressed_short r.bytes.items,
      escape_short (code_of r.action),
    )
spelling_short Transparent r h = omega arith
