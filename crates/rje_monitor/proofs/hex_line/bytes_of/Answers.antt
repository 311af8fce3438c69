use Rattle.std.proofs.Common.{◌≡◌, ℕ, List, [], ◌∷◌, ◌++◌, rules, sym, ap, ◌∙◌, subst, append_assoc, append-nil}
use Rattle.rje_monitor.specs.Turns.{IsPair, ArePairs, after_blanks}
use Rattle.rje_monitor.proofs.Pairs.{pairs_behind, pairs_end}
use Rattle.rje_monitor.proofs.hex_line.bytes_of.Goals as goal

pub loop-byte-preserved : goal.loop-byte-preserved
loop-byte-preserved c =
    let pushed : c.push.new.self.items ≡ c.loop-byte.bytes.items ++ c.in-Some.byte ∷ [] = search rules in
    record {
      pairs = λ more h.
          let same : c.loop-byte.bytes.items ++ c.in-Some.byte ∷ more ≡ c.push.new.self.items ++ more =
          sym (append_assoc c.loop-byte.bytes.items (c.in-Some.byte ∷ []) more) ∙ ap (λ (t : List ℕ). t ++ more) (sym pushed) in
          subst (λ (t : List ℕ). ArePairs t c.args.line.now) same (c.loop-byte.invariant.pairs (c.in-Some.byte ∷ more) (c.in-Some.more.now, c.in-Some.ensures.pair, h));
      good = pairs_behind c.loop-byte.rest.now c.in-Some.more.now c.in-Some.byte c.in-Some.ensures.pair c.loop-byte.invariant.good;
    }

pub returns : goal.returns
returns c =
    let none : (b : ℕ) (behind : List ℕ) → ¬ (IsPair b (after_blanks c.loop-byte.rest.now) behind) = search rules in
    let ends : c.loop-byte.rest.now ≡ [] = pairs_end c.loop-byte.rest.now none c.loop-byte.invariant.good in
    (c.requires.1.0, subst (λ (t : List ℕ). ArePairs t c.args.line.now) (append-nil c.loop-byte.bytes.items) (c.loop-byte.invariant.pairs [] ends))
