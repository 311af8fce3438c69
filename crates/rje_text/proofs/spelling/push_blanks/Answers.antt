use Rattle.std.proofs.Common.{◌++◌, ◌∷◌, [], ap, sym, ◌∙◌, arith}
use Rattle.std.proofs.lemmas.List.{append_assoc}
use Rattle.bsc_codes.specs.Bytes.{IGS}
use Rattle.rje_text.specs.Spelling.{full_counts}
use Rattle.rje_text.proofs.Blanks.{full_counts-more}
use Rattle.rje_text.proofs.spelling.push_blanks.Goals as goal

pub loop-i-preserved : goal.loop-i-preserved
loop-i-preserved c =
    let old = c.args.out.now.items in
    let n = c.loop-i._i in
    record {
      text = c.push-in-loop-i.ensures.items ∙ ap (λ xs. xs ++ 0x7F ∷ []) (c.push.ensures.items ∙ ap (λ xs. xs ++ IGS ∷ []) c.loop-i.invariant.text)
          ∙ append_assoc (old ++ full_counts n) (IGS ∷ []) (0x7F ∷ []) ∙ append_assoc old (full_counts n) (IGS ∷ 0x7F ∷ []) ∙ ap (λ xs. old ++ xs) (sym (full_counts-more n));
      len = omega arith;
    }
