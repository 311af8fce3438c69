use Rattle.std.proofs.Common.{◌++◌, List, ℕ, ap, ◌∙◌, arith}
use Rattle.std.proofs.lemmas.List.{take-replicate}
use Rattle.bsc_codes.specs.Bytes.{BLANK}
use Rattle.rje_text.proofs.record_text.fill.Goals as goal

pub returns : goal.returns
returns c =
    c.append.ensures ∙ ap (λ (xs : List ℕ). c.args.bytes.now.items ++ xs) (c.split_at.ensures.front ∙ take-replicate c.args.count 144 BLANK (omega arith))
