use Rattle.std.proofs.Common.{inl, inr, sym, ◌∙◌}
use Rattle.rje_text.proofs.Expanding.{no_escape, no_code, code_at}
use Rattle.rje_text.proofs.record_text.head_of.Goals as goal
use Rattle.rje_text.proofs.record_text.head_of.Goals.{then-text-lt2-via-then-text-lt2, then-text-lt2-via-else-text-lt2+then-text-ne-ESC}

pub returns-then-text-lt2 : goal.returns-then-text-lt2
returns-then-text-lt2 c =
    elim c.then-text-lt2.branch [
      | then-text-lt2-via-then-text-lt2 w ↦ no_escape c.args.text.now (inl w.if-text-lt2.true)
      | then-text-lt2-via-else-text-lt2+then-text-ne-ESC w ↦ no_escape c.args.text.now (inr w.if-text-ne-ESC.true)
    ]

pub returns-in-Some : goal.returns-in-Some
returns-in-Some c = code_at c.args.text.now c.in-Some.action c.if-text-lt2.false c.if-text-ne-ESC.false (sym c.in-Some.is ∙ c.of.ensures)

pub returns-in-None : goal.returns-in-None
returns-in-None c = no_code c.args.text.now c.if-text-lt2.false (sym c.in-None.is ∙ c.of.ensures)
