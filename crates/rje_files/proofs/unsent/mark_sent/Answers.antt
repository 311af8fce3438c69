use Rattle.std.proofs.Common.{◌-◌, sym, ◌∙◌, arith}
use Rattle.std.proofs.lemmas.List.{set-get_or}
use Rattle.rje_files.proofs.Sent.{pass_sent, pass_rest, mark}
use Rattle.rje_files.proofs.unsent.mark_sent.Goals.{then-left-gt0+then-not-was_sent, else-left-gt0, else-left-gt0-via-then-left-gt0+else-not-was_sent, else-left-gt0-via-else-left-gt0}
use Rattle.rje_files.proofs.unsent.mark_sent.Goals as goal

pub loop-entry-preserved : goal.loop-entry-preserved
loop-entry-preserved c = elim c.if-left-gt0.branch [
  | then-left-gt0+then-not-was_sent w ↦ rw w.left-is
      (mark c.loop-entry.entries c.if-left-gt0.entries _ c.loop-entry.entry-index c.loop-entry.left (c.loop-entry.left - 1) c.entry-item.result (omega (arith, c.loop-entry-test.true, c.loop-entry.auto.entries)) w.entries-is
      (omega (arith, w.if-left-gt0.true)) (sym w.was_sent.ensures ∙ w.if-not-was_sent.true) c.loop-entry.invariant)
  | else-left-gt0 w ↦ elim w.else-left-gt0.branch [
    | else-left-gt0-via-then-left-gt0+else-not-was_sent v ↦ rw (w.left-is, w.entries-is, v.entries-is, set-get_or c.loop-entry.entries c.loop-entry.entry-index c.entry-item.result)
        (pass_sent c.loop-entry.entries _ c.loop-entry.entry-index c.loop-entry.left c.entry-item.result (omega (arith, c.loop-entry-test.true, c.loop-entry.auto.entries)) (sym v.was_sent.ensures ∙ v.if-not-was_sent.false) c.loop-entry.invariant)
    | else-left-gt0-via-else-left-gt0 v ↦ rw (w.left-is, w.entries-is, v.entries-is, set-get_or c.loop-entry.entries c.loop-entry.entry-index c.entry-item.result)
        (pass_rest c.loop-entry.entries _ c.loop-entry.entry-index c.loop-entry.left c.entry-item.result (omega (arith, c.loop-entry-test.true, c.loop-entry.auto.entries)) (omega (arith, v.if-left-gt0.false)) c.loop-entry.invariant)
  ]
]
