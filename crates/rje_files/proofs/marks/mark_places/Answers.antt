use Rattle.std.proofs.Common.{rules, ◌∙◌, sym}
use Rattle.rje_files.proofs.Marking.{adds, all_there, each_there, marks_there, passes, stand_there}
use Rattle.rje_files.proofs.marks.mark_places.Goals.{then-not-was_sent+in_ok-push, else-not-was_sent}
use Rattle.rje_files.proofs.marks.mark_places.Goals as goal

pub loop-entry-preserved : goal.loop-entry-preserved
loop-entry-preserved c = elim c.if-not-was_sent.branch [
  | then-not-was_sent+in_ok-push w ↦ rw (w.places-is, w.start-is)
      (adds c.args.entries.now c.loop-entry.entry-index c.loop-entry.start c.in_ok-next.next _ c.entry-item.result c.loop-entry.places.items _ _ c.entry-item.is c.loop-entry-test.true
      (sym c.was_sent.ensures ∙ w.if-not-was_sent.true) (search rules) (search rules) c.loop-entry.invariant)
  | else-not-was_sent w ↦ rw (w.places-is, w.start-is)
      (passes c.args.entries.now c.loop-entry.entry-index c.loop-entry.start c.in_ok-next.next _ c.entry-item.result c.loop-entry.places.items _ c.entry-item.is c.loop-entry-test.true
      (sym c.was_sent.ensures ∙ w.if-not-was_sent.false) (search rules) c.loop-entry.invariant)
]

pub returns-clause-each : goal.returns-clause-each
returns-clause-each c =
    each_there c.args.entries.now c.loop-entry.places.items
    (all_there c.args.entries.now c.loop-entry.entry-index c.loop-entry.start c.loop-entry.places.items c.loop-entry-test.false c.loop-entry.invariant)

pub returns-clause-stand : goal.returns-clause-stand
returns-clause-stand c =
    stand_there c.args.entries.now c.loop-entry.places.items
    (all_there c.args.entries.now c.loop-entry.entry-index c.loop-entry.start c.loop-entry.places.items c.loop-entry-test.false c.loop-entry.invariant)

pub returns-clause-marks : goal.returns-clause-marks
returns-clause-marks c = λ file has pass.
    marks_there c.args.entries.now c.loop-entry.places.items file
    (all_there c.args.entries.now c.loop-entry.entry-index c.loop-entry.start c.loop-entry.places.items c.loop-entry-test.false c.loop-entry.invariant) has pass
