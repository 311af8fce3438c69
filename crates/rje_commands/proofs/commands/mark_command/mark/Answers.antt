-- The command does what the order says: its fault, its files, and what is printed.
-- What was read and marked is what the order asks for (lemmas of Inputs); all that is said of the files follows from the one write.
use Rattle.std.proofs.Common.{◌∙◌, subst, ap, inl, inr, OnOk}
use Rattle.std.specs.Prelude.{None}
use Rattle.std.specs.Io.KnownBytes.{Appends}
use Rattle.std.proofs.lemmas.Result.{on_ok_weaker}
use Rattle.rje_print.specs.JobTexts.{marked_line}
use Rattle.rje_requests.specs.declared.order.FileOrder.{FileOrder}
use Rattle.rje_commands.specs.Commands.{IsFault, MarksEntries, MarksFile, MarksJobs}
use Rattle.rje_commands.specs.Inside.Commands.{IsMarkedOf}
use Rattle.rje_commands.proofs.Inputs.{hold_of_write, mark_hold_fault, marked_fault, marks_entries, of_file, told_as, whatever}
use Rattle.rje_store.proofs.Changes.{same_twice}
use Rattle.rje_commands.proofs.commands.mark_command.mark.Goals as goal

pub returns-in_err-held-clause-fault : goal.returns-in_err-held-clause-fault
returns-in_err-held-clause-fault g c =
    let files = g.S.Store.files c.args.store.now in
    let fault = c.in_err-held.field-0.0 in
    told_as c.from_residual.result fault (IsFault (FileOrder.Mark c.args.order) files None) c.from_residual.ensures.1
    (mark_hold_fault c.args.order files fault c.in_err-held.ensures.fault)

pub returns-in_err-marked-clause-fault : goal.returns-in_err-marked-clause-fault
returns-in_err-marked-clause-fault g c =
    let files = g.S.Store.files c.args.store.now in
    let fault = c.in_err-marked.field-0.0 in
    told_as c.from_residual-in_err-marked.result fault (IsFault (FileOrder.Mark c.args.order) files None) c.from_residual-in_err-marked.ensures.1
    (marked_fault c.args.order files c.in_ok-held.held.bytes.items c.in_ok-held.ensures.file fault (rw c.bytes.ensures at c.in_err-marked.ensures.fault))

pub returns-in_err-write_marks-clause-fault : goal.returns-in_err-write_marks-clause-fault
returns-in_err-write_marks-clause-fault g c =
    let files = g.S.Store.files c.args.store.now in
    let fault = c.in_err-write_marks.field-0.0 in
    told_as c.from_residual-in_err-write_marks.result fault (IsFault (FileOrder.Mark c.args.order) files None) c.from_residual-in_err-write_marks.ensures.1
    (mark_hold_fault c.args.order files fault (hold_of_write c.args.order.jobs.now fault c.in_err-write_marks.ensures.fault))

pub returns-clause-done : goal.returns-clause-done
returns-clause-done g c =
    let files = g.S.Store.files c.args.store.now in
    let after = g.S.Store.files c.write_marks.new.store in
    let file = c.in_ok-held.held.bytes.items in
    let order = c.args.order in
    let marked : IsMarkedOf order file c.in_ok-marked.marked.bytes.items c.in_ok-marked.marked.jobs = rw c.bytes.ensures at c.in_ok-marked.ensures.made in
    let made : MarksEntries order marked.entries files after =
    marks_entries order file c.in_ok-marked.marked.bytes.items _ files _ after marked (rw c.as_slice.ensures.value at c.in_ok-write_marks.ensures.limit)
    c.in_ok-held.ensures.same (rw c.as_slice.ensures.value at c.in_ok-write_marks.ensures.sets) in
    let line = c.as_slice-2.ensures.value ∙ c.marked_text.ensures.line ∙ ap marked_line marked.jobs_are in
    let before = g.O.Write.contents c.args.out.now in
    let printed_then = g.O.Write.contents c.put.new.out in
    on_ok_weaker c.put.result (λ printed.
    of_file (λ read. MarksJobs order read files after before printed_then) file (marked.entries, marked.file_is, made, printed) order.jobs.now files
    c.in_ok-held.ensures.file) (subst (λ text. OnOk c.put.result (Appends before printed_then text)) line c.put.ensures.text)

pub returns-clause-files : goal.returns-clause-files
returns-clause-files g c =
    let files = g.S.Store.files c.args.store.now in
    let after = g.S.Store.files c.write_marks.new.store in
    let file = c.in_ok-held.held.bytes.items in
    let order = c.args.order in
    let marked : IsMarkedOf order file c.in_ok-marked.marked.bytes.items c.in_ok-marked.marked.jobs = rw c.bytes.ensures at c.in_ok-marked.ensures.made in
    let made : MarksEntries order marked.entries files after =
    marks_entries order file c.in_ok-marked.marked.bytes.items _ files _ after marked (rw c.as_slice.ensures.value at c.in_ok-write_marks.ensures.limit)
    c.in_ok-held.ensures.same (rw c.as_slice.ensures.value at c.in_ok-write_marks.ensures.sets) in
    inr (of_file (λ read. MarksFile order read files after) file (marked.entries, marked.file_is, made) order.jobs.now files c.in_ok-held.ensures.file)

pub returns-clause-made : goal.returns-clause-made
returns-clause-made g c =
    let files = g.S.Store.files c.args.store.now in
    let after = g.S.Store.files c.write_marks.new.store in
    let file = c.in_ok-held.held.bytes.items in
    let order = c.args.order in
    let marked : IsMarkedOf order file c.in_ok-marked.marked.bytes.items c.in_ok-marked.marked.jobs = rw c.bytes.ensures at c.in_ok-marked.ensures.made in
    let made : MarksEntries order marked.entries files after =
    marks_entries order file c.in_ok-marked.marked.bytes.items _ files _ after marked (rw c.as_slice.ensures.value at c.in_ok-write_marks.ensures.limit)
    c.in_ok-held.ensures.same (rw c.as_slice.ensures.value at c.in_ok-write_marks.ensures.sets) in
    let makes = of_file (λ read. MarksFile order read files after) file (marked.entries, marked.file_is, made) order.jobs.now files
    c.in_ok-held.ensures.file in
    whatever c.put.result _ _ makes

pub returns-in_err-write_marks-clause-files : goal.returns-in_err-write_marks-clause-files
returns-in_err-write_marks-clause-files g c = inl (same_twice _ _ _ c.in_ok-held.ensures.same c.in_err-write_marks.ensures.same)
