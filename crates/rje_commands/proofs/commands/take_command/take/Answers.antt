-- The command does what the order says: its fault, its files, and what is printed.
-- What was read and chosen is what the order asks for (lemmas of Inputs); all that is said of the files follows from the one write.
use Rattle.std.proofs.Common.{ℕ, length, ◌∙◌, subst, ap, inl, inr, refl, OnOk}
use Rattle.std.specs.Prelude.{None, option_map}
use Rattle.std.specs.Io.KnownBytes.{Appends}
use Rattle.std.proofs.lemmas.Result.{on_ok_weaker}
use Rattle.rje_print.specs.JobTexts.{taken_line}
use Rattle.rje_requests.specs.declared.order.FileOrder.{FileOrder}
use Rattle.rje_commands.specs.Chosen.{taken}
use Rattle.rje_commands.specs.Commands.{IsFault, TakesEntries, TakesFile, TakesJobs}
use Rattle.rje_commands.specs.Inside.Commands.{IsTakenOf}
use Rattle.rje_commands.proofs.Inputs.{hold_of_write, of_file, take_hold_fault, taken_fault, takes_entries, told_as, whatever}
use Rattle.rje_store.proofs.Changes.{same_twice}
use Rattle.rje_commands.proofs.commands.take_command.take.Goals as goal

pub returns-in_err-held-clause-fault : goal.returns-in_err-held-clause-fault
returns-in_err-held-clause-fault g c =
    let files = g.S.Store.files c.args.store.now in
    let fault = c.in_err-held.field-0.0 in
    told_as c.from_residual.result fault (IsFault (FileOrder.Take c.args.order) files None) c.from_residual.ensures.1
    (take_hold_fault c.args.order files c.args.order.jobs.now (inl refl) fault c.in_err-held.ensures.fault)

pub returns-in_err-found-clause-fault : goal.returns-in_err-found-clause-fault
returns-in_err-found-clause-fault g c =
    let files = g.S.Store.files c.args.store.now in
    let fault = c.in_err-found.field-0.0 in
    told_as c.from_residual-in_err-found.result fault (IsFault (FileOrder.Take c.args.order) files None) c.from_residual-in_err-found.ensures.1
    (take_hold_fault c.args.order files c.args.order.new.now (inr refl) fault c.in_err-found.ensures.fault)

pub returns-in_err-taken-clause-fault : goal.returns-in_err-taken-clause-fault
returns-in_err-taken-clause-fault g c =
    let files = g.S.Store.files c.args.store.now in
    let fault = c.in_err-taken.field-0.0 in
    told_as c.from_residual-in_err-taken.result fault (IsFault (FileOrder.Take c.args.order) files None) c.from_residual-in_err-taken.ensures.1
    (taken_fault c.args.order files _ c.in_ok-held.held.bytes.items (option_map (λ bytes. bytes.items) c.in_ok-found.found) c.in_ok-held.ensures.file
    c.in_ok-held.ensures.same c.in_ok-found.ensures.found fault (rw c.bytes.ensures at c.in_err-taken.ensures.fault))

pub returns-in_err-write_file-clause-fault : goal.returns-in_err-write_file-clause-fault
returns-in_err-write_file-clause-fault g c =
    let files = g.S.Store.files c.args.store.now in
    let fault = c.in_err-write_file.field-0.0 in
    told_as c.from_residual-in_err-write_file.result fault (IsFault (FileOrder.Take c.args.order) files None) c.from_residual-in_err-write_file.ensures.1
    (take_hold_fault c.args.order files c.args.order.new.now (inr refl) fault (hold_of_write c.args.order.new.now fault c.in_err-write_file.ensures.fault))

pub returns-clause-done : goal.returns-clause-done
returns-clause-done g c =
    let files = g.S.Store.files c.args.store.now in
    let after = g.S.Store.files c.write_file.new.store in
    let file = c.in_ok-held.held.bytes.items in
    let found = option_map (λ bytes. bytes.items) c.in_ok-found.found in
    let order = c.args.order in
    let bytes = c.in_ok-taken.taken.bytes.items in
    let of : IsTakenOf order file found bytes c.in_ok-taken.taken.jobs c.in_ok-taken.taken.cards = rw c.bytes.ensures at c.in_ok-taken.ensures.made in
    let made : TakesEntries order of.entries files after =
    takes_entries order file bytes found _ _ files _ _ after of (rw c.as_slice.ensures.value at c.in_ok-write_file.ensures.limit) c.in_ok-held.ensures.same
    c.in_ok-found.ensures.found c.in_ok-found.ensures.same c.in_ok-found.ensures.two (rw c.as_slice.ensures.value at c.in_ok-write_file.ensures.sets) in
    let numbers = order.numbers.text.now in
    let counts = ap (λ (n : ℕ). taken_line n c.in_ok-taken.taken.cards) of.jobs_are ∙ ap (taken_line (length (taken numbers of.entries))) of.cards_are in
    let line = c.as_slice-2.ensures.value ∙ c.taken_text.ensures.line ∙ counts in
    let before = g.O.Write.contents c.args.out.now in
    let printed_then = g.O.Write.contents c.put.new.out in
    on_ok_weaker c.put.result (λ printed.
    of_file (λ read. TakesJobs order read files after before printed_then) file (of.entries, of.file_is, made, printed) order.jobs.now files
    c.in_ok-held.ensures.file) (subst (λ text. OnOk c.put.result (Appends before printed_then text)) line c.put.ensures.text)

pub returns-clause-files : goal.returns-clause-files
returns-clause-files g c =
    let files = g.S.Store.files c.args.store.now in
    let after = g.S.Store.files c.write_file.new.store in
    let file = c.in_ok-held.held.bytes.items in
    let found = option_map (λ bytes. bytes.items) c.in_ok-found.found in
    let order = c.args.order in
    let bytes = c.in_ok-taken.taken.bytes.items in
    let of : IsTakenOf order file found bytes c.in_ok-taken.taken.jobs c.in_ok-taken.taken.cards = rw c.bytes.ensures at c.in_ok-taken.ensures.made in
    let made : TakesEntries order of.entries files after =
    takes_entries order file bytes found _ _ files _ _ after of (rw c.as_slice.ensures.value at c.in_ok-write_file.ensures.limit) c.in_ok-held.ensures.same
    c.in_ok-found.ensures.found c.in_ok-found.ensures.same c.in_ok-found.ensures.two (rw c.as_slice.ensures.value at c.in_ok-write_file.ensures.sets) in
    inr (of_file (λ read. TakesFile order read files after) file (of.entries, of.file_is, made) order.jobs.now files c.in_ok-held.ensures.file)

pub returns-clause-made : goal.returns-clause-made
returns-clause-made g c =
    let files = g.S.Store.files c.args.store.now in
    let after = g.S.Store.files c.write_file.new.store in
    let file = c.in_ok-held.held.bytes.items in
    let found = option_map (λ bytes. bytes.items) c.in_ok-found.found in
    let order = c.args.order in
    let bytes = c.in_ok-taken.taken.bytes.items in
    let of : IsTakenOf order file found bytes c.in_ok-taken.taken.jobs c.in_ok-taken.taken.cards = rw c.bytes.ensures at c.in_ok-taken.ensures.made in
    let made : TakesEntries order of.entries files after =
    takes_entries order file bytes found _ _ files _ _ after of (rw c.as_slice.ensures.value at c.in_ok-write_file.ensures.limit) c.in_ok-held.ensures.same
    c.in_ok-found.ensures.found c.in_ok-found.ensures.same c.in_ok-found.ensures.two (rw c.as_slice.ensures.value at c.in_ok-write_file.ensures.sets) in
    let makes = of_file (λ read. TakesFile order read files after) file (of.entries, of.file_is, made) order.jobs.now files
    c.in_ok-held.ensures.file in
    whatever c.put.result _ _ makes

pub returns-in_err-write_file-clause-files : goal.returns-in_err-write_file-clause-files
returns-in_err-write_file-clause-files g c =
    let read = same_twice _ _ _ c.in_ok-held.ensures.same c.in_ok-found.ensures.same in
    inl (same_twice _ _ _ read c.in_err-write_file.ensures.same)
