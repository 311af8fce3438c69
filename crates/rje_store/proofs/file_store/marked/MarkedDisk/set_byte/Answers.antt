-- A byte that is set: what is asked at each way out, and that it and no other is changed, on disk.
-- The file that is kept open is the one that the name leads to (Marking), so a mark in it is one in the file.
use Rattle.std.proofs.Common.{List, ℕ, Option, subst, sym}
use Rattle.std.specs.Prelude.{IfSome}
use Rattle.rje_store.specs.declared.file_store.marked.MarkedFile.{MarkedFile}
use Rattle.rje_store.specs.Replacing.{LeadsTo}
use Rattle.rje_store.specs.Marked.{IsMarked}
use Rattle.rje_store.proofs.Marking.{marked_to_set, opened_and_set, opened_to_set}
use Rattle.rje_store.proofs.file_store.marked.MarkedDisk.set_byte.Goals as goal

pub returns-in_err-file-clause-asks : goal.returns-in_err-file-clause-asks
returns-in_err-file-clause-asks g c = rw (← c.self.view_is) (λ told.
    let leads = g.D.Disk.leads in
    let name = c.args.name.now in
    opened_to_set leads name c.args.place c.args.byte _ _ (c.file_of.ensures.asks told))

pub returns-in_err-mark-clause-asks : goal.returns-in_err-mark-clause-asks
returns-in_err-mark-clause-asks g c = rw (← c.self.view_is) (λ told.
    let leads = g.D.Disk.leads in
    let name = c.args.name.now in
    let kept : IfSome c.take.result (λ file. IsMarked leads g.D.Disk.opened file (g.D.Disk.asked c.self.inside.disk)) =
    subst (λ (k : Option (MarkedFile g.row.D-File.Denot)). IfSome k (λ file. IsMarked leads g.D.Disk.opened file (g.D.Disk.asked c.self.inside.disk))) (sym c.take.ensures.value) (c.self.invariant told) in
    let marked : IsMarked leads g.D.Disk.opened c.in_ok-file.file (g.D.Disk.asked c.file_of.new.disk) = c.in_ok-file.ensures.marked told kept in
    let file = g.D.Disk.opened c.in_ok-file.file.file in
    let led : LeadsTo leads name file.name = subst (λ (n : List ℕ). LeadsTo leads n file.name) c.in_ok-file.ensures.name marked.led in
    marked_to_set leads name file c.args.place c.args.byte _ _ _ led (c.file_of.ensures.asks told) (c.mark.ensures.asks told))

pub returns-clause-asks : goal.returns-clause-asks
returns-clause-asks g c = rw (← c.self.view_is) (λ told.
    let leads = g.D.Disk.leads in
    let name = c.args.name.now in
    let kept : IfSome c.take.result (λ file. IsMarked leads g.D.Disk.opened file (g.D.Disk.asked c.self.inside.disk)) =
    subst (λ (k : Option (MarkedFile g.row.D-File.Denot)). IfSome k (λ file. IsMarked leads g.D.Disk.opened file (g.D.Disk.asked c.self.inside.disk))) (sym c.take.ensures.value) (c.self.invariant told) in
    let marked : IsMarked leads g.D.Disk.opened c.in_ok-file.file (g.D.Disk.asked c.file_of.new.disk) = c.in_ok-file.ensures.marked told kept in
    let file = g.D.Disk.opened c.in_ok-file.file.file in
    let led : LeadsTo leads name file.name = subst (λ (n : List ℕ). LeadsTo leads n file.name) c.in_ok-file.ensures.name marked.led in
    marked_to_set leads name file c.args.place c.args.byte _ _ _ led (c.file_of.ensures.asks told) (c.mark.ensures.asks told))

pub returns-clause-sets : goal.returns-clause-sets
returns-clause-sets g c = rw (← c.self.view_is) (λ told.
    let leads = g.D.Disk.leads in
    let name = c.args.name.now in
    let kept : IfSome c.take.result (λ file. IsMarked leads g.D.Disk.opened file (g.D.Disk.asked c.self.inside.disk)) =
    subst (λ (k : Option (MarkedFile g.row.D-File.Denot)). IfSome k (λ file. IsMarked leads g.D.Disk.opened file (g.D.Disk.asked c.self.inside.disk))) (sym c.take.ensures.value) (c.self.invariant told) in
    let marked : IsMarked leads g.D.Disk.opened c.in_ok-file.file (g.D.Disk.asked c.file_of.new.disk) = c.in_ok-file.ensures.marked told kept in
    let file = g.D.Disk.opened c.in_ok-file.file.file in
    let led : LeadsTo leads name file.name = subst (λ (n : List ℕ). LeadsTo leads n file.name) c.in_ok-file.ensures.name marked.led in
    opened_and_set leads name file c.args.place c.args.byte _ _ _ led (c.file_of.ensures.asks told) (c.in_ok-mark.ensures.sets told marked))
