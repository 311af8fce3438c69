use Rattle.std.proofs.Common.{◌∙◌, List, ℕ, subst, sym}
use Rattle.std.specs.Prelude.{string_bytes}
use Rattle.rje_folder.specs.Reading.{GotSecond}
use Rattle.rje_folder.specs.declared.ready_opening.NamedFile.{NamedFile}
use Rattle.rje_folder.proofs.Read.{got_second, link_reads, opened_named, remove_reads}
use Rattle.rje_folder.proofs.ready_opening.open_ready.Goals as goal

pub returns-in-Err-clause-asks : goal.returns-in-Err-clause-asks
returns-in-Err-clause-asks g c = λ told. link_reads c.args.station.now c.args.name.now _ _ (c.second_path.ensures.asks told)

pub returns-in-Ok-opened-clause-asks : goal.returns-in-Ok-opened-clause-asks
returns-in-Ok-opened-clause-asks g c = λ told. remove_reads c.remove.result c.args.station.now c.args.name.now (string_bytes c.in-Ok.second) _ _ _ c.in-Ok.ensures.temporary (c.second_path.ensures.asks told) (c.in-Ok.ensures.linked told)
    (rw c.as_str-2.ensures.value at (c.remove.ensures told))

pub returns-in-Ok-opened-clause-opened : goal.returns-in-Ok-opened-clause-opened
returns-in-Ok-opened-clause-opened g c = λ told.
    let second = string_bytes c.in-Ok.second in
    let got = GotSecond c.args.station.now c.args.name.now in
    opened_named (λ (ready : NamedFile g.row.D-File.Denot). ready.file) g.D.Disk.opened c.in-Ok-opened.file c.as_named.result (λ (name : List ℕ). got name (g.D.Disk.asked c.args.disk.now) (g.D.Disk.asked c.remove.new.self)) c.as_named.ensures.opened
    (subst (λ (name : List ℕ). got name (g.D.Disk.asked c.args.disk.now) (g.D.Disk.asked c.remove.new.self)) (sym (c.in-Ok-opened.ensures told ∙ c.as_str.ensures.value))
    (got_second c.remove.result c.args.station.now c.args.name.now second _ _ _ c.in-Ok.ensures.temporary (c.in-Ok.ensures.linked told) (rw c.as_str-2.ensures.value at (c.remove.ensures told))))

pub returns-clause-asks : goal.returns-clause-asks
returns-clause-asks g c = λ told. remove_reads c.remove.result c.args.station.now c.args.name.now (string_bytes c.in-Ok.second) _ _ _ c.in-Ok.ensures.temporary (c.second_path.ensures.asks told) (c.in-Ok.ensures.linked told)
    (rw c.as_str-2.ensures.value at (c.remove.ensures told))
