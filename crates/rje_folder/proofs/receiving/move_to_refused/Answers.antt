-- A file that is put aside: what is asked at each way out, and that it is in refused/ and no more in out/ after `Ok`.
-- Its second name is in refused/ and on disk first (`adds_aside`); then the name in out/ is taken away (`takes_aside`, `aside_is`).
use Rattle.std.proofs.Common.{◌∙◌, ap, ℕ, List}
use Rattle.std.specs.Prelude.{string_bytes}
use Rattle.rje_store.specs.Disk.{has_synced_name}
use Rattle.rje_folder.proofs.SecondNames.{out_is_not_hidden_in_refused}
use Rattle.rje_folder.proofs.TakenOut.{adds_aside, aside_is, takes_aside}
use Rattle.rje_folder.proofs.receiving.move_to_refused.Goals as goal

pub returns-in_err-added-clause-asks : goal.returns-in_err-added-clause-asks
returns-in_err-added-clause-asks g c = λ told. adds_aside g.D.FolderDisk.is_file g.D.FolderDisk.are_one c.args.station.now (record { name = c.args.name.now; file = c.args.file }) _ _
    (rw (c.as_str-4.ensures.value ∙ c.in_ok-own.ensures, c.as_str-5.ensures.value ∙ c.in_ok-ready.ensures, c.as_str-3.ensures.value ∙ c.in_ok-refused.ensures) at (c.add_name_of.ensures.asks told))

pub returns-in_default-clause-asks : goal.returns-in_default-clause-asks
returns-in_default-clause-asks g c = λ told. adds_aside g.D.FolderDisk.is_file g.D.FolderDisk.are_one c.args.station.now (record { name = c.args.name.now; file = c.args.file }) _ _
    (rw (c.as_str-4.ensures.value ∙ c.in_ok-own.ensures, c.as_str-5.ensures.value ∙ c.in_ok-ready.ensures, c.as_str-3.ensures.value ∙ c.in_ok-refused.ensures) at (c.add_name_of.ensures.asks told))

pub returns-in_err-take_out-clause-asks : goal.returns-in_err-take_out-clause-asks
returns-in_err-take_out-clause-asks g c = λ told. takes_aside g.D.FolderDisk.is_file g.D.FolderDisk.are_one c.args.station.now (record { name = c.args.name.now; file = c.args.file }) (string_bytes c.in-Some.field-0.path) _ _ _
    (rw (c.as_str-4.ensures.value ∙ c.in_ok-own.ensures, c.as_str-5.ensures.value ∙ c.in_ok-ready.ensures, c.as_str-3.ensures.value ∙ c.in_ok-refused.ensures) at (c.add_name_of.ensures.asks told))
    (rw (c.in-Some.is, c.as_str-3.ensures.value ∙ c.in_ok-refused.ensures) at c.in_ok-added.ensures.named)
    (rw c.as_str-6.ensures.value at (c.take_out.ensures.asks told))

pub returns-then-branch-clause-asks : goal.returns-then-branch-clause-asks
returns-then-branch-clause-asks g c = λ told. takes_aside g.D.FolderDisk.is_file g.D.FolderDisk.are_one c.args.station.now (record { name = c.args.name.now; file = c.args.file }) (string_bytes c.in-Some.field-0.path) _ _ _
    (rw (c.as_str-4.ensures.value ∙ c.in_ok-own.ensures, c.as_str-5.ensures.value ∙ c.in_ok-ready.ensures, c.as_str-3.ensures.value ∙ c.in_ok-refused.ensures) at (c.add_name_of.ensures.asks told))
    (rw (c.in-Some.is, c.as_str-3.ensures.value ∙ c.in_ok-refused.ensures) at c.in_ok-added.ensures.named)
    (rw c.as_str-6.ensures.value at (c.take_out.ensures.asks told))

pub returns-clause-asks : goal.returns-clause-asks
returns-clause-asks g c = λ told. takes_aside g.D.FolderDisk.is_file g.D.FolderDisk.are_one c.args.station.now (record { name = c.args.name.now; file = c.args.file }) (string_bytes c.in-Some.field-0.path) _ _ _
    (rw (c.as_str-4.ensures.value ∙ c.in_ok-own.ensures, c.as_str-5.ensures.value ∙ c.in_ok-ready.ensures, c.as_str-3.ensures.value ∙ c.in_ok-refused.ensures) at (c.add_name_of.ensures.asks told))
    (rw (c.in-Some.is, c.as_str-3.ensures.value ∙ c.in_ok-refused.ensures) at c.in_ok-added.ensures.named)
    (rw c.as_str-6.ensures.value at (c.take_out.ensures.asks told))

pub returns-then-branch-clause-moved : goal.returns-then-branch-clause-moved
returns-then-branch-clause-moved g c = λ told. aside_is g.D.FolderDisk.are_one c.args.station.now c.args.name.now (string_bytes c.in-Some.field-0.path)
    (g.D.Disk.asked c.args.disk.now) (g.D.Disk.asked c.add_name_of.new.disk) (g.D.Disk.asked c.take_out.new.disk)
    ((rw (c.in-Some.is, c.as_str-4.ensures.value ∙ c.in_ok-own.ensures, c.as_str-5.ensures.value ∙ c.in_ok-ready.ensures) at (c.in_ok-added.ensures.second told)) (out_is_not_hidden_in_refused c.args.station.now c.args.name.now))
    (rw c.as_str-6.ensures.value at (c.take_out.ensures.asks told))
    (c.in_ok-take_out.ensures.taken told c.if-branch.true)

pub take_out-requires-clause-kept : goal.take_out-requires-clause-kept
take_out-requires-clause-kept g c = λ told.
    let second = (rw (c.in-Some.is, c.as_str-4.ensures.value ∙ c.in_ok-own.ensures, c.as_str-5.ensures.value ∙ c.in_ok-ready.ensures) at (c.in_ok-added.ensures.second told))
    (out_is_not_hidden_in_refused c.args.station.now c.args.name.now) in
    ap (λ (name : List ℕ). has_synced_name name (g.D.Disk.asked c.add_name_of.new.disk)) c.as_str-6.ensures.value ∙ second.2
