-- The same once the hidden file is made: it is filled, and gets the first free name.
-- `kept_is` and its neighbours say of each way out what stands under the new name, and that its bytes are on disk.
use Rattle.std.specs.Prelude.{string_bytes}
use Rattle.rje_folder.specs.FileNames.{IsNameOf}
use Rattle.rje_folder.specs.Inside.Calls.{MayWrite}
use Rattle.rje_folder.proofs.Linked.{named_after, named_before_one, named_by_link}
use Rattle.rje_folder.proofs.NewFile.{kept_is, kept_stands, link_kept, new_is_empty, sync_kept, unkept, write_keeps, written_whole}
use Rattle.rje_folder.proofs.keeping.keep_new.Goals as goal

pub returns-in_err-fill_new-clause-asks : goal.returns-in_err-fill_new-clause-asks
returns-in_err-fill_new-clause-asks g c = λ told folder new.
    let file = g.D.Disk.opened c.args.new.now.file in
    write_keeps folder c.args.bytes.now (IsNameOf c.args.names) file _ _ _ new (c.fill_new.ensures.asks told (new_is_empty folder file _ _ new))

pub returns-in_err-kept-clause-asks : goal.returns-in_err-kept-clause-asks
returns-in_err-kept-clause-asks g c = λ told folder new.
    let file = g.D.Disk.opened c.args.new.now.file in
    let from = string_bytes c.args.new.now.path in
    link_kept folder file from c.args.bytes.now (IsNameOf c.args.names) _ _ _ new (c.fill_new.ensures.asks told (new_is_empty folder file _ _ new)) (c.in_ok-fill_new.ensures.filled told)
    (rw c.as_str.ensures.value at (c.link_free.ensures.asks told))

pub returns-in-Ok-clause-asks : goal.returns-in-Ok-clause-asks
returns-in-Ok-clause-asks g c = λ told folder new.
    let file = g.D.Disk.opened c.args.new.now.file in
    let from = string_bytes c.args.new.now.path in
    let to = string_bytes c.in_ok-kept.kept.path in
    sync_kept folder file from to c.args.bytes.now (IsNameOf c.args.names) _ _ _ _ new (c.fill_new.ensures.asks told (new_is_empty folder file _ _ new)) (c.in_ok-fill_new.ensures.filled told)
    (rw c.as_str.ensures.value at (c.link_free.ensures.asks told)) c.in_ok-kept.ensures.named (rw (c.in_ok-kept.ensures.folder told) at (c.sync_names.ensures.asks told))

pub returns-in-Ok-clause-kept : goal.returns-in-Ok-clause-kept
returns-in-Ok-clause-kept g c = λ told folder new.
    let file = g.D.Disk.opened c.args.new.now.file in
    let from = string_bytes c.args.new.now.path in
    let to = string_bytes c.in_ok-kept.kept.path in
    kept_is from to c.args.bytes.now _ _ _ (rw c.as_str.ensures.value at (c.in_ok-kept.ensures.linked told))
    (written_whole folder file from c.args.bytes.now _ _ new (c.fill_new.ensures.asks told (new_is_empty folder file _ _ new)) (c.in_ok-fill_new.ensures.filled told))
    (rw (c.in_ok-kept.ensures.folder told) at (c.sync_names.ensures.asks told)) (rw (c.in_ok-kept.ensures.folder told) at (c.in-Ok.ensures.synced told))

pub returns-in-Err-clause-asks : goal.returns-in-Err-clause-asks
returns-in-Err-clause-asks g c = λ told folder new.
    let file = g.D.Disk.opened c.args.new.now.file in
    let from = string_bytes c.args.new.now.path in
    let to = string_bytes c.in_ok-kept.kept.path in
    unkept c.remove.result folder file from to c.args.bytes.now (IsNameOf c.args.names) _ _ _ _ _ new (c.fill_new.ensures.asks told (new_is_empty folder file _ _ new)) (c.in_ok-fill_new.ensures.filled told)
    (rw c.as_str.ensures.value at (c.link_free.ensures.asks told)) (rw c.as_str.ensures.value at (c.in_ok-kept.ensures.linked told)) c.in_ok-kept.ensures.named
    (rw (c.in_ok-kept.ensures.folder told) at (c.sync_names.ensures.asks told)) (rw c.as_str-in-Err.ensures.value at (c.remove.ensures told))

pub returns-in-Ok-clause-named_new : goal.returns-in-Ok-clause-named_new
returns-in-Ok-clause-named_new g c = λ told folder new.
    let file = g.D.Disk.opened c.args.new.now.file in
    let to = string_bytes c.in_ok-kept.kept.path in
    let (asked, is, which) = c.sync_names.ensures.asks told in
    named_before_one to _ _ _ asked (named_after (MayWrite file) to _ _ _ (c.fill_new.ensures.asks told (new_is_empty folder file _ _ new)) (named_by_link c.as_str.result.now to _ _ (c.in_ok-kept.ensures.linked told))) is

pub returns-in-Ok-clause-stands : goal.returns-in-Ok-clause-stands
returns-in-Ok-clause-stands g c = λ told folder new.
    let file = g.D.Disk.opened c.args.new.now.file in
    let from = string_bytes c.args.new.now.path in
    let to = string_bytes c.in_ok-kept.kept.path in
    kept_stands folder file from to _ _ _ _ new (c.fill_new.ensures.asks told (new_is_empty folder file _ _ new)) (rw c.as_str.ensures.value at (c.in_ok-kept.ensures.linked told))
    (rw (c.in_ok-kept.ensures.folder told) at (c.sync_names.ensures.asks told))
