-- A new file of these bytes: what is asked at each way out, and that it is on disk after `Ok`.
-- One call after another is added (`added_call`); an empty file that is filled, synced and named is on disk (lemmas of Received).
use Rattle.std.proofs.Common.{inl, inr, refl, ap}
use Rattle.rje_store.proofs.Replacing.{added_call, added_none, added_twice}
use Rattle.rje_store.specs.declared.new_access.NewAccess.{NewAccess}
use Rattle.rje_store.specs.Disk.{Create, Fill, Opened, Sync}
use Rattle.rje_accounts.specs.Receiving.{MayReceive}
use Rattle.rje_accounts.proofs.Asked.{ok_turn, sync_added}
use Rattle.rje_accounts.proofs.Received.{received_empty, received_on_disk, received_whole}
use Rattle.rje_accounts.proofs.receiving.receive.Goals as goal

pub returns-in_err-file-clause-asks : goal.returns-in_err-file-clause-asks
returns-in_err-file-clause-asks g c = λ told.
    let path = c.args.path.now in
    let may = MayReceive path c.args.bytes.now in
    let made = added_call may _ _ _ c.create.result (Create NewAccess.Private path) (added_none may _) (c.create.ensures.asks told) (inl refl) in
    made

pub returns-in_err-fill-clause-asks : goal.returns-in_err-fill-clause-asks
returns-in_err-fill-clause-asks g c = λ told.
    let path = c.args.path.now in
    let may = MayReceive path c.args.bytes.now in
    let made = added_call may _ _ _ c.create.result (Create NewAccess.Private path) (added_none may _) (c.create.ensures.asks told) (inl refl) in
    let file = g.D.Disk.opened c.in_ok-file.file in
    let is = c.in_ok-file.ensures.file told in
    let filled = added_call may _ _ _ c.fill.result (Fill file c.args.bytes.now) made (c.fill.ensures told)
    (inr (inr (file, ap (λ (f : Opened). f.name) is, inl (refl, received_empty path file _ _ (c.in_ok-file.ensures.asks told) is)))) in
    filled

pub returns-in_err-sync-clause-asks : goal.returns-in_err-sync-clause-asks
returns-in_err-sync-clause-asks g c = λ told.
    let path = c.args.path.now in
    let may = MayReceive path c.args.bytes.now in
    let made = added_call may _ _ _ c.create.result (Create NewAccess.Private path) (added_none may _) (c.create.ensures.asks told) (inl refl) in
    let file = g.D.Disk.opened c.in_ok-file.file in
    let is = c.in_ok-file.ensures.file told in
    let filled = added_call may _ _ _ c.fill.result (Fill file c.args.bytes.now) made (c.fill.ensures told)
    (inr (inr (file, ap (λ (f : Opened). f.name) is, inl (refl, received_empty path file _ _ (c.in_ok-file.ensures.asks told) is)))) in
    let synced = added_call may _ _ _ c.sync.result (Sync file) filled (c.sync.ensures told) (inr (inr (file, ap (λ (f : Opened). f.name) is, inr refl))) in
    synced

pub returns-clause-asks : goal.returns-clause-asks
returns-clause-asks g c = λ told.
    let path = c.args.path.now in
    let may = MayReceive path c.args.bytes.now in
    let made = added_call may _ _ _ c.create.result (Create NewAccess.Private path) (added_none may _) (c.create.ensures.asks told) (inl refl) in
    let file = g.D.Disk.opened c.in_ok-file.file in
    let is = c.in_ok-file.ensures.file told in
    let filled = added_call may _ _ _ c.fill.result (Fill file c.args.bytes.now) made (c.fill.ensures told)
    (inr (inr (file, ap (λ (f : Opened). f.name) is, inl (refl, received_empty path file _ _ (c.in_ok-file.ensures.asks told) is)))) in
    let synced = added_call may _ _ _ c.sync.result (Sync file) filled (c.sync.ensures told) (inr (inr (file, ap (λ (f : Opened). f.name) is, inr refl))) in
    added_twice may _ _ _ synced (sync_added may path _ _ (inr (inl refl)) (rw (c.in_ok-folder.ensures told) at (c.sync_names.ensures.asks told)))

pub returns-clause-on_disk : goal.returns-clause-on_disk
returns-clause-on_disk g c = λ told.
    let path = c.args.path.now in
    let file = g.D.Disk.opened c.in_ok-file.file in
    ok_turn _ _ c.sync_names.result
    (received_on_disk path c.args.bytes.now _ _ (received_whole path c.args.bytes.now file _ _ _ _ (c.in_ok-file.ensures.asks told) (c.in_ok-file.ensures.file told) (c.in_ok-fill.ensures told) (c.in_ok-sync.ensures told))
    (rw (c.in_ok-folder.ensures told) at (c.sync_names.ensures.asks told)))
    (rw (c.in_ok-folder.ensures told) at (c.sync_names.ensures.synced told))
