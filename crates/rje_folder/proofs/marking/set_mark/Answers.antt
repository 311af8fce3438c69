-- Of a mark: what is asked at each way out, that the byte and no other is changed and on disk, and which file it is then.
-- All ways out before the write ask for nothing; after it one call is added. The byte is followed by `length_of_opened` and its neighbours.
use Rattle.std.proofs.Common.{◌≡◌, ◌<◌, ◌∷◌, [], List, Ok, true, length, inr, refl, ap, arith, rules, ◌∙◌}
use Rattle.rje_store.specs.Disk.{Asked, Opened, Done, SyncBytes, WriteAt}
use Rattle.rje_store.proofs.Replacing.{added_call}
use Rattle.rje_folder.specs.Marking.{MayMark}
use Rattle.rje_folder.proofs.Marked.{length_of_opened, marked_done, opened_may, written_may}
use Rattle.rje_folder.proofs.marking.set_mark.Goals as goal

pub returns-in_err-opened-clause-asks : goal.returns-in_err-opened-clause-asks
returns-in_err-opened-clause-asks g c = λ told. opened_may c.open_to_write.result c.args.path.now c.args.place c.args.mark _ _ (c.open_to_write.ensures.asks told)

pub returns-in_err-same-clause-asks : goal.returns-in_err-same-clause-asks
returns-in_err-same-clause-asks g c = λ told. opened_may c.open_to_write.result c.args.path.now c.args.place c.args.mark _ _ (c.open_to_write.ensures.asks told)

pub returns-then-not-same-clause-asks : goal.returns-then-not-same-clause-asks
returns-then-not-same-clause-asks g c = λ told. opened_may c.open_to_write.result c.args.path.now c.args.place c.args.mark _ _ (c.open_to_write.ensures.asks told)

pub returns-in_err-found-clause-asks : goal.returns-in_err-found-clause-asks
returns-in_err-found-clause-asks g c = λ told. opened_may c.open_to_write.result c.args.path.now c.args.place c.args.mark _ _ (c.open_to_write.ensures.asks told)

pub returns-then-found-place-clause-asks : goal.returns-then-found-place-clause-asks
returns-then-found-place-clause-asks g c = λ told. opened_may c.open_to_write.result c.args.path.now c.args.place c.args.mark _ _ (c.open_to_write.ensures.asks told)

pub returns-in_err-write_at-clause-asks : goal.returns-in_err-write_at-clause-asks
returns-in_err-write_at-clause-asks g c = λ told.
    written_may c.open_to_write.result c.write_at.result c.args.path.now (g.D.Disk.opened c.in_ok-opened.opened) c.args.place c.args.mark _ _ _ (c.open_to_write.ensures.asks told)
    (ap (λ (f : Opened). f.name) (c.in_ok-opened.ensures.file told)) (c.write_at.ensures told)

pub returns-in_err-sync_bytes-clause-asks : goal.returns-in_err-sync_bytes-clause-asks
returns-in_err-sync_bytes-clause-asks g c = λ told.
    let file = g.D.Disk.opened c.in_ok-opened.opened in
    let is = ap (λ (f : Opened). f.name) (c.in_ok-opened.ensures.file told) in
    added_call (MayMark c.args.path.now c.args.place c.args.mark) _ _ _ c.sync_bytes.result (SyncBytes file)
    (written_may c.open_to_write.result c.write_at.result c.args.path.now file c.args.place c.args.mark _ _ _ (c.open_to_write.ensures.asks told) is (c.write_at.ensures told))
    (c.sync_bytes.ensures told) (inr (file, is, inr refl))

pub returns-in_err-marked-clause-asks : goal.returns-in_err-marked-clause-asks
returns-in_err-marked-clause-asks g c = λ told.
    written_may c.open_to_write.result c.write_at.result c.args.path.now (g.D.Disk.opened c.in_ok-opened.opened) c.args.place c.args.mark _ _ _ (c.open_to_write.ensures.asks told)
    (ap (λ (f : Opened). f.name) (c.in_ok-opened.ensures.file told)) (c.write_at.ensures told)

pub returns-in_err-is_open_as-clause-asks : goal.returns-in_err-is_open_as-clause-asks
returns-in_err-is_open_as-clause-asks g c = λ told.
    let file = g.D.Disk.opened c.in_ok-opened.opened in
    let is = ap (λ (f : Opened). f.name) (c.in_ok-opened.ensures.file told) in
    added_call (MayMark c.args.path.now c.args.place c.args.mark) _ _ _ c.sync_bytes.result (SyncBytes file)
    (written_may c.open_to_write.result c.write_at.result c.args.path.now file c.args.place c.args.mark _ _ _ (c.open_to_write.ensures.asks told) is (c.write_at.ensures told))
    (c.sync_bytes.ensures told) (inr (file, is, inr refl))

pub returns-then-branch-clause-asks : goal.returns-then-branch-clause-asks
returns-then-branch-clause-asks g c = λ told.
    let file = g.D.Disk.opened c.in_ok-opened.opened in
    let is = ap (λ (f : Opened). f.name) (c.in_ok-opened.ensures.file told) in
    added_call (MayMark c.args.path.now c.args.place c.args.mark) _ _ _ c.sync_bytes.result (SyncBytes file)
    (written_may c.open_to_write.result c.write_at.result c.args.path.now file c.args.place c.args.mark _ _ _ (c.open_to_write.ensures.asks told) is (c.write_at.ensures told))
    (c.sync_bytes.ensures told) (inr (file, is, inr refl))

pub returns-clause-asks : goal.returns-clause-asks
returns-clause-asks g c = λ told.
    let file = g.D.Disk.opened c.in_ok-opened.opened in
    let is = ap (λ (f : Opened). f.name) (c.in_ok-opened.ensures.file told) in
    added_call (MayMark c.args.path.now c.args.place c.args.mark) _ _ _ c.sync_bytes.result (SyncBytes file)
    (written_may c.open_to_write.result c.write_at.result c.args.path.now file c.args.place c.args.mark _ _ _ (c.open_to_write.ensures.asks told) is (c.write_at.ensures told))
    (c.sync_bytes.ensures told) (inr (file, is, inr refl))

pub returns-then-branch-clause-marked : goal.returns-then-branch-clause-marked
returns-then-branch-clause-marked g c = λ told.
    let file = g.D.Disk.opened c.in_ok-opened.opened in
    let opened = c.in_ok-opened.ensures.asks told in
    let is = c.in_ok-opened.ensures.file told in
    let len : c.in_ok-found.found.len ≡ length opened.0 = length_of_opened c.args.path.now file.number c.in_ok-found.found.len opened.0 _ _ opened.1 (ap (λ (f : Opened). f.number) is) (c.in_ok-found.ensures told) in
    let within : c.args.place < length opened.0 = omega (arith, len) in
    marked_done (Ok (tt {0})) c.args.path.now file c.args.place c.args.mark opened.0 _ _ _ _ opened.1 opened.2 is within (c.in_ok-write_at.ensures told) (c.in_ok-sync_bytes.ensures told)

pub returns-then-branch-clause-same : goal.returns-then-branch-clause-same
returns-then-branch-clause-same g c = λ told.
    let file = g.D.Disk.opened c.in_ok-opened.opened in
    let is : c.in_ok-same.same ≡ true = search rules in
    let said : g.D.FolderDisk.is_open (g.D.Disk.asked c.open_to_write.new.self) c.in_ok-opened.opened c.args.file = c.in_ok-same.ensures is in (
      g.D.Disk.asked c.open_to_write.new.self,
      Done (SyncBytes file) ∷ Done (WriteAt file c.args.place (c.args.mark ∷ [])) ∷ [],
      c.in_ok-sync_bytes.ensures told ∙ ap (λ (l : List Asked). Done (SyncBytes file) ∷ l) (c.in_ok-write_at.ensures told),
      (c.in_ok-opened.opened, ap (λ (f : Opened). f.name) (c.in_ok-opened.ensures.file told), said),
    )
