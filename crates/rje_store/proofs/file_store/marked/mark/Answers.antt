use Rattle.std.proofs.Common.{◌<◌, arith}
use Rattle.rje_store.proofs.Marking.{set_done, stays_marked, synced_may, written_may}
use Rattle.rje_store.proofs.file_store.marked.mark.Goals as goal

pub returns-in_err-write_at-clause-asks : goal.returns-in_err-write_at-clause-asks
returns-in_err-write_at-clause-asks g c = λ told. written_may c.write_at.result (g.D.Disk.opened c.args.file.now.file) c.args.place c.args.byte _ _ (c.write_at.ensures told)

pub returns-clause-asks : goal.returns-clause-asks
returns-clause-asks g c = λ told.
    let file = g.D.Disk.opened c.args.file.now.file in
    synced_may c.sync_bytes.result file c.args.place c.args.byte _ _ _ (written_may c.write_at.result file c.args.place c.args.byte _ _ (c.write_at.ensures told)) (c.sync_bytes.ensures told)

pub returns-clause-sets : goal.returns-clause-sets
returns-clause-sets g c = λ told m.
    let room : c.args.place < c.args.file.now.len = omega arith in
    set_done c.sync_bytes.result g.D.Disk.leads g.D.Disk.opened c.args.file.now c.args.place c.args.byte _ _ _ m room (c.in_ok-write_at.ensures told) (c.sync_bytes.ensures told) (returns-clause-asks g c told)

pub returns-clause-marked : goal.returns-clause-marked
returns-clause-marked g c = λ told m.
    let room : c.args.place < c.args.file.now.len = omega arith in
    stays_marked c.sync_bytes.result g.D.Disk.leads g.D.Disk.opened c.args.file.now c.args.place c.args.byte _ _ _ m room (c.in_ok-write_at.ensures told) (c.sync_bytes.ensures told)
