use Rattle.std.proofs.Common.{inl, inr, refl}
use Rattle.rje_store.specs.Disk.{GoOn, Sync, WriteAt}
use Rattle.rje_store.specs.Inside.Filling.{MayFill}
use Rattle.rje_store.proofs.Replacing.{added_call, added_none}
use Rattle.rje_store.proofs.Turning.{turns_done}
use Rattle.rje_store.proofs.file_store.growing.gone_on.Goals as goal

pub returns-in_err-go_on-clause-asks : goal.returns-in_err-go_on-clause-asks
returns-in_err-go_on-clause-asks g c =
    let file = g.D.Disk.opened c.args.older.now.file in
    let from = g.D.Disk.opened c.args.newest.now in
    λ told. added_call (MayFill file) _ _ _ c.go_on.result (GoOn file from c.args.older.now.len c.args.tail.now) (added_none (MayFill file) _) (c.go_on.ensures told) (inr (inr (inr (inl (from, c.args.older.now.len, c.args.tail.now, refl)))))

pub returns-in_err-write_at-clause-asks : goal.returns-in_err-write_at-clause-asks
returns-in_err-write_at-clause-asks g c =
    let file = g.D.Disk.opened c.args.older.now.file in
    let from = g.D.Disk.opened c.args.newest.now in
    λ told. added_call (MayFill file) _ _ _ c.write_at.result (WriteAt file 0 c.args.front.now)
    (added_call (MayFill file) _ _ _ c.go_on.result (GoOn file from c.args.older.now.len c.args.tail.now) (added_none (MayFill file) _) (c.go_on.ensures told) (inr (inr (inr (inl (from, c.args.older.now.len, c.args.tail.now, refl))))))
    (c.write_at.ensures told) (inr (inr (inr (inr (0, c.args.front.now, refl)))))

pub returns-clause-asks : goal.returns-clause-asks
returns-clause-asks g c =
    let file = g.D.Disk.opened c.args.older.now.file in
    let from = g.D.Disk.opened c.args.newest.now in
    λ told. added_call (MayFill file) _ _ _ c.sync.result (Sync file)
    (added_call (MayFill file) _ _ _ c.write_at.result (WriteAt file 0 c.args.front.now)
    (added_call (MayFill file) _ _ _ c.go_on.result (GoOn file from c.args.older.now.len c.args.tail.now) (added_none (MayFill file) _) (c.go_on.ensures told) (inr (inr (inr (inl (from, c.args.older.now.len, c.args.tail.now, refl))))))
    (c.write_at.ensures told) (inr (inr (inr (inr (0, c.args.front.now, refl))))))
    (c.sync.ensures told) (inr (inr (inl refl)))

pub returns-clause-turns : goal.returns-clause-turns
returns-clause-turns g c =
    let file = g.D.Disk.opened c.args.older.now.file in
    let from = g.D.Disk.opened c.args.newest.now in
    λ told len. turns_done c.sync.result file from c.args.older.now.len c.args.front.now c.args.tail.now _ _ _ _ len (c.in_ok-go_on.ensures told) (c.in_ok-write_at.ensures told) (c.sync.ensures told)
