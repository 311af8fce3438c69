use Rattle.std.proofs.Common.{subst, sym}
use Rattle.rje_store.specs.Replacing.{Adds, Either}
use Rattle.rje_store.specs.FileStore.{MayPut, MaySettle, copy_of}
use Rattle.rje_store.proofs.Replacing.{added_either}
use Rattle.rje_store.proofs.file_store.FileStoreStore.write.Goals as goal

pub returns-in_err-file-clause-asks : goal.returns-in_err-file-clause-asks
returns-in_err-file-clause-asks g c = λ told. added_either (MaySettle (copy_of c.args.self.now.growing)) (MayPut g.D.Disk.leads c.args.name.now c.args.bytes.now) _ _ _ (c.settle.ensures.asks told) (c.put.ensures.asks told)

pub returns-clause-asks : goal.returns-clause-asks
returns-clause-asks g c =
    let may = Either (MaySettle (copy_of c.args.self.now.growing)) (MayPut g.D.Disk.leads c.args.name.now c.args.bytes.now) in
    λ told. subst (λ disk. Adds may (g.D.Disk.asked c.args.self.now.disk) (g.D.Disk.asked disk)) (sym c.follow.ensures.disk)
    (added_either (MaySettle (copy_of c.args.self.now.growing)) (MayPut g.D.Disk.leads c.args.name.now c.args.bytes.now) _ _ _ (c.settle.ensures.asks told) (c.put.ensures.asks told))
