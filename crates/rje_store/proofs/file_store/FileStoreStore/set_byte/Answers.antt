use Rattle.rje_store.specs.FileStore.{MaySet, MaySettle, copy_of}
use Rattle.rje_store.proofs.Replacing.{added_either, added_none}
use Rattle.rje_store.proofs.Marking.{settled_and_set}
use Rattle.rje_store.proofs.file_store.FileStoreStore.set_byte.Goals as goal

pub returns-in_err-stays_locked-clause-asks : goal.returns-in_err-stays_locked-clause-asks
returns-in_err-stays_locked-clause-asks g c = λ told. let set = MaySet g.D.Disk.leads c.args.name.now c.args.place c.args.byte in
    added_either (MaySettle (copy_of c.args.self.now.growing)) set _ _ _ (c.settle.ensures.asks told) (added_none set (g.D.Disk.asked c.settle.new.self.disk))

pub returns-in_err-set_byte-clause-asks : goal.returns-in_err-set_byte-clause-asks
returns-in_err-set_byte-clause-asks g c = λ told. added_either (MaySettle (copy_of c.args.self.now.growing)) (MaySet g.D.Disk.leads c.args.name.now c.args.place c.args.byte) _ _ _ (c.settle.ensures.asks told) (c.set_byte.ensures.asks told)

pub returns-clause-asks : goal.returns-clause-asks
returns-clause-asks g c = λ told. added_either (MaySettle (copy_of c.args.self.now.growing)) (MaySet g.D.Disk.leads c.args.name.now c.args.place c.args.byte) _ _ _ (c.settle.ensures.asks told) (c.set_byte.ensures.asks told)

pub returns-clause-on_disk : goal.returns-clause-on_disk
returns-clause-on_disk g c = λ told. settled_and_set (copy_of c.args.self.now.growing) g.D.Disk.leads c.args.name.now c.args.place c.args.byte _ _ _ (c.settle.ensures.asks told) (c.in_ok-set_byte.ensures.sets told)
