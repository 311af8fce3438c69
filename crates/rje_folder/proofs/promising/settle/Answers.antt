use Rattle.std.proofs.Common.{subst, sym}
use Rattle.rje_store.specs.Replacing.{Adds}
use Rattle.rje_folder.specs.Promising.{MaySettle}
use Rattle.rje_folder.proofs.promising.settle.Goals as goal

pub returns-in-Sent-clause-asks : goal.returns-in-Sent-clause-asks
returns-in-Sent-clause-asks g c = λ told. subst (λ d. Adds (MaySettle g.D.FolderDisk.are_one c.args.station.now c.args.name.now c.args.doubt.now d) (g.D.Disk.asked c.args.disk.now) (g.D.Disk.asked c.put_in_sent.new.disk)) (sym c.in-Sent.is) (c.put_in_sent.ensures.asks told)

pub returns-in-InDoubt-clause-asks : goal.returns-in-InDoubt-clause-asks
returns-in-InDoubt-clause-asks g c = λ told. subst (λ d. Adds (MaySettle g.D.FolderDisk.are_one c.args.station.now c.args.name.now c.args.doubt.now d) (g.D.Disk.asked c.args.disk.now) (g.D.Disk.asked c.leave_in_doubt.new.disk)) (sym c.in-InDoubt.is) (c.leave_in_doubt.ensures.asks told)

pub returns-in-Ready-clause-asks : goal.returns-in-Ready-clause-asks
returns-in-Ready-clause-asks g c = λ told. subst (λ d. Adds (MaySettle g.D.FolderDisk.are_one c.args.station.now c.args.name.now c.args.doubt.now d) (g.D.Disk.asked c.args.disk.now) (g.D.Disk.asked c.take_back.new.disk)) (sym c.in-Ready.is) (c.take_back.ensures.asks told)
