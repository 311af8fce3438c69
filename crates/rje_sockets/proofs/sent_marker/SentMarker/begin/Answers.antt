use Rattle.std.proofs.lemmas.Result.{on_ok_weaker}
use Rattle.rje_sockets.proofs.Sending.{marked_after}
use Rattle.rje_sockets.proofs.sent_marker.SentMarker.begin.Goals as goal

pub returns-in-Growing-clause-begun : goal.returns-in-Growing-clause-begun
returns-in-Growing-clause-begun g c =
    on_ok_weaker c.write.result
    (marked_after c.args.self.now.file.items c.args.self.now.name.now 0 (g.S.Store.files c.args.store.now) (g.S.Store.files c.look_at_file.new.store)
    (g.S.Store.files c.write.new.store) c.look_at_file.ensures.same) c.write.ensures.marked
