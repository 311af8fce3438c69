use Rattle.rje_sockets.proofs.Marked.{gives_up, marks_more}
use Rattle.rje_sockets.proofs.sent_marker.SentMarker.mark.Goals as goal

pub returns-in-Err-clause-marked : goal.returns-in-Err-clause-marked
returns-in-Err-clause-marked g c = λ before.
    gives_up c.args.self.now before c.args.counted (g.S.Store.files c.args.store.now) (g.S.Store.files c.put.new.store) c.in-Err.ensures.same

pub returns-in-Ok-clause-marked : goal.returns-in-Ok-clause-marked
returns-in-Ok-clause-marked g c = λ before.
    marks_more c.args.self.now before c.args.counted (g.S.Store.files c.args.store.now) (g.S.Store.files c.put.new.store) c.in-Ok.ensures.marked
