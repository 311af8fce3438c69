use Rattle.rje_sockets.proofs.Marked.{next_marked, whole_marked}
use Rattle.rje_sockets.proofs.sent_marker.SentMarker.put.Goals as goal

pub returns-in-Some-clause-marked : goal.returns-in-Some-clause-marked
returns-in-Some-clause-marked g c =
    let marker = c.args.self.now in
    let place = c.in-Some.ensures in
    next_marked c.set_byte_of_file.result marker.file.items marker.places.items marker.name.now marker.marked c.args.counted c.in-Some.place
    (g.S.Store.files c.args.store.now) (g.S.Store.files c.set_byte_of_file.new.store) place.place place.one c.set_byte_of_file.ensures.sets

pub returns-in-None-clause-marked : goal.returns-in-None-clause-marked
returns-in-None-clause-marked g c =
    let marker = c.args.self.now in
    whole_marked c.write.result marker.file.items marker.places.items marker.name.now marker.marked c.args.counted
    (g.S.Store.files c.args.store.now) (g.S.Store.files c.write.new.store) c.write.ensures.marked
