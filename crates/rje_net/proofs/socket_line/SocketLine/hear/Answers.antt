use Rattle.std.proofs.Common.{◌++◌}
use Rattle.rje_net.specs.Hearing.{keeps}
use Rattle.rje_net.proofs.Hearing.{brings_all, hears_all}
use Rattle.rje_net.proofs.socket_line.SocketLine.hear.Goals as goal

pub returns-clause-read : goal.returns-clause-read
returns-clause-read g c =
    let one = c.in_ok-await_answer.ensures.read in
    let two = c.hand_on.ensures.read in
    let l = c.args.self.now in
    let mid = c.await_answer.new.self in
    let n = c.hand_on.new.self in (
      two.0 ++ one.0,
      (brings_all (g.S.Read.remaining l.stream) (g.S.Read.remaining mid.stream) (g.S.Read.remaining n.stream) one.0 two.0 one.1.0 two.1.0, two.1.1),
      hears_all (keeps l.answers l.handover l.babbles) (keeps mid.answers mid.handover mid.babbles) (keeps n.answers n.handover n.babbles) one.0 two.0 c.hand_on.result c.hand_on.new.piece one.2 two.2,
    )
