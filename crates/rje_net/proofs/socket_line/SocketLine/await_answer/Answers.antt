use Rattle.std.proofs.Common.{refl, [], sym, ◌∙◌, true≢false}
use Rattle.rje_net.proofs.Hearing.{none_consumed}
use Rattle.rje_net.proofs.socket_line.SocketLine.await_answer.Goals as goal

pub returns-else-awaits_answer-clause-read : goal.returns-else-awaits_answer-clause-read
returns-else-awaits_answer-clause-read g c =
    let no = sym c.awaits_answer.ensures ∙ c.if-awaits_answer.false in
    ([], (none_consumed (g.S.Read.remaining c.args.self.now.stream), tt), (λ yes. absurd (true≢false (sym yes ∙ no)), λ _. (refl, refl)))
