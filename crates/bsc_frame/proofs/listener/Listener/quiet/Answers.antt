use Rattle.std.proofs.Common.{sym, ap, ◌∙◌, subst}
use Rattle.bsc_frame.specs.Heard.{IsHeard}
use Rattle.bsc_frame.specs.Inside.Listening.HeardSoFar.{heard_at}
use Rattle.bsc_frame.proofs.Feeding.{feed_quiet}
use Rattle.bsc_frame.proofs.listener.Listener.quiet.Goals as goal

pub returns-clause-heard : goal.returns-clause-heard
returns-clause-heard c = λ bytes h.
    subst (IsHeard bytes) (ap heard_at (sym c.self.view_is) ∙ sym (c.heard_in-heard.ensures.heard c.self.inside.text.items)) (feed_quiet c.args.self.now bytes h)
