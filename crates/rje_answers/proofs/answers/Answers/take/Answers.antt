use Rattle.std.proofs.Common.{refl, inr}
use Rattle.bsc_frame.specs.Listener.{HasTaken}
use Rattle.rje_answers.proofs.answers.Answers.take.Goals as goal

pub returns-in-None-clause-takes : goal.returns-in-None-clause-takes
returns-in-None-clause-takes c = λ before has.
    let taken : HasTaken c.self.inside.listener before = rw (← c.self.view_is) at has in
    inr record {
      none = (rw c.in-None.is at c.feed-used.ensures.none) before taken;
      all = rw c.in-None.is at c.feed-used.ensures.whole;
      given = refl;
      kept = rw (← c.self.view_is) refl;
      listens = (rw c.in-None.is at c.feed-used.ensures.on) before taken;
    }
