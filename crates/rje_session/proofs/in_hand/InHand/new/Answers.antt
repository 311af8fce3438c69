use Rattle.std.proofs.Common.{sym, subst}
use Rattle.rje_station.specs.Station.{Contending}
use Rattle.rje_session.specs.Keeping.{AreKept}
use Rattle.rje_session.specs.Outstanding.{BeginsAt}
use Rattle.rje_session.proofs.Places.{begins_first}
use Rattle.rje_session.proofs.in_hand.InHand.new.Goals as goal

pub invariant_of-result : goal.invariant_of-result
invariant_of-result c =
    let is = c.in_ok-station.ensures.ready in record {
      begins = subst (λ (x : Contending). BeginsAt x.sender 0) (sym is) (begins_first c.args.jobs.now);
      kept = λ _. subst (λ (x : Contending). AreKept 0 x.receiver.jobs) (sym is) tt;
    }
