use Rattle.std.proofs.Common.{rules, ◌≡◌, refl, is_some}
use Rattle.bsc_link.specs.Receiver.{receiver_news}
use Rattle.rje_station.specs.Receiving.{sound_taken, jobs_after}
use Rattle.rje_station.proofs.Joining.{jobs_same}
use Rattle.rje_station.proofs.receiving.ReceivingStation.step.Goals as goal

pub returns : goal.returns
returns c =
    let a = c.self.inside in
    let h = c.args.heard.now in
    let refused = is_some c.join_heard-refusal.result in
    let same = jobs_same h refused a.core c.args.wish a.jobs in
    let joined : c.join_heard-refusal.new.jobs ≡ jobs_after h (receiver_news a.core (sound_taken h refused) c.args.wish).accepted a.jobs = search rules in
    record {
      what = h;
      refused = refused;
      told = refl;
      may = search rules;
      state = search rules;
      reply_is = search rules;
    }
