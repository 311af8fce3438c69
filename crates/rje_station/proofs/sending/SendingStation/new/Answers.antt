use Rattle.std.proofs.Common.{rules, ◌≡◌, ◌<◌, [], length, arith}
use Rattle.std.proofs.lemmas.Bool.Decides.{nat_tests}
use Rattle.rje_jobs.specs.Blocks.{blocks}
use Rattle.rje_station.proofs.Uncounted.{blocks_some}
use Rattle.rje_station.proofs.sending.SendingStation.new.Goals as goal

pub invariant_of-result : goal.invariant_of-result
invariant_of-result c = record {
  ready = λ o n.
      let some : 0 < length c.args.jobs.now = grind (arith, nat_tests) in
      let none : blocks c.args.jobs.now ≡ [] = search rules in
      absurd (blocks_some c.args.jobs.now some none);
  live = λ o. search rules;
}
