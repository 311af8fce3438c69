-- Nothing comes in answer.
use Rattle.std.proofs.Common.{rules, ◌≡◌, ◌≢◌, [], refl}
use Rattle.std.specs.List.{flat_map}
use Rattle.bsc_link.specs.declared.say.Say.{Say}
use Rattle.rje_station.specs.Station.{due_at}
use Rattle.pair_world.proofs.PairCarried.{hears_nothing, nothing_came}
use Rattle.pair_world.proofs.pair_end.PairEnd.speak_in_vain.Goals as goal

pub returns-in_default : goal.returns-in_default
returns-in_default c =
    let nothing : flat_map (λ p. p) c.put.new.self.waiting ≡ [] = rw (c.put.ensures, c.new.ensures.items) refl in
    let more : due_at c.args.self.now.station ≢ Say.End = search rules in
    record {
      vain = record {
        said = search rules;
        arrived = refl;
        refused = refl;
        reply = refl;
        hears = hears_nothing _ _ _ _ _ more (search rules) (nothing_came c.put.new.self c.hear_answer-heard.new.self.line _ nothing c.hear_answer-heard.ensures.heard);
      };
    }
