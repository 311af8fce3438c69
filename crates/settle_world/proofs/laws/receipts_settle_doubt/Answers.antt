use Rattle.std.proofs.Common.{◌∷◌}
use Rattle.settle_world.specs.Connections.{settled_in}
use Rattle.settle_world.proofs.Doubt.{settles_doubt}
use Rattle.settle_world.proofs.Kept.{AreLaws}
use Rattle.settle_world.proofs.Once.{brings_each_once}
use Rattle.settle_world.proofs.laws.receipts_settle_doubt.Goals as goal

pub returns : goal.returns
returns c =
    let laws : AreLaws = record {
      none = c.receipts_count_what_is_kept.ensures.none;
      more = c.receipts_count_what_is_kept.ensures.one_more;
      tells = c.receipts_tell_what_came.ensures;
    } in
    record {
      doubt = settles_doubt laws;
      once = brings_each_once;
      kept_once = λ put_out m past r came day may turn what.
          (settled_in (m ∷ past), brings_each_once put_out (m ∷ past) turn, (settles_doubt laws put_out m past r came day may turn what).kept);
    }
