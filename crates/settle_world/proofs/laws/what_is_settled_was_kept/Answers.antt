use Rattle.settle_world.proofs.Kept.{AreLaws, knows_what_was_kept, settles_what_was_kept}
use Rattle.settle_world.proofs.laws.what_is_settled_was_kept.Goals as goal

pub returns : goal.returns
returns c =
    let laws : AreLaws = record {
      none = c.receipts_count_what_is_kept.ensures.none;
      more = c.receipts_count_what_is_kept.ensures.one_more;
      tells = c.receipts_tell_what_came.ensures;
    } in
    record { settled = settles_what_was_kept laws; known = knows_what_was_kept laws }
