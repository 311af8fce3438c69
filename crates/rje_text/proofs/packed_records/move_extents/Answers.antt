use Rattle.std.proofs.Common.{◌<◌, length, get_or, arith}
use Rattle.std.proofs.lemmas.List.{get_or_default}
use Rattle.std.proofs.lemmas.List.Edits.{map_over_more}
use Rattle.rje_text.specs.declared.action.Action.TheVariants.{Plain}
use Rattle.rje_text.specs.declared.extent.Extent.{Extent}
use Rattle.rje_text.specs.Packed.{moved}
use Rattle.rje_text.proofs.packed_records.move_extents.Goals as goal

pub loop-extent-preserved : goal.loop-extent-preserved
loop-extent-preserved c =
    let none : Extent = record { start = 0; length = 0; action = Plain } in
    let now = c.loop-extent.extents in
    let i = c.loop-extent.extent-index in
    let within : i < length now = omega arith in
    map_over_more (moved c.args.more) c.args.extents.now now i (get_or now i none) (omega arith) c.loop-extent.invariant (get_or_default now i none (get_or now i none) within)
