use Rattle.std.proofs.Common.{◌≡◌, ◌++◌, map, take, drop}
use Rattle.rje_text.specs.Packed.{moved}
use Rattle.rje_text.proofs.packed_records.move_extents.Given as goal

abbrev pub invariant-loop-extent : goal.invariant-loop-extent
invariant-loop-extent l = l.extents ≡ map (moved l.more) (take l.extent-index l.fn.extents) ++ drop l.extent-index l.fn.extents
