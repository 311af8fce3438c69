use Rattle.std.specs.Vec.{vec_len}
use Rattle.std.proofs.Common.{rules, length, ◌≡◌, ◌++◌, ◌∷◌, [], ◌∙◌, ap}
use Rattle.rje_text.specs.Records.{record_of_data}
use Rattle.rje_text.proofs.PackedRecords.{kept, pushed, after_error}
use Rattle.rje_text.proofs.packed_records.PackedRecords.push_data.Goals as goal

pub returns-in_err-push-clause-err : goal.returns-in_err-push-clause-err
returns-in_err-push-clause-err c =
    rw (c.in_err-push.ensures.items, c.in_ok-extend_from_slice.ensures.items) (after_error _ (kept _ _ _ c.self.invariant ∙ c.self.view_is))

pub returns-clause-ok : goal.returns-clause-ok
returns-clause-ok c =
    let start : vec_len c.self.inside.bytes ≡ length c.self.inside.bytes.items = search rules in
    rw (c.in_ok-extend_from_slice.ensures.items, c.in_ok-push.ensures.items, c.len.ensures, start)
    (pushed c.self.inside.bytes.items c.args.items.now c.self.inside.extents.items c.args.action c.self.invariant ∙ ap (λ rs. rs ++ record_of_data c.args.action c.args.items.now ∷ []) c.self.view_is)
