use Rattle.std.specs.Vec.{vec_len}
use Rattle.std.proofs.lemmas.List.{length-map}
use Rattle.rje_text.specs.Packed.{moved, records_of_extents}
use Rattle.std.proofs.Common.{rules, length, map, ◌≡◌, ◌++◌, ◌∙◌, ap}
use Rattle.rje_text.proofs.PackedRecords.{kept, appended, appended_within, after_error, written_back}
use Rattle.rje_text.proofs.packed_records.PackedRecords.append.Goals as goal

pub returns-in_err-append-clause-err : goal.returns-in_err-append-clause-err
returns-in_err-append-clause-err c =
    rw (c.in_err-append.ensures.items, c.in_ok-extend_from_slice.ensures.items) (after_error _ (kept _ _ _ c.self.invariant ∙ c.self.view_is))

pub invariant_of-self-2 : goal.invariant_of-self-2
invariant_of-self-2 c =
    let start : vec_len c.self.inside.bytes ≡ length c.self.inside.bytes.items = search rules in
    let many : vec_len c.others.inside.extents ≡ length c.others.inside.extents.items = search rules in
    let es = c.others.inside.extents.items in
    let back = written_back (vec_len c.others.inside.extents) es (map (moved (length c.self.inside.bytes.items)) es) many (length-map es (moved (length c.self.inside.bytes.items))) in
    rw (c.in_ok-append.ensures.items, c.in_ok-extend_from_slice.ensures.items, c.as_mut_slice.ensures.writes_back, c.move_extents.ensures, c.as_mut_slice.ensures.value, c.as_slice.ensures.value, c.len-before.ensures, start, back)
    (appended_within c.self.inside.bytes.items c.others.inside.bytes.items c.self.inside.extents.items c.others.inside.extents.items c.self.invariant c.others.invariant)

pub returns-clause-ok : goal.returns-clause-ok
returns-clause-ok c =
    let start : vec_len c.self.inside.bytes ≡ length c.self.inside.bytes.items = search rules in
    let many : vec_len c.others.inside.extents ≡ length c.others.inside.extents.items = search rules in
    let es = c.others.inside.extents.items in
    let back = written_back (vec_len c.others.inside.extents) es (map (moved (length c.self.inside.bytes.items)) es) many (length-map es (moved (length c.self.inside.bytes.items))) in
    rw (c.in_ok-append.ensures.items, c.in_ok-extend_from_slice.ensures.items, c.as_mut_slice.ensures.writes_back, c.move_extents.ensures, c.as_mut_slice.ensures.value, c.as_slice.ensures.value, c.len-before.ensures, start, back)
    (appended c.self.inside.bytes.items c.others.inside.bytes.items c.self.inside.extents.items c.others.inside.extents.items c.self.invariant ∙ ap (λ rs. rs ++ records_of_extents c.others.inside.bytes.items es) c.self.view_is ∙ ap (λ rs. c.args.self.now ++ rs) c.others.view_is)
