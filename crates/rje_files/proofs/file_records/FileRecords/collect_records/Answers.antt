use Rattle.std.proofs.Common.{◌≡◌, ◌+◌, ◌-◌, suc, arith}
use Rattle.rje_files.proofs.Stored.{first_here, others_here, collected_more}
use Rattle.rje_files.proofs.file_records.FileRecords.collect_records.Goals as goal

pub parts_at-action-requires : goal.parts_at-action-requires
parts_at-action-requires c =
    let e : c.self.inside.left - c.loop-i._i ≡ suc (c.self.inside.left - (c.loop-i._i + 1)) = omega (arith, c.loop-i-test.true) in
    first_here _ _ c.loop-i.rest.now e c.loop-i.invariant.here

pub behind_record_at-rest-requires : goal.behind_record_at-rest-requires
behind_record_at-rest-requires c =
    let e : c.self.inside.left - c.loop-i._i ≡ suc (c.self.inside.left - (c.loop-i._i + 1)) = omega (arith, c.loop-i-test.true) in
    first_here _ _ c.loop-i.rest.now e c.loop-i.invariant.here

pub loop-i-preserved : goal.loop-i-preserved
loop-i-preserved c =
    let e : c.self.inside.left - c.loop-i._i ≡ suc (c.self.inside.left - (c.loop-i._i + 1)) = omega (arith, c.loop-i-test.true) in
    rw c.behind_record_at-rest.ensures (record {
      here = others_here _ _ c.loop-i.rest.now e c.loop-i.invariant.here;
      read = rw (c.in_ok-push_data.ensures.ok, c.parts_at-action.ensures.action, c.parts_at-action.ensures.items) (collected_more _ _ c.loop-i.rest.now c.loop-i.records c.args.self e c.loop-i.invariant.read);
    })
