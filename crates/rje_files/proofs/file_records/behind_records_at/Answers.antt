use Rattle.std.proofs.Common.{◌≡◌, ◌+◌, ◌-◌, ◌∙◌, suc, sym, arith}
use Rattle.rje_files.proofs.Stored.{others_here, one_passed}
use Rattle.rje_files.proofs.file_records.behind_records_at.Goals as goal

pub loop-i-preserved : goal.loop-i-preserved
loop-i-preserved c =
    let e : c.args.count - c.loop-i._i ≡ suc (c.args.count - (c.loop-i._i + 1)) = omega (arith, c.loop-i-test.true) in
    rw c.behind_record_at-rest.ensures (record {
      here = others_here _ _ c.loop-i.rest.now e c.loop-i.invariant.here;
      behind = sym (one_passed _ _ c.loop-i.rest.now e) ∙ c.loop-i.invariant.behind;
    })
