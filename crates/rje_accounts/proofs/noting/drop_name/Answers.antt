use Rattle.std.proofs.Common.{◌≢◌, ◌≡◌, inl, inr, refl, rules, ◌∙◌}
use Rattle.rje_store.specs.Disk.{Remove, came_to}
use Rattle.rje_store.proofs.Replacing.{call_came}
use Rattle.rje_accounts.specs.Paths.{settle_path}
use Rattle.std.specs.Prelude.{string_bytes}
use Rattle.rje_accounts.proofs.noting.drop_name.Goals as goal

pub returns : goal.returns
returns g c = λ told.
    let own = settle_path c.args.station.now c.args.name in
    let differ : c.args.kept.now ≢ own = search rules in
    inr (differ, (came_to c.remove.result (Remove own), rw (c.as_str-2.ensures.value ∙ c.in_ok-path.ensures) at (c.remove.ensures told), call_came c.remove.result (Remove own)))
