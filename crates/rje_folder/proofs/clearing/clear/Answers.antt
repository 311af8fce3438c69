use Rattle.std.proofs.Common.{◌≡◌, ◌∙◌, true, rules}
use Rattle.rje_store.proofs.Replacing.{added_twice}
use Rattle.rje_folder.specs.Folder.{has_hidden_names}
use Rattle.rje_folder.specs.Promising.{MayClear}
use Rattle.rje_folder.proofs.clearing.clear.Goals as goal

pub returns-in_err-clear_one : goal.returns-in_err-clear_one
returns-in_err-clear_one g c = λ told.
    let new : has_hidden_names c.args.folder ≡ true = search rules in
    added_twice (MayClear c.args.station.now) _ _ _ (c.loop-name.invariant told) (c.clear_one.ensures told c.args.station.now c.args.folder (c.as_str-in-loop-name.ensures.value ∙ c.in_ok-own.ensures) new)

pub loop-name-preserved : goal.loop-name-preserved
loop-name-preserved g c = λ told.
    let new : has_hidden_names c.args.folder ≡ true = search rules in
    added_twice (MayClear c.args.station.now) _ _ _ (c.loop-name.invariant told) (c.clear_one.ensures told c.args.station.now c.args.folder (c.as_str-in-loop-name.ensures.value ∙ c.in_ok-own.ensures) new)
