use Rattle.std.proofs.Common.{◌∙◌, inl, inr, refl}
use Rattle.rje_settle.specs.declared.settle_name.SettleName.{SettleName}
use Rattle.rje_store.proofs.Replacing.{added_none}
use Rattle.rje_accounts.specs.Paths.{settle_folder, settle_path}
use Rattle.rje_accounts.specs.Reading.{MayRead}
use Rattle.rje_accounts.proofs.Asked.{sync_added}
use Rattle.rje_accounts.proofs.reading.make_folder.Goals as goal

pub returns-clause-asks : goal.returns-clause-asks
returns-clause-asks g c = λ told. sync_added (MayRead c.args.station.now) (settle_folder c.args.station.now) _ _ (inl refl) (rw (c.make_folder.ensures told) at (rw (c.in_ok-folder.ensures told ∙ c.as_str-2.ensures.value ∙ c.in_ok-path.ensures) at (c.sync_names.ensures.asks told)))
