use Rattle.std.proofs.Common.{◌∙◌, inl, inr, refl}
use Rattle.rje_settle.specs.declared.settle_name.SettleName.{SettleName}
use Rattle.rje_store.proofs.Replacing.{added_none}
use Rattle.rje_folder.proofs.Taken.{sync_keeps_names}
use Rattle.rje_accounts.specs.Paths.{settle_folder, settle_path}
use Rattle.rje_accounts.specs.Reading.{MayRead}
use Rattle.rje_accounts.proofs.Asked.{ok_turn, sync_added}
use Rattle.rje_accounts.proofs.reading.sync_accounts.Goals as goal

pub returns-clause-asks : goal.returns-clause-asks
returns-clause-asks g c = λ told. sync_added (MayRead c.args.station.now) (settle_path c.args.station.now (SettleName.Come 0)) _ _ (inr (SettleName.Come 0, refl)) (rw (c.in_ok-folder.ensures told ∙ c.as_str.ensures.value ∙ c.in_ok-path.ensures) at (c.sync_names.ensures.asks told))

pub returns-clause-synced : goal.returns-clause-synced
returns-clause-synced g c = λ told. ok_turn _ _ c.sync_names.result (λ done. (SettleName.Come 0, g.D.Disk.asked c.args.disk.now, done)) (rw (c.in_ok-folder.ensures told ∙ c.as_str.ensures.value ∙ c.in_ok-path.ensures) at (c.sync_names.ensures.done told))

pub returns-clause-keeps : goal.returns-clause-keeps
returns-clause-keeps g c = λ name told h. sync_keeps_names _ name _ _ (c.sync_names.ensures.asks told) h
