use Rattle.rje_store.proofs.Replacing.{added_twice}
use Rattle.rje_accounts.specs.Reading.{MayRead}
use Rattle.rje_accounts.proofs.reading.read_accounts.Goals as goal

pub returns-in_err-sync_accounts-clause-asks : goal.returns-in_err-sync_accounts-clause-asks
returns-in_err-sync_accounts-clause-asks g c = λ told. added_twice (MayRead c.args.station.now) _ _ _ (c.make_folder.ensures.asks told) (c.sync_accounts.ensures.asks told)

pub returns-in_err-names-clause-asks : goal.returns-in_err-names-clause-asks
returns-in_err-names-clause-asks g c = λ told. added_twice (MayRead c.args.station.now) _ _ _ (c.make_folder.ensures.asks told) (c.sync_accounts.ensures.asks told)

pub returns-clause-asks : goal.returns-clause-asks
returns-clause-asks g c = λ told. added_twice (MayRead c.args.station.now) _ _ _ (c.make_folder.ensures.asks told) (c.sync_accounts.ensures.asks told)
