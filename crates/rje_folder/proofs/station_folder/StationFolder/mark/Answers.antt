use Rattle.rje_folder.proofs.Marked.{mark_stays}
use Rattle.rje_folder.proofs.station_folder.StationFolder.mark.Goals as goal

pub returns-in-Ok-Some-clause-in_doubt : goal.returns-in-Ok-Some-clause-in_doubt
returns-in-Ok-Some-clause-in_doubt g c = λ told synced. mark_stays c.args.doubt.now c.args.doubt.now c.args.place c.args.mark _ _ (c.set_mark.ensures.asks told) synced

pub returns-in-Ok-None-clause-in_doubt : goal.returns-in-Ok-None-clause-in_doubt
returns-in-Ok-None-clause-in_doubt g c = λ told synced. mark_stays c.args.doubt.now c.args.doubt.now c.args.place c.args.mark _ _ (c.set_mark.ensures.asks told) synced

pub returns-in-Err-clause-in_doubt : goal.returns-in-Err-clause-in_doubt
returns-in-Err-clause-in_doubt g c = λ told synced. mark_stays c.args.doubt.now c.args.doubt.now c.args.place c.args.mark _ _ (c.set_mark.ensures.asks told) synced
