use Rattle.rje_folder.proofs.station_folder.StationFolder.keep.Goals as goal

pub returns-clause-asks : goal.returns-clause-asks
returns-clause-asks g c = λ told. rw c.as_str.ensures.value at (c.keep_in.ensures.asks told)
