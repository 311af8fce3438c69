use Rattle.rje_folder.proofs.station_folder.StationFolder.take_over.Goals as goal

pub returns-clause-taken : goal.returns-clause-taken
returns-clause-taken g c = λ told. rw c.as_str.ensures.value at (c.take_over.ensures.taken told)
