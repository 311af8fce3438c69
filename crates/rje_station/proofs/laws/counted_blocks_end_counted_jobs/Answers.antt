use Rattle.rje_station.proofs.Counting.{counts_blocks}
use Rattle.rje_station.proofs.laws.counted_blocks_end_counted_jobs.Goals as goal

pub returns : goal.returns
returns c = counts_blocks
