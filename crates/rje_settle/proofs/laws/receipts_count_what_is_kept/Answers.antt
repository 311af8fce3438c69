use Rattle.std.proofs.Common.{refl}
use Rattle.sha2.specs.Sha256.{sha256}
use Rattle.rje_settle.proofs.Counting.{counts_none, counts_one_more}
use Rattle.rje_settle.proofs.laws.receipts_count_what_is_kept.Goals as goal

pub returns : goal.returns
returns c = record {
  none = counts_none;
  one_more = λ r files file is. counts_one_more r files file (sha256 file) is refl;
}
