use Rattle.std.proofs.Common.{rules}
use Rattle.std.proofs.lemmas.List.Sorted.{IsNonDecreasingBy-from_sort_by_key}
use Rattle.rje_status.specs.declared.queued_file.QueuedFile.{QueuedFile}
use Rattle.rje_status.proofs.reading.files_in.Goals as goal

pub returns : goal.returns
returns g c = record {
  old = IsNonDecreasingBy-from_sort_by_key (λ (file : QueuedFile). file.changed) _ c.in_ok-sort_by_key.ensures.sorted (λ a r q k. search rules);
}
