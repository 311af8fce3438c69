use Rattle.std.proofs.Common.{◌≡◌, ◌++◌}
use Rattle.std.specs.List.{flat_map}
use Rattle.rje_monitor.specs.BlockWords.{record_words}
use Rattle.rje_monitor.proofs.block_words.push_records.Given as goal

abbrev pub invariant-loop-item : goal.invariant-loop-item
invariant-loop-item l = l.text.items ++ flat_map record_words l.item-iterator ≡ l.fn.text.items ++ flat_map record_words l.records
