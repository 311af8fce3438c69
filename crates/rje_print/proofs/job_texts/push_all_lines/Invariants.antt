use Rattle.std.proofs.Common.{◌≡◌, ◌++◌}
use Rattle.std.specs.List.{flat_map}
use Rattle.rje_jobs.specs.Listing.{line, listing}
use Rattle.rje_print.proofs.job_texts.push_all_lines.Given as goal

abbrev pub invariant-loop-item : goal.invariant-loop-item
invariant-loop-item l = l.text.items ++ flat_map line l.item-iterator ≡ l.fn.text.items ++ listing l.entry.job
