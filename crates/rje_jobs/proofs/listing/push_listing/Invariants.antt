use Rattle.std.proofs.Common.{◌≡◌, ◌++◌}
use Rattle.std.specs.Io.{StartsWith}
use Rattle.std.specs.List.{flat_map}
use Rattle.rje_jobs.specs.Listing.{line, listing}
use Rattle.rje_jobs.proofs.listing.push_listing.Given as goal

abbrev pub invariant-loop-item : goal.invariant-loop-item
invariant-loop-item l = record {
  lines : l.out.items ++ flat_map line l.item-iterator ≡ l.fn.out.items ++ listing l.job;
  front : StartsWith l.out.items l.fn.out.items;
}
