use Rattle.std.proofs.Common.{◌≡◌, ◌++◌}
use Rattle.std.specs.Io.{StartsWith}
use Rattle.std.specs.List.{flat_map}
use Rattle.rje_jobs.specs.Punch.{card, punched}
use Rattle.rje_jobs.proofs.punch.push_cards.Given as goal

abbrev pub invariant-loop-item : goal.invariant-loop-item
invariant-loop-item l = record {
  cards : l.out.items ++ flat_map (card l.form) l.item-iterator ≡ l.fn.out.items ++ punched l.form l.job;
  front : StartsWith l.out.items l.fn.out.items;
}
