use Rattle.std.proofs.Common.{◌≡◌, ◌++◌}
use Rattle.std.specs.List.{flat_map}
use Rattle.rje_jobs.specs.Punch.{card, punched}
use Rattle.rje_print.proofs.job_texts.push_all_cards.Given as goal

abbrev pub invariant-loop-item : goal.invariant-loop-item
invariant-loop-item l = l.text.items ++ flat_map (card l.form) l.item-iterator ≡ l.fn.text.items ++ punched l.form l.entry.job
