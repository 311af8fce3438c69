use Rattle.std.proofs.Common.{rules, ap}
use Rattle.rje_files.specs.Unsent.{with_sent}
use Rattle.rje_files.proofs.GoodEntries.{none_behind, none_else}
use Rattle.rje_files.proofs.unsent.sent_file.Goals as goal

pub returns-in_err-entries-clause-left : goal.returns-in_err-entries-clause-left
returns-in_err-entries-clause-left c = none_else c.from_residual.result c.args.file.now c.args.count (search rules)

pub returns-in_ok-entries-clause-left : goal.returns-in_ok-entries-clause-left
returns-in_ok-entries-clause-left c =
    none_behind c.marked_copy.result c.args.file.now c.args.count c.in_ok-entries.entries.items (with_sent c.args.count c.as_slice.result.now) c.in_ok-entries.ensures.file
    (ap (with_sent c.args.count) c.as_slice.ensures.value) c.marked_copy.ensures.told
