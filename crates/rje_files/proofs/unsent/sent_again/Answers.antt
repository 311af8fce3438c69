use Rattle.std.proofs.Common.{rules, ◌≡◌, length, ap, ◌∙◌}
use Rattle.std.proofs.lemmas.List.{take_at}
use Rattle.rje_files.specs.Unsent.{with_sent}
use Rattle.rje_files.proofs.GoodEntries.{none_behind, none_else}
use Rattle.rje_files.proofs.Marking.{many}
use Rattle.rje_files.proofs.unsent.sent_again.Goals as goal

pub returns-in_err-entries-clause-left : goal.returns-in_err-entries-clause-left
returns-in_err-entries-clause-left c = none_else c.from_residual.result c.args.file.now c.args.count (search rules)

pub returns-clause-left : goal.returns-clause-left
returns-clause-left c =
    let entries = c.in_ok-entries.entries in
    let made = c.mark_sent.new.entries in
    let sent : made ≡ with_sent c.args.count entries.items = c.mark_sent.ensures.sent ∙ ap (with_sent c.args.count) c.as_mut_slice.ensures.value in
    let long : length made ≡ entries.len = ap length sent ∙ many c.args.count entries.items ∙ (search rules) in
    none_behind c.write_entries.result c.args.file.now c.args.count entries.items c.as_slice.result.now c.in_ok-entries.ensures.file
    (c.as_slice.ensures.value ∙ take_at made _ entries.len long ∙ sent) c.write_entries.ensures.told
