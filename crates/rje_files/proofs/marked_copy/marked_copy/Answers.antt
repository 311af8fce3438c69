use Rattle.std.proofs.Common.{rules, ◌≡◌, length, ◌∙◌}
use Rattle.std.proofs.lemmas.List.{take_at}
use Rattle.rje_files.proofs.MarkedCopy.{is_file}
use Rattle.rje_files.proofs.marked_copy.marked_copy.Goals as goal

pub returns-in-Ok-clause-file : goal.returns-in-Ok-clause-file
returns-in-Ok-clause-file c =
    let long : length c.mark_first.new.bytes ≡ c.in-Ok.bytes.len = c.mark_first.auto.bytes ∙ c.as_mut_slice.ensures.len in
    is_file c.args.count c.args.entries.now _ c.requires.0 (search rules) (take_at c.mark_first.new.bytes _ c.in-Ok.bytes.len long ∙ c.mark_first.ensures)
