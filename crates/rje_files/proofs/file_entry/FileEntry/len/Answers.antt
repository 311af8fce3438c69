use Rattle.std.proofs.Common.{length, ap, ◌∙◌, arith}
use Rattle.std.specs.List.{flat_map}
use Rattle.rje_files.specs.JobFile.{record_bytes}
use Rattle.rje_files.proofs.Marking.{entry_long}
use Rattle.rje_files.proofs.file_entry.FileEntry.len.Goals as goal

pub overflow_add-result : goal.overflow_add-result
overflow_add-result c = omega (arith, c.byte_len.ensures.limit)

pub returns : goal.returns
returns c = entry_long c.args.self.now c.byte_len.result c.requires (c.byte_len.ensures.bytes ∙ ap (λ e. length (flat_map record_bytes e.job.records)) c.self.view_is)
