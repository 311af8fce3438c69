use Rattle.std.proofs.Common.{◌≡◌, ◌-◌, length, ap, ◌∙◌, arith}
use Rattle.std.specs.List.{flat_map}
use Rattle.rje_files.specs.JobFile.{record_bytes}
use Rattle.rje_files.specs.Inside.Reading.Stored.{records_in}
use Rattle.rje_files.proofs.Stored.{records_long}
use Rattle.rje_files.proofs.file_records.FileRecords.byte_len.Goals as goal

pub overflow_sub-result : goal.overflow_sub-result
overflow_sub-result c = omega (arith, records_long c.self.inside.left c.self.inside.rest.now _ c.self.invariant c.behind_records_at-behind.ensures)

pub returns : goal.returns
returns c =
    let bytes = flat_map record_bytes (records_in c.self.inside.left c.self.inside.rest.now) in
    let long = records_long c.self.inside.left c.self.inside.rest.now _ c.self.invariant c.behind_records_at-behind.ensures in
    let is : length c.self.inside.rest.now - length c.behind_records_at-behind.result.now ≡ length bytes = omega (arith, long) in
    record {
      bytes = is ∙ ap (λ rs. length (flat_map record_bytes rs)) c.self.view_is;
      limit = omega (arith, c.self.told, long);
    }
