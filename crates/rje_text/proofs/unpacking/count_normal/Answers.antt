use Rattle.std.proofs.Common.{ap, sym, ◌∙◌}
use Rattle.std.specs.Option.{option_map}
use Rattle.rje_text.specs.Reading.{counted_of}
use Rattle.rje_text.specs.Inside.RecordText.{unpacked}
use Rattle.rje_text.proofs.unpacking.count_normal.Goals as goal

pub returns-in-Ok-clause-counted : goal.returns-in-Ok-clause-counted
returns-in-Ok-clause-counted c =
    let parts = c.in-Ok.ensures.parts in
    let (rs, read, many) = parts.records in
    let u = unpacked c.in-Ok.select rs in
    ((u, parts.reading ∙ ap (option_map (unpacked c.in-Ok.select)) read, ap (λ n. record (counted_of u) { count = n }) (sym many)), parts.agrees)
