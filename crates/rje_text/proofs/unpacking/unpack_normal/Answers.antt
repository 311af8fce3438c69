use Rattle.std.proofs.Common.{ap, ◌∙◌}
use Rattle.std.specs.Option.{is_some, option_map}
use Rattle.rje_text.specs.Inside.RecordText.{unpacked}
use Rattle.rje_text.proofs.unpacking.unpack_normal.Goals as goal

pub returns-in-Ok-collect-clause-read : goal.returns-in-Ok-collect-clause-read
returns-in-Ok-collect-clause-read c =
    let parts = c.in-Ok.ensures.parts in
    (parts.reading ∙ ap (option_map (unpacked c.in-Ok.parts.0)) c.in-Ok-collect.ensures, parts.agrees)

pub returns-in-Err-collect-clause-told : goal.returns-in-Err-collect-clause-told
returns-in-Err-collect-clause-told c =
    let parts = c.in-Ok.ensures.parts in
    let (rs, read, many) = parts.records in
    (ap is_some (parts.reading ∙ ap (option_map (unpacked c.in-Ok.parts.0)) read), parts.agrees)
