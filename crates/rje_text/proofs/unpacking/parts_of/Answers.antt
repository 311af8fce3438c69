use Rattle.std.proofs.Common.{ap}
use Rattle.std.specs.Option.{is_some}
use Rattle.rje_text.proofs.Selections.{whole_reading, whole_reads, rest_fault}
use Rattle.rje_text.proofs.unpacking.parts_of.Goals as goal

pub returns-in-Err-clause-told : goal.returns-in-Err-clause-told
returns-in-Err-clause-told c =
    rest_fault c.args.so_far c.args.text.now c.split_at.result.1.now c.front_of-select.result.1 c.front_of-select.result.0 c.front_of-select.ensures c.split_at.ensures.back
    c.in-Err.fault c.in-Err.ensures.fault

pub returns-then-not-agrees-clause-told : goal.returns-then-not-agrees-clause-told
returns-then-not-agrees-clause-told c =
    let (rs, read, many) = c.in-Ok.ensures.read in (
      whole_reads c.args.so_far c.args.text.now c.split_at.result.1.now c.front_of-select.result.1 c.front_of-select.result.0 c.front_of-select.ensures c.split_at.ensures.back
          (ap is_some read),
      λ agrees. let h = c.agrees.ensures.1 agrees in let no = c.if-not-agrees.true in cc,
    )

pub returns-clause-parts : goal.returns-clause-parts
returns-clause-parts c =
    record {
      reading = whole_reading c.args.so_far c.args.text.now c.split_at.result.1.now c.front_of-select.result.1 c.front_of-select.result.0 c.front_of-select.ensures c.split_at.ensures.back;
      records = c.in-Ok.ensures.read;
      agrees = c.agrees.ensures.0 c.if-not-agrees.false;
    }
