use Rattle.rje_files.specs.Inside.Reading.Grammar.{Entries}
use Rattle.rje_files.proofs.Stored.{records_here, records_many, records_fit, records_spelled}
use Rattle.rje_files.proofs.job_file.collecting.records_at.Goals as goal

pub new-requires : goal.new-requires
new-requires c = (records_here c.args.count (Entries c.args.version c.args.left) c.args.bytes.now c.requires).0

pub behind_records_at-requires : goal.behind_records_at-requires
behind_records_at-requires c = (records_here c.args.count (Entries c.args.version c.args.left) c.args.bytes.now c.requires).0

pub returns : goal.returns
returns c =
    let here = records_here c.args.count (Entries c.args.version c.args.left) c.args.bytes.now c.requires in
    rw (c.new.ensures, c.behind_records_at.ensures) (record {
      many = records_many c.args.count c.args.bytes.now;
      spelled = records_spelled c.args.count c.args.bytes.now here.0;
      fit = records_fit c.args.count c.args.bytes.now here.0;
      entries = here.1;
    })
