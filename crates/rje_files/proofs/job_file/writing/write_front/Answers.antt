use Rattle.rje_files.proofs.Spelled.{front_spelled}
use Rattle.rje_files.proofs.job_file.writing.write_front.Goals as goal

pub returns : goal.returns
returns c = front_spelled _ _ _ _ c.args.version _ c.args.count c.in_ok-extend_from_slice.ensures.items c.byte_of_version.ensures c.in_ok-push.ensures.items c.in_ok-write_number.ensures
