use Rattle.std.proofs.Common.{refl, inl, length, ◌+◌, ◌≤◌, arith, rules}
use Rattle.rje_files.specs.JobFile.{IsFileUpTo}
use Rattle.rje_files.proofs.Longest.{read_none, read_all, read_past, no_file, all_read}
use Rattle.rje_files.proofs.job_file.checking.first_fault.Goals as goal

pub loop-place-init : goal.loop-place-init
loop-place-init c = record { within = omega arith; read = read_none c.args.newest _ c.new-reader.ensures.due c.new-reader.ensures.newest }

pub loop-place-preserved-then-data-gt0 : goal.loop-place-preserved-then-data-gt0
loop-place-preserved-then-data-gt0 c =
    let w : c.loop-place.place + c.min-data.result ≤ length c.args.bytes.now = search rules in
    record {
      within = w;
      read = read_past (IsFileUpTo c.args.newest) c.args.bytes.now c.loop-place.place c.min-data.result c.loop-place.reader c.behind_data-reader.result w c.loop-place.invariant.read c.behind_data-reader.ensures;
    }

pub returns-else-is_done-clause-fault : goal.returns-else-is_done-clause-fault
returns-else-is_done-clause-fault c =
    let read = read_all (IsFileUpTo c.args.newest) c.args.bytes.now c.loop-place.place c.loop-place.reader (omega (arith, c.loop-place-test.false)) c.loop-place.invariant.read in (
      length c.args.bytes.now,
      all_read (IsFileUpTo c.args.newest) c.args.bytes.now c.loop-place.reader read,
      (refl, inl (refl, no_file (IsFileUpTo c.args.newest) c.args.bytes.now c.loop-place.reader read (c.is_done.ensures.more c.if-is_done.false))),
    )
