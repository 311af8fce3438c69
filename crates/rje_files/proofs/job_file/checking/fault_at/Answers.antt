use Rattle.std.proofs.Common.{arith, refl, inr, take}
use Rattle.rje_files.specs.JobFile.{IsFileUpTo}
use Rattle.rje_files.proofs.Longest.{longest, is_file, no_file}
use Rattle.rje_files.proofs.job_file.checking.fault_at.Goals as goal

pub returns-then-place-lt4 : goal.returns-then-place-lt4
returns-then-place-lt4 c =
    (c.args.place, longest (IsFileUpTo c.args.newest) c.args.bytes.now c.args.place c.args.reader c.requires.within c.requires.read c.requires.refused, (c.if-place-lt4.true, c.requires.within))

pub returns-then-is_done : goal.returns-then-is_done
returns-then-is_done c = (
  c.args.place,
  longest (IsFileUpTo c.args.newest) c.args.bytes.now c.args.place c.args.reader c.requires.within c.requires.read c.requires.refused,
  (refl, omega (arith, c.if-place-lt6.false), c.requires.within, is_file (IsFileUpTo c.args.newest) (take c.args.place c.args.bytes.now) c.args.reader c.requires.read (c.is_done.ensures.done c.if-is_done.true)),
)

pub returns-else-is_done : goal.returns-else-is_done
returns-else-is_done c = (
  c.args.place,
  longest (IsFileUpTo c.args.newest) c.args.bytes.now c.args.place c.args.reader c.requires.within c.requires.read c.requires.refused,
  (refl, omega (arith, c.if-place-lt6.false), c.requires.within, no_file (IsFileUpTo c.args.newest) (take c.args.place c.args.bytes.now) c.args.reader c.requires.read (c.is_done.ensures.more c.if-is_done.false)),
)

pub returns-then-bytes-eq5 : goal.returns-then-bytes-eq5
returns-then-bytes-eq5 c = (
  c.args.place,
  longest (IsFileUpTo c.args.newest) c.args.bytes.now c.args.place c.args.reader c.requires.within c.requires.read c.requires.refused,
  (omega (arith, c.if-bytes-eq5.true), inr (omega (arith, c.if-bytes-eq5.true, c.requires.within, c.if-place-lt4.false), omega (arith, c.if-bytes-eq5.true))),
)

pub returns-else-bytes-eq5 : goal.returns-else-bytes-eq5
returns-else-bytes-eq5 c = (
  c.args.place,
  longest (IsFileUpTo c.args.newest) c.args.bytes.now c.args.place c.args.reader c.requires.within c.requires.read c.requires.refused,
  (omega (arith, c.if-place-lt4.false), omega (arith, c.if-place-lt6.true), omega (arith, c.if-bytes-eq5.false, c.requires.within, c.if-place-lt4.false), c.requires.within, refl),
)
