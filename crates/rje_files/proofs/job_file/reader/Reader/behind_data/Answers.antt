use Rattle.std.proofs.Common.{◌+◌, ◌-◌, sym, subst, arith}
use Rattle.rje_files.specs.declared.job_file.reader.Due.TheVariants.{Data}
use Rattle.rje_files.specs.declared.job_file.reader.Reader.{Reader}
use Rattle.rje_files.specs.Inside.Reading.Reader.{IsSkip}
use Rattle.rje_files.proofs.Skips.{data_is, skip}
use Rattle.rje_files.proofs.job_file.reader.Reader.behind_data.Goals as goal

pub returns-then-left-eq0 : goal.returns-then-left-eq0
returns-then-left-eq0 c =
    let d = c.args.self.now in
    let n = c.args.count in
    skip d c.next_record.result n 0 (data_is d.due (n + 0) (omega (arith, c.requires.some)) (omega (arith, c.data_due.ensures, c.requires.within, c.if-left-eq0.true)))
    c.next_record.ensures.sound c.next_record.ensures.there c.next_record.ensures.back

pub returns-else-left-eq0 : goal.returns-else-left-eq0
returns-else-left-eq0 c =
    let d = c.args.self.now in
    let n = c.args.count in
    let left = c.data_due.result - n in
    subst (λ (e : Reader). IsSkip d n e) (sym c.at.ensures)
    (skip d (record d { due = Data left }) n left (data_is d.due (n + left) (omega (arith, c.requires.some)) (omega (arith, c.data_due.ensures, c.requires.within, c.if-left-eq0.false)))
    (omega (arith, c.if-left-eq0.false)) (λ xs h. h) (λ xs h. h))
