use Rattle.std.proofs.Common.{◌≡◌, ◌+◌, ◌-◌, ◌++◌, ℕ, suc, sym, subst, arith}
use Rattle.rje_files.specs.declared.entry.Entry.{Entry}
use Rattle.rje_files.specs.JobFile.{entry_bytes, FitsFields}
use Rattle.rje_files.specs.Inside.Reading.Grammar.{Entries}
use Rattle.rje_files.proofs.Collected.{CollectedSo, collected_more, collected_all}
use Rattle.rje_files.proofs.job_file.collecting.collect_jobs.Goals as goal

pub entry_at-entry-requires : goal.entry_at-entry-requires
entry_at-entry-requires c =
    let e : c.front_at-version.result.1 - c.loop-i.i ≡ suc (c.front_at-version.result.1 - c.loop-i.i - 1) = omega (arith, c.loop-i-test.true) in
    subst (λ (n : ℕ). Entries c.front_at-version.result.0 n c.loop-i.rest.now) e c.loop-i.invariant.more

pub loop-i-preserved : goal.loop-i-preserved
loop-i-preserved c =
    let v = c.front_at-version.result.0 in
    let e : c.front_at-version.result.1 - c.loop-i.i - 1 ≡ c.front_at-version.result.1 - (c.loop-i.i + 1) = omega arith in
    let same : c.entry_at-entry.result.0 ≡ c.in_ok-job.field-0 = sym c.in_ok-job.ensures in
    collected_more v _ _ _ _ _ _ _ _ c.in_ok-job.field-0 c.loop-i.invariant
    (subst (λ (x : Entry). c.loop-i.rest.now ≡ entry_bytes v x ++ c.entry_at-entry.result.1.now) same c.entry_at-entry.ensures.spelled)
    (subst (FitsFields v) same c.entry_at-entry.ensures.fit)
    (subst (λ (n : ℕ). Entries v n c.entry_at-entry.result.1.now) e c.entry_at-entry.ensures.entries)
    c.in_ok-push.ensures.items

pub returns : goal.returns
returns c =
    let v = c.front_at-version.result.0 in
    let count = c.front_at-version.result.1 in
    let e : count - c.loop-i.i ≡ 0 = omega (arith, c.loop-i-test.false) in
    let all : c.loop-i.i ≡ count = omega (arith, c.loop-i-test.false, c.loop-i.auto.i-end) in
    collected_all c.args.newest v _ _ _ count _ c.front_at-version.ensures.known c.front_at-version.ensures.spelled (omega (arith, c.loop-i-test.false, c.loop-i.auto.i-end))
    (subst (λ (n : ℕ). CollectedSo v c.front_at-version.result.2.now c.loop-i.rest.now n count c.loop-i.jobs.items) e
    (subst (λ (n : ℕ). CollectedSo v c.front_at-version.result.2.now c.loop-i.rest.now (count - c.loop-i.i) n c.loop-i.jobs.items) all c.loop-i.invariant))
