use Rattle.std.proofs.Common.{◌≡◌, ◌+◌, ◌-◌, ◌++◌, ℕ, suc, sym, subst, arith}
use Rattle.rje_files.specs.declared.entry.Entry.{Entry}
use Rattle.rje_files.specs.JobFile.{entry_bytes, FitsFields}
use Rattle.rje_files.specs.Inside.Reading.Grammar.{Entries}
use Rattle.rje_files.proofs.Collected.{file_whole, more_items, one_longer, all_longer}
use Rattle.rje_files.proofs.job_file.collecting.collect_entries.Goals as goal

pub entry_at-entry-requires : goal.entry_at-entry-requires
entry_at-entry-requires c =
    let e : c.front_at-version.result.1 - c.loop-i.i ≡ suc (c.front_at-version.result.1 - c.loop-i.i - 1) = omega (arith, c.loop-i-test.true) in
    subst (λ (n : ℕ). Entries c.front_at-version.result.0 n c.loop-i.rest.now) e c.loop-i.invariant.more

pub loop-i-preserved : goal.loop-i-preserved
loop-i-preserved c =
    let e : c.front_at-version.result.1 - c.loop-i.i - 1 ≡ c.front_at-version.result.1 - (c.loop-i.i + 1) = omega arith in
    let v = c.front_at-version.result.0 in
    let same : c.entry_at-entry.result.0 ≡ c.in_ok-into_entry.field-0 = sym c.in_ok-into_entry.ensures in
    record {
      many = one_longer _ _ _ _ c.in_ok-push.ensures.items c.loop-i.invariant.many;
      spelled = more_items (entry_bytes v) _ _ _ _ _ _ c.in_ok-push.ensures.items c.loop-i.invariant.spelled
          (subst (λ (x : Entry). c.loop-i.rest.now ≡ entry_bytes v x ++ c.entry_at-entry.result.1.now) same c.entry_at-entry.ensures.spelled);
      fit = all_longer (FitsFields v) _ _ _ c.in_ok-push.ensures.items c.loop-i.invariant.fit (subst (FitsFields v) same c.entry_at-entry.ensures.fit);
      more = subst (λ (n : ℕ). Entries v n c.entry_at-entry.result.1.now) e c.entry_at-entry.ensures.entries;
    }

pub returns : goal.returns
returns c =
    let e : c.front_at-version.result.1 - c.loop-i.i ≡ 0 = omega (arith, c.loop-i-test.false) in (
      c.front_at-version.result.0,
      (
        (omega (arith, c.loop-i.invariant.many, c.loop-i-test.false, c.loop-i.auto.i-end), c.loop-i.invariant.fit),
        file_whole c.front_at-version.result.0 c.args.bytes.now _ c.loop-i.rest.now c.front_at-version.result.1 c.loop-i.entries.items c.front_at-version.ensures.spelled c.loop-i.invariant.spelled
            (omega (arith, c.loop-i.invariant.many, c.loop-i-test.false, c.loop-i.auto.i-end)) (subst (λ (n : ℕ). Entries c.front_at-version.result.0 n c.loop-i.rest.now) e c.loop-i.invariant.more),
      ),
    )
