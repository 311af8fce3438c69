use Rattle.std.proofs.Common.{◌≡◌, List, true, refl, arith}
use Rattle.std.specs.List.{flat_map}
use Rattle.rje_files.specs.declared.entry.Entry.{Entry}
use Rattle.rje_files.specs.declared.job_file.version.FileVersion.TheVariants.{Second}
use Rattle.rje_files.specs.Entry.{is_entry}
use Rattle.rje_files.specs.JobFile.{entry_bytes, FitsFields}
use Rattle.rje_files.proofs.Spelled.{start_entries, more_written, one_back, all_good, all_past}
use Rattle.rje_files.proofs.job_file.writing.write_all_entries.Goals as goal

pub loop-entry-init : goal.loop-entry-init
loop-entry-init c = record {
  written = start_entries Second _ _ _ c.args.entries.now refl c.in_ok-write_front.ensures;
  fit = λ h. h;
}

pub loop-entry-preserved : goal.loop-entry-preserved
loop-entry-preserved c = record {
  written = more_written (entry_bytes Second) (λ (es : List Entry). flat_map (entry_bytes Second) es) (λ e es. refl) _ _ _ c.args.entries.now
      c.loop-entry.entry-index _ _ c.entry-item.is c.loop-entry-test.true c.loop-entry.invariant.written c.in_ok-write_entry.ensures.entry;
  fit = λ h.
      c.loop-entry.invariant.fit (one_back (λ (e : Entry). is_entry e ≡ true → FitsFields Second e) c.args.entries.now c.loop-entry.entry-index _ _ c.entry-item.is c.loop-entry-test.true
      c.in_ok-write_entry.ensures.fit h);
}

pub returns-clause-fit : goal.returns-clause-fit
returns-clause-fit c = λ none. (
  omega arith,
  all_good (FitsFields Second) 1 c.args.entries.now none
      (c.loop-entry.invariant.fit (all_past (λ (e : Entry). is_entry e ≡ true → FitsFields Second e) c.args.entries.now c.loop-entry.entry-index (omega (arith, c.loop-entry-test.false)))),
)
