use Rattle.std.proofs.Common.{List, map, refl, sym}
use Rattle.std.specs.List.{flat_map}
use Rattle.rje_jobs.specs.declared.job.Job.{Job}
use Rattle.rje_files.specs.declared.job_file.version.FileVersion.TheVariants.{First}
use Rattle.rje_files.specs.Entry.{entry_of}
use Rattle.rje_files.specs.JobFile.{entry_bytes, FitsFields}
use Rattle.rje_files.proofs.Collected.{mapped_length}
use Rattle.rje_files.proofs.Spelled.{start_entries, more_written, one_back_of}
use Rattle.rje_files.proofs.job_file.writing.write_all_jobs.Goals as goal

pub loop-job-init : goal.loop-job-init
loop-job-init c = record {
  written = start_entries First _ _ _ (map entry_of c.args.jobs.now) (sym (mapped_length c.args.jobs.now)) c.in_ok-write_front.ensures;
  fit = λ h. h;
}

pub loop-job-preserved : goal.loop-job-preserved
loop-job-preserved c = record {
  written = more_written (λ (j : Job). entry_bytes First (entry_of j)) (λ (js : List Job). flat_map (entry_bytes First) (map entry_of js)) (λ j js. refl) _ _ _ c.args.jobs.now
      c.loop-job.job-index _ _ c.job-item.is c.loop-job-test.true c.loop-job.invariant.written c.in_ok-write_job.ensures.job;
  fit = λ h. c.loop-job.invariant.fit (one_back_of (FitsFields First) entry_of c.args.jobs.now c.loop-job.job-index _ _ c.job-item.is c.loop-job-test.true c.in_ok-write_job.ensures.fit h);
}
