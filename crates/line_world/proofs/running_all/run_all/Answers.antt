-- Each turn of the loop is one more run.
use Rattle.std.proofs.Common.{◌≡◌, drop, ◌∙◌}
use Rattle.std.proofs.lemmas.List.{take_rest}
use Rattle.line_world.specs.Run.{IsRun, IsRunFault}
use Rattle.line_world.specs.Series.{IsReportOf}
use Rattle.line_world.proofs.Attempts.{all_fit_behind, schedule_at, runs_more, runs_length, runs_fault}
use Rattle.line_world.proofs.running_all.run_all.Goals as goal

pub returns-in-Err-clause-fault : goal.returns-in-Err-clause-fault
returns-in-Err-clause-fault c =
    let here = schedule_at c.args.schedules.now c.loop-turns.turns-index c.turns-item.result c.loop-turns-test.true c.turns-item.is in
    let so_far = c.loop-turns.invariant.so_far in
    let long = runs_length _ _ _ _ _ so_far here in
    let attempt : c.len-attempt.result ≡ c.loop-turns.turns-index = c.len-attempt.ensures ∙ c.loop-turns.series.reports.ok.0 ∙ long in
    let fault : IsRunFault (drop c.loop-turns.series.counted c.args.jobs.now) c.turns-item.result.items c.in-Err.fault = rw (take_rest, c.deref.ensures.value) at c.in-Err.ensures.fault in
    rw (c.in_attempt.ensures, attempt) (runs_fault _ _ _ _ _ _ c.in_default.ensures so_far here long fault)

pub loop-turns-preserved : goal.loop-turns-preserved
loop-turns-preserved c =
    let here = schedule_at c.args.schedules.now c.loop-turns.turns-index c.turns-item.result c.loop-turns-test.true c.turns-item.is in
    let left = drop c.loop-turns.series.counted c.args.jobs.now in
    let run : IsRun left c.turns-item.result.items _ _ _ _ = rw (take_rest, c.deref.ensures.value) at c.in-Ok.ensures.run in
    let law = c.runs_keep_order.ensures in
    let fit = all_fit_behind _ _ c.in_default.ensures in
    let report : IsReportOf left c.turns-item.result.items c.in-Ok.report = record {
      run = run;
      in_order = law.in_order left _ _ _ _ _ fit run;
      counted_whole = law.counted_whole left _ _ _ _ _ fit run;
      first_jobs = law.first_jobs left _ _ _ _ _ fit run;
    } in
    let pushed = c.in_ok-push-in-Ok.ensures in
    record {
      so_far = runs_more _ _ _ _ _ _ _ c.loop-turns.invariant.so_far here report (record { reports = pushed.reports; handed = pushed.handed; counted = pushed.counted });
    }
