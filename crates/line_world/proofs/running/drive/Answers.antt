-- On a fair line, and on a clean one, every job is counted: a law of runs.
use Rattle.std.proofs.Common.{rules, IfOk}
use Rattle.std.specs.List.{AllByRecursion}
use Rattle.rje_jobs.specs.Fitting.{JobFits}
use Rattle.rje_station.specs.Sending.{outcome_of}
use Rattle.line_world.specs.Run.{IsRun}
use Rattle.line_world.proofs.Carried.{if_ok}
use Rattle.line_world.proofs.running.drive.Goals as goal

pub returns-clause-fair : goal.returns-clause-fair
returns-clause-fair c =
    let run : IfOk c.take_turns.result (λ driven. IsRun c.args.sender.jobs c.args.turns.now driven.turns.items driven.receiver.jobs driven.sender.counted (outcome_of driven.sender)) = search rules in
    let fit : AllByRecursion JobFits c.args.sender.jobs = search rules in
    if_ok c.take_turns.result _ _ (λ d r fair long unrefused. c.fair_line_is_enough.ensures.enough c.args.sender.jobs c.args.turns.now d.turns.items d.receiver.jobs d.sender.counted (outcome_of d.sender) fit fair long r unrefused) run

pub returns-clause-clean : goal.returns-clause-clean
returns-clause-clean c =
    let run : IfOk c.take_turns.result (λ driven. IsRun c.args.sender.jobs c.args.turns.now driven.turns.items driven.receiver.jobs driven.sender.counted (outcome_of driven.sender)) = search rules in
    let fit : AllByRecursion JobFits c.args.sender.jobs = search rules in
    if_ok c.take_turns.result _ _ (λ d r good long unrefused. c.clean_line_is_enough.ensures.enough c.args.sender.jobs c.args.turns.now d.turns.items d.receiver.jobs d.sender.counted (outcome_of d.sender) fit good long r unrefused) run
