-- The jobs were looked at before the stations were made: all that is left to refuse the secondary is want of memory, and a fault of driving
-- is told as it is.
use Rattle.std.proofs.Common.{rules, ◌≡◌, List, Err}
use Rattle.std.specs.List.{AllByRecursion}
use Rattle.rje_jobs.specs.declared.job.Job.{Job}
use Rattle.rje_jobs.specs.Fitting.{JobFits}
use Rattle.rje_station.specs.declared.station_fault.StationFault.{StationFault}
use Rattle.rje_station.specs.StationFault.{IsNewCause}
use Rattle.line_world.specs.declared.world_fault.WorldFault.{WorldFault}
use Rattle.pair_world.specs.declared.pair_turn.PairTurn.{PairTurn}
use Rattle.line_world.specs.Faults.{fault_of}
use Rattle.pair_world.specs.PairRun.{IsPairDriveFault, IsPairRunFault}
use Rattle.line_world.proofs.ForPairs.{none_unfit}
use Rattle.pair_world.proofs.pairing.run_pair.Goals as goal

second_fault : (ups downs : List Job) (turns : List PairTurn) (fault : StationFault) → AllByRecursion JobFits ups → AllByRecursion JobFits downs → IsNewCause downs fault → IsPairRunFault ups downs turns (fault_of fault)
second_fault ups downs turns (StationFault.BadJob number) up_fit down_fit cause = absurd (none_unfit downs number down_fit cause)
second_fault ups downs turns StationFault.OutOfMemory up_fit down_fit cause = ((up_fit, down_fit), tt)
second_fault ups downs turns (StationFault.Line fault) up_fit down_fit cause = absurd cause
second_fault ups downs turns StationFault.Babble up_fit down_fit cause = absurd cause
second_fault ups downs turns StationFault.Over up_fit down_fit cause = absurd cause

pub returns-in_err-secondary-clause-fault : goal.returns-in_err-secondary-clause-fault
returns-in_err-secondary-clause-fault c =
    let told : c.from_residual-in_err-secondary.result ≡ Err (fault_of c.in_err-secondary.field-0.0) = search rules in
    rw told (second_fault _ _ _ c.in_err-secondary.field-0.0 c.in_default.ensures c.in_default-first_unfit.ensures c.in_err-secondary.ensures.refused)

drive_fault : (ups downs : List Job) (turns : List PairTurn) (fault : WorldFault) → AllByRecursion JobFits ups → AllByRecursion JobFits downs → IsPairDriveFault ups downs turns fault → IsPairRunFault ups downs turns fault
drive_fault ups downs turns WorldFault.OutOfMemory up_fit down_fit driven = ((up_fit, down_fit), driven)
drive_fault ups downs turns (WorldFault.NotDamage attempt turn) up_fit down_fit driven = ((up_fit, down_fit), driven)
drive_fault ups downs turns (WorldFault.BadCut attempt turn) up_fit down_fit driven = ((up_fit, down_fit), driven)
drive_fault ups downs turns (WorldFault.BadJob job) up_fit down_fit driven = absurd driven

pub returns-in_err-turns-clause-fault : goal.returns-in_err-turns-clause-fault
returns-in_err-turns-clause-fault c =
    let fault = c.in_err-turns.field-0.0 in
    let told : c.from_residual-in_err-turns.result ≡ Err fault = search rules in
    let driven : IsPairDriveFault c.args.up.now c.args.down.now c.args.turns.now fault = rw (c.in_ok-primary.ensures.ready, c.in_ok-secondary.ensures.ready) at c.in_err-turns.ensures.fault in
    rw told (drive_fault _ _ _ fault c.in_default.ensures c.in_default-first_unfit.ensures driven)
