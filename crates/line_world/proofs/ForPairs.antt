-- What the proofs of pairs need of those of runs: the crate above cites lemmas of this crate on turns and fates through this file alone.
pub use Rattle.line_world.proofs.Attempts.{none_unfit}
pub use Rattle.line_world.proofs.Broken.{AsCounted, FittingTurn, Keeps, cuts_kept, damage_kept, fits_within, no_turn}
pub use Rattle.line_world.proofs.Calm.{ended_owes, stays_calm}
pub use Rattle.line_world.proofs.Carried.{damage_fault, line_hears, nothing_carried, reply_carried, reply_fault, reply_written, same_refusal, same_sound}
pub use Rattle.line_world.proofs.Comings.{Told, first_left, reply_told, said_told}
pub use Rattle.line_world.proofs.Noted.{answer_noted, hearing_noted, turn_noted}
pub use Rattle.line_world.proofs.OneDirection.{ToldDown, breaks_replied, breaks_said, no_reply_told, outstanding_is, replies_by, reply_told_as, rested, sent_is_due, turn_of, unanswered}
pub use Rattle.line_world.proofs.Planned.{begins}
pub use Rattle.line_world.proofs.ReceivingTurns.{accepted_is, ended_early, no_eot, refused_block, taken_eot, taken_is}
pub use Rattle.line_world.proofs.RunLoop.{outcome_plan, plan_some, some_jobs}
pub use Rattle.line_world.proofs.SendingTurns.{after_end, after_more, cases_end, core_on, counted_last, counted_on, done_is, turn_ends, turn_hears}
pub use Rattle.line_world.proofs.SoFar.{SpokenSoFar, one_more, spoken_length, spoken_on}
pub use Rattle.line_world.proofs.Telling.{get_append, get_seam, telling, told_any, told_length, told_on, told_turn, told_whole, told_with}
pub use Rattle.line_world.proofs.TurnFaults.{fault_so}
