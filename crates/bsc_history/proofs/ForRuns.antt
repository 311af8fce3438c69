-- What the proofs of runs need of those of histories: the crate above cites lemmas of this crate through this file alone.
pub use Rattle.bsc_history.proofs.Agreement.{at_most_one_more, in_order, conversations_may_be_spoken}
pub use Rattle.bsc_history.proofs.Bound.{HasCleanPair, IsFairNow, AreFair, known_in_time}
pub use Rattle.bsc_history.proofs.CleanTurns.{IsClean, AreClean, clean_stands}
pub use Rattle.bsc_history.proofs.Line.{ComesAs, comes, lost-after}
pub use Rattle.bsc_history.proofs.OneConversation.{same-history, rest, goes-on-within, no-longer, true-false, cases-plan}
pub use Rattle.bsc_history.proofs.OnePairConversation.{counted-quiet, vain-follows, silent-says, IsPairOf, none-alone, parts-of, same-pair_place, same-pair_history, pair-rest, pair-goes-on-within, pair-no-longer, one-speaks, unfinished}
pub use Rattle.bsc_history.proofs.Phases.{turn, saying-speaks, no-answer, and-false, Phase, Phase-from_spoken}
pub use Rattle.bsc_history.proofs.PairAgreement.{pair_conversations_may_be_spoken, directions_may_be_spoken}
pub use Rattle.bsc_history.proofs.Plain.{ArePlain}
pub use Rattle.bsc_history.proofs.ReceiverCore.{conversations_are_spoken, receiver_core_replies, receiver_core_accepts, eot-said, quiet-after_end}
pub use Rattle.bsc_history.proofs.Saying.{ungranted-from_bid, granted-from_said}
pub use Rattle.bsc_history.proofs.Schedule.{counted-brought, spoken-more, is_block-sound}
pub use Rattle.bsc_history.proofs.SenderCore.{Matches, sender-step, counts-step, sender_core_says, sender_core_counts}
pub use Rattle.bsc_history.proofs.Within.{and-left, stays_within_plan}
