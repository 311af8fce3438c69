-- Runs of a receiver: what follows from a state step by step, the first step first.
use Rattle.std.specs.Prelude.{◌&&◌, ℕ, Bool, List, [], ◌∷◌, count_by}
use Rattle.bsc_link.specs.declared.sound.Sound.{Sound}
use Rattle.bsc_link.specs.declared.wish.Wish.{Wish}
use Rattle.bsc_link.specs.declared.receiver_news.ReceiverNews.{ReceiverNews}
use Rattle.bsc_link.specs.Receiver.{ReceiverState, receiver_hears, receiver_news, receiver_quiet_long, silent, is_rvi}

-- one step of a receiver: a hearing, or that the sender was silent for long
pub data ReceiverStep : Type 0 where
  ReceiverHears : (sound : Sound) (wish : Wish) → ReceiverStep
  LongQuiet : ReceiverStep

-- the state after a step
abbrev pub after_receiver_step : ReceiverState → ReceiverStep → ReceiverState
after_receiver_step s (ReceiverHears sound wish) = receiver_hears s sound wish
after_receiver_step s LongQuiet = receiver_quiet_long s

-- the news of a step
abbrev pub news_of : ReceiverState → ReceiverStep → ReceiverNews
news_of s (ReceiverHears sound wish) = receiver_news s sound wish
news_of s LongQuiet = silent

-- the news of a run
abbrev pub news_in : ReceiverState → List ReceiverStep → List ReceiverNews
news_in s [] = []
news_in s (step ∷ steps) = news_of s step ∷ news_in (after_receiver_step s step) steps

-- an RVI is made where it answers a block; one that answers an ENQ is only said again
abbrev pub makes_rvi : ReceiverNews → Bool
makes_rvi news = news.accepted && is_rvi news.reply

-- how many RVI a run makes
abbrev pub rvi_made_in : ReceiverState → List ReceiverStep → ℕ
rvi_made_in s steps = count_by makes_rvi (news_in s steps)
