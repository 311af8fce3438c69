-- What a sender and a receiver said to each other, turn by turn: own profile, of the turns that IBM GA27-3004 describes.
-- Blocks are named by their numbers: 1, 2, ..
use Rattle.std.specs.Prelude.{◌≡◌, ◌%◌, ◌==◌, ℕ, Bool, true, false, if◌then◌else◌, List, [], ◌∷◌, slice_get, Some, None}
use Rattle.bsc_link.specs.declared.sound.Sound.{Sound}
use Rattle.bsc_link.specs.declared.say.Say.{Say}
use Rattle.bsc_link.specs.declared.next.Next.{Next}
use Rattle.bsc_history.specs.declared.spoken_turn.SpokenTurn.{SpokenTurn}

-- the turns so far, the newest first
abbrev pub History : Type 0
History = List SpokenTurn

-- the blocks of a transmission, in order: does the block begin a job?
abbrev pub Plan : Type 0
Plan = List Bool

-- what follows the first n blocks: a block of the same job, the first block of a job, or nothing
abbrev pub what_follows : Plan → ℕ → Next
what_follows plan n = elim (slice_get plan n) [ None ↦ Next.Done | Some begins ↦ if begins then Next.NewJob else Next.Block ]

-- the first block begins a job
abbrev pub BeginsWithJob : Plan → Type 0
BeginsWithJob plan = what_follows plan 0 ≡ Next.NewJob

-- a block turn said a block, for the first time or again, or asked for the reply to one
abbrev pub is_block_turn : SpokenTurn → Bool
is_block_turn t = elim t.said [ Say.Block ↦ true | Say.Again ↦ true | Say.Ask ↦ true | _ ↦ false ]

-- a turn is the last one where EOT was said or heard
abbrev pub is_last : SpokenTurn → Bool
is_last t = elim t.said [ Say.End ↦ true | _ ↦ elim t.heard [ Sound.Eot ↦ true | _ ↦ false ] ]

-- the conversation is over: its last turn was the last one
abbrev pub is_over : History → Bool
is_over [] = false
is_over (t ∷ past) = is_last t

abbrev pub is_even : ℕ → Bool
is_even n = n % 2 == 0
