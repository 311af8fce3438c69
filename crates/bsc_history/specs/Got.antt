-- What a receiver got: the blocks that arrived and found memory, by their numbers. Own profile.
use Rattle.std.specs.Prelude.{ℕ, ◌+◌, Bool, false, not, if◌then◌else◌, List, [], ◌∷◌, ◌++◌}
use Rattle.bsc_link.specs.declared.sound.Sound.{Sound}
use Rattle.bsc_history.specs.declared.spoken_turn.SpokenTurn.{SpokenTurn}
use Rattle.bsc_history.specs.History.{History}
use Rattle.bsc_history.specs.Known.{known}

-- a block arrived, and was not refused
abbrev pub brings_block : SpokenTurn → Bool
brings_block t = elim t.arrived [ Sound.Block ↦ not t.refused | _ ↦ false ]

-- the numbers of the blocks that the receiver got, in order: each is the one after those that the sender then knew of
abbrev pub got : History → List ℕ
got [] = []
got (t ∷ past) = if brings_block t then got past ++ (known past + 1) ∷ [] else got past
