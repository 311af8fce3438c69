-- How many blocks the receiver got.
use Rattle.std.proofs.Common.{◌≡◌, ◌+◌, true, false, [], ◌∷◌, length, refl, length-append}
use Rattle.bsc_history.specs.declared.spoken_turn.SpokenTurn.{SpokenTurn}
use Rattle.bsc_history.specs.History.{History}
use Rattle.bsc_history.specs.Known.{known}
use Rattle.bsc_history.specs.Got.{brings_block, got}

-- one more where the turn brought a block
pub got-brought : (t : SpokenTurn) (past : History) → brings_block t ≡ true → length (got (t ∷ past)) ≡ length (got past) + 1
got-brought t past brought = rw brought (length-append (got past) ((known past + 1) ∷ []))

-- else as many as before
pub got-same : (t : SpokenTurn) (past : History) → brings_block t ≡ false → length (got (t ∷ past)) ≡ length (got past)
got-same t past unbrought = rw unbrought refl
