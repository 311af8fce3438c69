-- Good turns of a schedule: all arrives, and both ends are ready. Own profile.
use Rattle.std.specs.Prelude.{◌≡◌, false}
use Rattle.bsc_link.specs.declared.wish.Wish.{Wish}
use Rattle.line_world.specs.declared.fate.Fate.{Fate}
use Rattle.line_world.specs.declared.turn.Turn.{Turn}

-- all bytes arrive, in whatever pieces
abbrev pub AllArrives : Fate → Type 0
AllArrives (Fate.Arrives cuts) = Unit {0}
AllArrives _ = ⊥

-- a good turn: both transmissions arrive, the receiver wishes nothing, and the sender's next block doesn't wait
pub record IsGood (turn : Turn) : Type 0 where
  pub up : AllArrives turn.up
  pub down : AllArrives turn.down
  pub wish : turn.wish ≡ Wish.Go
  pub pause : turn.pause ≡ false
