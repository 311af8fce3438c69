-- What is handed to a station that listens, part by part.
use Rattle.std.specs.Prelude.{◌≡◌, ◌⊎◌, ◌<◌, ℕ, Bool, true, false, List, [], ◌++◌, take}
use Rattle.bsc_link.specs.declared.reply.Reply.{Reply}
use Rattle.rje_answers.specs.declared.given.Given.{Given}
use Rattle.rje_answers.specs.declared.handover.Handed.{Handed}
use Rattle.rje_answers.specs.Spelling.{Spells}

-- what waits for it: quiet, then these bytes, then quiet
pub record Waiting : Type 0 where
  pub is_quiet : Bool
  pub left : List ℕ
  pub is_quiet_after : Bool

abbrev pub nothing_waits : Waiting
nothing_waits = record { is_quiet = false; left = []; is_quiet_after = false }

-- the line is quiet before the other end's bid
abbrev pub waits_for_bid : Given Reply → Bool
waits_for_bid Given.Bid = true
waits_for_bid _ = false

-- and after what is no answer
abbrev pub ends_quiet : Given Reply → Bool
ends_quiet (Given.InVain rest) = true
ends_quiet _ = false

-- what waits is what the station is given
pub record IsHandedOn (given : Given Reply) (w : Waiting) : Type 0 where
  pub before : w.is_quiet ≡ waits_for_bid given
  pub bytes : Spells given w.left
  pub after : w.is_quiet_after ≡ ends_quiet given

-- the station is handed the next part of what waits
abbrev pub Hands : Waiting → List ℕ → Handed → Waiting → Type 0
Hands w piece Handed.Nothing w' = (w ≡ nothing_waits) × (w' ≡ w)
Hands w piece Handed.Quiet w' =
    ((w.is_quiet ≡ true) × (w' ≡ record w { is_quiet = false }))
    ⊎ ((w.is_quiet ≡ false) × (w.left ≡ []) × (w.is_quiet_after ≡ true) × (w' ≡ nothing_waits))
Hands w piece (Handed.Bytes n) w' =
    (w.is_quiet ≡ false) × (0 < n) × (w.left ≡ take n piece ++ w'.left) × (w'.is_quiet ≡ false) × (w'.is_quiet_after ≡ w.is_quiet_after)
