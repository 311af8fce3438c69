-- What is settled as sent was kept, whatever the line did (own profile). There are two premises, and none of the line.
use Rattle.std.specs.Prelude.{◌≡◌, ◌+◌, ◌⊎◌, ℕ, List, [], ◌∷◌, Some, slice_get, take}
use Rattle.rje_settle.specs.declared.receipt.Receipt.{Receipt}
use Rattle.rje_settle.specs.declared.verdict.Verdict.{Verdict}
use Rattle.rje_settle.specs.Digest.{JobFile}
use Rattle.rje_settle.specs.Laws.{AreToldApart}
use Rattle.settle_world.specs.Day.{Ends, Happening, Hears, History, Settled, IsDay, Stood, ends_after}

-- ---- The premises.

-- at some moment this was the receipt of what the other end had kept, whether it was said or not
pub record WasSaid (past : History) (r : Receipt) : Type 0 where
  pub then : Ends
  pub stood : Stood past then
  pub said : r ≡ then.receiving

-- and the digest tells apart the two lists of jobs that are compared by it: what was kept then, and the first of those that were given
pub record IsTrueReceipt (past : History) (r : Receipt) : Type 0 where
  pub was_said : WasSaid past r
  pub apart : AreToldApart was_said.then.kept (take r.kept (ends_after past).given)

-- A receipt that agrees is true; so nobody makes up a digest that fits, and no two lists of jobs that are compared share one. One from which
-- is counted was said. One that doesn't agree may be anything.
abbrev pub MayBeTrusted : History → Happening → Type 0
MayBeTrusted past (Hears r (Verdict.Agrees came)) = IsTrueReceipt past r
MayBeTrusted past (Hears r Verdict.BeginsToCount) = WasSaid past r
MayBeTrusted past _ = Unit {0}

abbrev pub AllTrusted : History → Type 0
AllTrusted [] = Unit {0}
AllTrusted (m ∷ past) = MayBeTrusted past m.what × AllTrusted past

-- ---- What follows.

-- this is one of these
abbrev pub IsAmong : Settled → List Settled → Type 0
IsAmong s [] = ⊥
IsAmong s (t ∷ more) = (s ≡ t) ⊎ IsAmong s more

-- of these settled jobs, each is the one of its number among the kept, whole and as it was given
abbrev pub WereKept : Settled → List JobFile → Type 0
WereKept s kept = (k : ℕ) (file : JobFile) → slice_get s.files k ≡ Some file → slice_get kept (s.behind + k) ≡ Some file

-- each job that is settled as sent is kept, and stays so
abbrev pub SettlesWhatWasKept : Type 0
SettlesWhatWasKept = (h : History) (s : Settled) → IsDay h → AllTrusted h → IsAmong s (ends_after h).settled → WereKept s (ends_after h).kept

-- the jobs that the other end is known to have kept are just the first ones that it kept
abbrev pub KnowsWhatWasKept : Type 0
KnowsWhatWasKept = (h : History) (known : Receipt) → IsDay h → AllTrusted h → (ends_after h).sending.known ≡ Some known
    → take known.kept (ends_after h).given ≡ take known.kept (ends_after h).kept
