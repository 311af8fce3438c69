-- The account of what was sent: what the other end is known to have kept, and what was promised since (own profile).
use Rattle.std.specs.Prelude.{◌≡◌, ◌≢◌, ℕ, ◌+◌, List, [], ◌∷◌, ◌++◌, length, map, take, slice_get, Option, Some, None}
use Rattle.std.specs.Option.{option_map}
use Rattle.rje_settle.specs.declared.promise.Promise.{Promise}
use Rattle.rje_settle.specs.declared.receipt.Receipt.{Receipt}
use Rattle.rje_settle.specs.declared.verdict.Verdict.{Verdict}
use Rattle.rje_settle.specs.Digest.{JobFile}
use Rattle.rje_settle.specs.Receipt.{IsReceiptOf}

-- What the other end is known to have kept, or nothing is known yet; and what was promised after that, the first of it first.
pub record Sending : Type 0 where
  pub known : Option Receipt
  pub promises : List Promise

-- what the other end may say where it is known to have kept this: just that, or that the first of these promises came too, or the first two, and so on
abbrev pub may_be_said : Receipt → List Promise → List Receipt
may_be_said known promises = known ∷ map (λ p. p.receipt) promises

-- the last of it: that all came
abbrev pub all_said : Receipt → List Promise → Receipt
all_said known [] = known
all_said known (p ∷ promises) = all_said p.receipt promises

-- the same, where something is known
abbrev pub all_said_of : Sending → Option Receipt
all_said_of a = option_map (λ known. all_said known a.promises) a.known

-- so many of the promises came by this receipt
pub record CameBy (a : Sending) (r : Receipt) (came : ℕ) : Type 0 where
  pub known : Receipt
  pub is_known : a.known ≡ Some known
  pub is_said : slice_get (may_be_said known a.promises) came ≡ Some r

-- nothing that may be said is this receipt
pub record Disagrees (a : Sending) (r : Receipt) : Type 0 where
  pub known : Receipt
  pub is_known : a.known ≡ Some known
  pub not_said : (came : ℕ) → slice_get (may_be_said known a.promises) came ≢ Some r

-- what is found by a receipt
abbrev pub IsFound : Sending → Receipt → Verdict → Type 0
IsFound a r Verdict.BeginsToCount = a.known ≡ None
IsFound a r (Verdict.Agrees came) = CameBy a r came
IsFound a r Verdict.DoesNotAgree = Disagrees a r

-- what is known from then on: where it doesn't agree nothing changes
abbrev pub after_receipt : Sending → Receipt → Verdict → Sending
after_receipt a r Verdict.BeginsToCount = record { known = Some r; promises = [] }
after_receipt a r (Verdict.Agrees came) = record { known = Some r; promises = [] }
after_receipt a r Verdict.DoesNotAgree = a

-- one more is promised, the last one
abbrev pub promised_with : Sending → Promise → Sending
promised_with a p = record a { promises = a.promises ++ p ∷ [] }

-- the numbers of the promises follow that of what is known, one by one
abbrev pub AreInOrder : Receipt → List Promise → Type 0
AreInOrder known [] = Unit {0}
AreInOrder known (p ∷ promises) = (p.receipt.kept ≡ known.kept + 1) × AreInOrder p.receipt promises

-- nothing is promised where nothing is known, and else in order
abbrev pub IsKeptInOrder : Option Receipt → List Promise → Type 0
IsKeptInOrder None promises = promises ≡ []
IsKeptInOrder (Some known) promises = AreInOrder known promises

-- The account is that of these jobs, the first one ever first: what is known are the first of them, what may be said are so many more, and with
-- what is promised they are all.
pub record IsAccountOf (a : Sending) (files : List JobFile) : Type 0 where
  pub each : (known r : Receipt) (came : ℕ) → a.known ≡ Some known → slice_get (may_be_said known a.promises) came ≡ Some r
      → IsReceiptOf r (take (known.kept + came) files)
  pub all : (known : Receipt) → a.known ≡ Some known → length files ≡ known.kept + length a.promises
