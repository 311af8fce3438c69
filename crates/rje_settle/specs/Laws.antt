-- What holds of receipts, of the account of what was sent, and of cards and names (own profile).
use Rattle.std.specs.Prelude.{◌≡◌, ◌+◌, ℕ, List, [], ◌∷◌, ◌++◌, Some, take}
use Rattle.sha2.specs.Sha256.{sha256}
use Rattle.rje_settle.specs.declared.receipt.Receipt.{Receipt}
use Rattle.rje_settle.specs.Digest.{JobFile, digest_of}
use Rattle.rje_settle.specs.Receipt.{CanBeSaid, IsReceiptCard, IsReceiptOf, counted_with, no_receipt}
use Rattle.rje_settle.specs.Sending.{CameBy, IsAccountOf, Sending}

-- no jobs have the receipt of none, and with each job that is kept the receipt is that of one more
abbrev pub CountFromNone : Type 0
CountFromNone = IsReceiptOf no_receipt []

abbrev pub CountOneMore : Type 0
CountOneMore = (r : Receipt) (files : List JobFile) (file : JobFile) → IsReceiptOf r files
    → IsReceiptOf (counted_with r (sha256 file)) (files ++ file ∷ [])

-- these two lists of jobs don't share a digest, unless they are the same
abbrev pub AreToldApart : (xs ys : List JobFile) → Type 0
AreToldApart xs ys = digest_of xs ≡ digest_of ys → xs ≡ ys

-- A receipt of just these kept jobs, by which so many promised ones came, says that the kept ones are those that were known and just the
-- promised ones that came, in order and each as it was promised; where the digests of these two lists tell them apart.
abbrev pub TellsWhatCame : Type 0
TellsWhatCame = (a : Sending) (files kept : List JobFile) (r known : Receipt) (came : ℕ) → IsAccountOf a files → IsReceiptOf r kept
    → a.known ≡ Some known → CameBy a r came → AreToldApart kept (take (known.kept + came) files) → kept ≡ take (known.kept + came) files

-- a card is that of one receipt
abbrev pub CardsTellReceipts : Type 0
CardsTellReceipts = (card : List ℕ) (r q : Receipt) → CanBeSaid r → CanBeSaid q → IsReceiptCard card r → IsReceiptCard card q → r ≡ q
