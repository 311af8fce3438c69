-- What an end says that it has kept of the other end's jobs (own profile).
use Rattle.std.specs.Prelude.{◌≡◌, ◌+◌, ◌-◌, ◌<◌, ◌^◌, ℕ, List, ◌∷◌, ◌++◌, length, replicate, codes, decimal}
use Rattle.hex.specs.Hex.{encode_lower}
use Rattle.rje_settle.specs.declared.receipt.Receipt.{Receipt}
use Rattle.rje_settle.specs.Digest.{IsDigest, JobFile, chained, digest_of, digest_of_none}

-- the receipt of no jobs
abbrev pub no_receipt : Receipt
no_receipt = record { kept = 0; digest = record { bytes = digest_of_none } }

-- the receipt of the jobs of this one and of one more, whose digest is that
abbrev pub counted_with : Receipt → List ℕ → Receipt
counted_with r own = record { kept = r.kept + 1; digest = record { bytes = chained r.digest.bytes own } }

-- the receipt is that of just these jobs
pub record IsReceiptOf (r : Receipt) (files : List JobFile) : Type 0 where
  pub many : r.kept ≡ length files
  pub same : r.digest.bytes ≡ digest_of files

-- a receipt that can be said: of a number that fits, and a digest of twenty bytes
pub record CanBeSaid (r : Receipt) : Type 0 where
  pub number : r.kept < 2 ^ 64
  pub digest : IsDigest r.digest.bytes

-- its number without leading zeros and its digest in hexadecimal, with this byte between them
unfoldable pub counted_text : ℕ → Receipt → List ℕ
counted_text between r = decimal r.kept ++ between ∷ encode_lower r.digest.bytes

-- the words of its card
unfoldable pub receipt_words : Receipt → List ℕ
receipt_words r = codes "RJE/SETTLE 1 KEPT " ++ counted_text 0x20 r

-- its card, in ASCII: the words, filled with blanks to 80 columns
abbrev pub IsReceiptCard : List ℕ → Receipt → Type 0
IsReceiptCard card r = card ≡ receipt_words r ++ replicate (80 - length (receipt_words r)) 0x20
