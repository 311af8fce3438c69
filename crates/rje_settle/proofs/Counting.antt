-- The digest of jobs and of one more, and the receipts of them.
use Rattle.std.proofs.Common.{◌≡◌, ℕ, List, [], ◌∷◌, ◌++◌, length-append, refl, sym, arith}
use Rattle.sha2.specs.Sha256.{sha256}
use Rattle.rje_settle.specs.declared.receipt.Receipt.{Receipt}
use Rattle.rje_settle.specs.Digest.{JobFile, chained, digest_from, digest_of_none}
use Rattle.rje_settle.specs.Receipt.{IsReceiptOf, counted_with, no_receipt}

pub digest_from-more : (before : List ℕ) (files : List JobFile) (file : JobFile)
    → digest_from before (files ++ file ∷ []) ≡ chained (digest_from before files) (sha256 file)
unfolding digest_from
digest_from-more before [] file = refl
digest_from-more before (f ∷ files) file = digest_from-more (chained before (sha256 f)) files file

pub counts_none : IsReceiptOf no_receipt []
unfolding digest_from
counts_none = record { many = refl; same = refl }

pub counts_one_more : (r : Receipt) (files : List JobFile) (file : JobFile) (own : List ℕ) → IsReceiptOf r files → own ≡ sha256 file
    → IsReceiptOf (counted_with r own) (files ++ file ∷ [])
counts_one_more r files file own is e = record {
  many = omega (arith, length-append files (file ∷ []), is.many);
  same = rw (is.same, e) (sym (digest_from-more digest_of_none files file));
}
