-- The digest of a list of jobs (own profile). A job is here the bytes of its job file of version 2.
use Rattle.std.specs.Prelude.{◌≡◌, ℕ, List, [], ◌∷◌, ◌++◌, length, replicate, take}
use Rattle.hex.specs.Hex.{IsBytes, encode_lower}
use Rattle.sha2.specs.Sha256.{sha256}

-- a job, as its file has it
abbrev pub JobFile : Type 0
JobFile = List ℕ

-- twenty bytes
abbrev pub IsDigest : List ℕ → Type 0
IsDigest bytes = (length bytes ≡ 20) × IsBytes bytes

-- the digest of no jobs: forty noughts in hexadecimal
abbrev pub digest_of_none : List ℕ
digest_of_none = replicate 20 0

-- the digest of jobs that have this one and of one more, whose own is that: the first bytes of SHA-256 of the text of both in hexadecimal
unfoldable pub chained : (before own : List ℕ) → List ℕ
chained before own = take 20 (sha256 (encode_lower before ++ encode_lower own))

-- the digest of all the jobs of others that have this one, and of these
unfoldable pub digest_from : List ℕ → List JobFile → List ℕ
digest_from before [] = before
digest_from before (file ∷ files) = digest_from (chained before (sha256 file)) files

-- the digest of these jobs, the first of them first
abbrev pub digest_of : List JobFile → List ℕ
digest_of files = digest_from digest_of_none files
