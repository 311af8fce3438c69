-- Digests in hexadecimal, and back.
use Rattle.std.proofs.Common.{◌≡◌, ℕ, ◌*◌, List, length, Ok, Err, Result, ap, sym, ◌∙◌, arith}
use Rattle.std.specs.Prelude.{MatchResult, ⊤}
use Rattle.hex.specs.Hex.{decode_sized, encode_lower}
use Rattle.hex.specs.declared.error.FromHexError.{FromHexError}
use Rattle.hex.proofs.HexLemmas.{decode_of-ok, decode_sized-encode_lower, decode_sized-ok, decode_sized-twice}
use Rattle.rje_settle.specs.Digest.{IsDigest}

-- what is read as twenty bytes is a digest
pub read_is_digest : (text bytes : List ℕ) → decode_sized text 20 ≡ Ok bytes → IsDigest bytes
read_is_digest text bytes e =
    let long = decode_sized-ok text 20 bytes e in
    let parts = decode_of-ok text bytes (sym (decode_sized-twice text 20 long) ∙ e) in
    let twice : length text ≡ 2 * length bytes = parts.2 in
    (omega (arith, long, twice), parts.3)

-- the text of a digest is read as it
pub reads_its_text : (text bytes : List ℕ) → IsDigest bytes → text ≡ encode_lower bytes → decode_sized text 20 ≡ Ok bytes
reads_its_text text bytes is e = rw e (decode_sized-encode_lower bytes 20 is.0 is.1)

-- what decoding gave, where it went well
pub decoded : (r : Result (List ℕ) FromHexError) (went : Result ⊤ FromHexError) (out : List ℕ)
    → MatchResult r (λ bytes. (went ≡ Ok tt) × (out ≡ bytes)) (λ e. went ≡ Err e) → (v : ⊤) → went ≡ Ok v → r ≡ Ok out
decoded (Ok bytes) went out h v e = ap Ok (sym h.1)
decoded (Err f) went out h v e = cc

-- and where it went wrong it gave nothing
pub not_decoded : (r : Result (List ℕ) FromHexError) (went : Result ⊤ FromHexError) (out bytes : List ℕ) (f : FromHexError)
    → MatchResult r (λ bytes. (went ≡ Ok tt) × (out ≡ bytes)) (λ e. went ≡ Err e) → went ≡ Err f → r ≡ Ok bytes → ⊥
not_decoded (Ok b) went out bytes f h e is = let ok = h.0 in cc
not_decoded (Err g) went out bytes f h e is = cc
