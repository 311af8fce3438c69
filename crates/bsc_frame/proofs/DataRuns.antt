-- Many data bytes at once.
use Rattle.std.proofs.Common.{◌≡◌, ℕ, zero, suc, ◌+◌, ◌<◌, ◌≤◌, Bool, true, false, List, [], ◌∷◌, ◌++◌, length, take, drop, get_or, refl, ap, sym, ◌∙◌, arith, append_assoc, length-append}
use Rattle.std.proofs.lemmas.Bool.{lt-ltb}
use Rattle.std.proofs.lemmas.List.{append-nil}
use Rattle.std.specs.List.{AllByRecursion}
use Rattle.bsc_frame.specs.Body.{IsNormalText}
use Rattle.bsc_frame.specs.Inside.Listening.Data.{IsData}
use Rattle.bsc_frame.specs.Inside.Listening.HeardSoFar.{Text, On, next, with_byte}
use Rattle.bsc_frame.specs.Inside.Listening.Run.{run}
use Rattle.bsc_frame.proofs.FirstBad.{each_normal}
use Rattle.bsc_frame.proofs.Hearing.{run_on}
use Rattle.bsc_frame.proofs.NormalBytes.{passes}

-- each byte of a normal text is kept as it comes
pub normal_bytes : (bytes : List ℕ) → AllByRecursion IsNormalText bytes → (k : ℕ) → k < length bytes → IsData false (get_or bytes k 0)
normal_bytes bytes all k l = passes (get_or bytes k 0) (each_normal bytes all k l)

-- one, where there is room
with_room : (transparent : Bool) (text : List ℕ) (byte : ℕ) → length text < 512 → with_byte transparent text byte ≡ On (Text transparent (text ++ byte ∷ []))
with_room transparent text byte room = rw (lt-ltb (length text) 512 room) refl

one : (transparent : Bool) (text : List ℕ) (byte : ℕ) → IsData transparent byte → length text < 512
    → next (Text transparent text) byte ≡ On (Text transparent (text ++ byte ∷ []))
one false text byte is room = rw is (with_room false text byte room)
one true text byte is room = rw is (with_room true text byte room)

-- as many as there is room for
pub many : (transparent : Bool) (text bytes : List ℕ) (n : ℕ) → ((k : ℕ) → k < n → IsData transparent (get_or bytes k 0)) → n ≤ length bytes → length text + n ≤ 512
    → run (Text transparent (text ++ take n bytes)) (drop n bytes) ≡ run (Text transparent text) bytes
many transparent text bytes zero each within room = ap (λ (t : List ℕ). run (Text transparent t) bytes) (append-nil text)
many transparent text [] (suc n) each within room = absurd (omega (arith, within))
many transparent text (byte ∷ bytes) (suc n) each within room =
    ap (λ (t : List ℕ). run (Text transparent t) (drop n bytes)) (sym (append_assoc text (byte ∷ []) (take n bytes)))
    ∙ many transparent (text ++ byte ∷ []) bytes n (λ k l. each (suc k) (omega (arith, l))) (omega (arith, within)) (omega (arith, room, length-append text (byte ∷ [])))
    ∙ sym (run_on (Text transparent text) (Text transparent (text ++ byte ∷ [])) byte bytes (one transparent text byte (each 0 (omega arith)) (omega (arith, room))))
