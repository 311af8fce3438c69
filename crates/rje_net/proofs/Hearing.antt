-- How what was brought, read after read, makes up what was read of a stream, and how what was written, write after write, makes up a front of
-- the bytes. Known bytes are told apart from unknown ones first; the rest is how lists join.
use Rattle.std.proofs.Common.{◌≡◌, ℕ, ◌+◌, ◌-◌, ◌<◌, ◌≤◌, List, [], ◌∷◌, ◌++◌, length, refl, sym, ap, subst, ◌∙◌, arith}
use Rattle.std.specs.Prelude.{Option, None, Some, Result, Ok, Err, IfOk, take, drop}
use Rattle.std.specs.Io.KnownBytes.{Appends, Consumes}
use Rattle.std.proofs.lemmas.List.{append-nil, append_assoc, length-drop, take_all}
use Rattle.rje_text.proofs.Fronts.{take_split}
use Rattle.rje_station.specs.declared.came.Came.{Came}
use Rattle.rje_station.specs.declared.line_fault.LineFault.{LineFault}
use Rattle.rje_net.specs.Hearing.{Brought, HandsOn, LineKeeps, Listens, MayAwait, bytes_of}

pub none_consumed : (a : Option (List ℕ)) → Consumes a a []
none_consumed None = tt
none_consumed (Some x) = refl

pub consumes_more : (a m c : Option (List ℕ)) (bs cs : List ℕ) → Consumes a m bs → Consumes m c cs → Consumes a c (bs ++ cs)
consumes_more None m c bs cs p q = tt
consumes_more (Some x) None c bs cs p q = absurd p
consumes_more (Some x) (Some y) None bs cs p q = absurd q
consumes_more (Some x) (Some y) (Some z) bs cs p q = p ∙ ap (λ l. bs ++ l) q ∙ sym (append_assoc bs cs z)

pub consumes_nothing_more : (a m c : Option (List ℕ)) (bs : List ℕ) → Consumes a m bs → Consumes m c [] → Consumes a c bs
consumes_nothing_more a m c bs p q = subst (Consumes a c) (append-nil bs) (consumes_more a m c bs [] p q)

-- one thing more was brought
pub brings_more : (a m c : Option (List ℕ)) (newest : Brought) (past : List Brought)
    → Consumes a m (bytes_of past) → Consumes m c (bytes_of (newest ∷ [])) → Consumes a c (bytes_of (newest ∷ past))
brings_more a m c (Brought.Piece bytes) past p q = consumes_more a m c (bytes_of past) bytes p q
brings_more a m c Brought.Vain past p q = consumes_nothing_more a m c (bytes_of past) p q

bytes_of-append : (second first : List Brought) → bytes_of (second ++ first) ≡ bytes_of first ++ bytes_of second
bytes_of-append [] first = sym (append-nil (bytes_of first))
bytes_of-append (Brought.Piece bytes ∷ past) first =
    ap (λ l. l ++ bytes) (bytes_of-append past first) ∙ append_assoc (bytes_of first) (bytes_of past) bytes
bytes_of-append (Brought.Vain ∷ past) first = bytes_of-append past first

-- what was brought first, and then what was brought after it
pub brings_all : (a m c : Option (List ℕ)) (first second : List Brought)
    → Consumes a m (bytes_of first) → Consumes m c (bytes_of second) → Consumes a c (bytes_of (second ++ first))
brings_all a m c first second p q =
    subst (Consumes a c) (sym (bytes_of-append second first)) (consumes_more a m c (bytes_of first) (bytes_of second) p q)

-- a front of the bytes was written, and then a front of the others
pub writes_more : (a m c : Option (List ℕ)) (place n : ℕ) (bytes : List ℕ)
    → Appends a m (take place bytes) → Appends m c (take n (drop place bytes)) → Appends a c (take (place + n) bytes)
writes_more None m c place n bytes p q = tt
writes_more (Some x) None c place n bytes p q = absurd p
writes_more (Some x) (Some y) None place n bytes p q = absurd q
writes_more (Some x) (Some y) (Some z) place n bytes p q =
    q ∙ ap (λ l. l ++ take n (drop place bytes)) p ∙ append_assoc x (take place bytes) (take n (drop place bytes)) ∙ ap (λ l. x ++ l) (sym (take_split place n bytes))

-- an answer was awaited, if one was due, and then the station was handed something
pub hears_all : (a mid b : LineKeeps) (first second : List Brought) (heard : Result Came LineFault) (piece : List ℕ) → MayAwait a first mid
    → IfOk heard (λ came. HandsOn mid second came piece b) → IfOk heard (λ came. Listens a (second ++ first) came piece b)
hears_all a mid b first second (Ok came) piece awaits hands =
    record { mid = mid; first = first; second = second; all = refl; awaits = awaits; hands = hands }
hears_all a mid b first second (Err fault) piece awaits hands = tt

-- the rest of the bytes, as it is cut off
rest_whole : (place : ℕ) (bytes : List ℕ) → take (length bytes - place) (drop place bytes) ≡ drop place bytes
rest_whole place bytes = take_all (length bytes - place) (drop place bytes) (omega (arith, length-drop place bytes))

pub rest_fits : (place n : ℕ) (bytes : List ℕ) → place < length bytes → n ≤ length (take (length bytes - place) (drop place bytes)) → place + n ≤ length bytes
rest_fits place n bytes before few = omega (arith, before, few, ap length (rest_whole place bytes), length-drop place bytes)

pub writes_rest : (a m c : Option (List ℕ)) (place n : ℕ) (bytes : List ℕ)
    → Appends a m (take place bytes) → Appends m c (take n (take (length bytes - place) (drop place bytes))) → Appends a c (take (place + n) bytes)
writes_rest a m c place n bytes p q = writes_more a m c place n bytes p (subst (λ rest. Appends m c (take n rest)) (rest_whole place bytes) q)
