-- The records that stand in a file are those that it spells.
use Rattle.std.proofs.Common.{◌≡◌, ℕ, zero, suc, ◌+◌, List, [], ◌∷◌, ◌++◌, length, take, drop, get_or, refl, ap, sym, ◌∙◌, subst, arith}
use Rattle.std.proofs.lemmas.List.{append_assoc, length-append, length-take, take-append-drop}
use Rattle.std.specs.List.{flat_map, AllByRecursion}
use Rattle.rje_text.specs.declared.record.Record.{Record}
use Rattle.rje_files.specs.JobFile.{record_bytes, action_byte, HasRoom}
use Rattle.rje_files.specs.Inside.Reading.Grammar.{Records}
use Rattle.rje_files.specs.Inside.Reading.Stored.{IsRecordHere, AreRecordsHere, record_in, records_in, behind_record, behind_records, action_in}
use Rattle.rje_files.proofs.ActionBytes.{action_read}
use Rattle.rje_files.proofs.Collected.{record_here, record_rest}

-- `n` records are there, and what is to follow them stands after them
pub records_here : (n : ℕ) (Rest : List ℕ → Type 0) (xs : List ℕ) → Records n Rest xs → AreRecordsHere n xs × Rest (behind_records n xs)
records_here zero Rest xs h = (tt, h)
records_here (suc n) Rest xs h =
    let more = records_here n Rest (behind_record xs) (record_rest n Rest xs h) in
    ((record_here n Rest xs h, more.0), more.1)

pub records_many : (n : ℕ) (xs : List ℕ) → length (records_in n xs) ≡ n
records_many zero xs = refl
records_many (suc n) xs = ap suc (records_many n (behind_record xs))

-- the record at the front has room for its data
room_of : (xs : List ℕ) → IsRecordHere xs → length (take (get_or xs 1 0) (drop 2 xs)) ≡ get_or xs 1 0
room_of xs h = omega (arith, length-take (get_or xs 1 0) (drop 2 xs), h.room)

pub record_fits : (xs : List ℕ) → IsRecordHere xs → HasRoom (record_in xs)
record_fits xs h = omega (arith, room_of xs h, h.limit)

pub records_fit : (n : ℕ) (xs : List ℕ) → AreRecordsHere n xs → AllByRecursion HasRoom (records_in n xs)
records_fit zero xs h = tt
records_fit (suc n) xs h = (record_fits xs h.0, records_fit n (behind_record xs) h.1)

-- the record at the front is spelled there
pub record_spelled : (xs : List ℕ) → IsRecordHere xs → xs ≡ record_bytes (record_in xs) ++ behind_record xs
record_spelled [] h = absurd (omega (arith, h.head))
record_spelled (a ∷ []) h = absurd (omega (arith, h.head))
record_spelled (a ∷ k ∷ ys) h =
    let code : action_byte (action_in a) ≡ a = action_read a h.action in
    let room : length (take k ys) ≡ k = room_of (a ∷ k ∷ ys) h in
    ap (λ (zs : List ℕ). a ∷ k ∷ zs) (sym (take-append-drop k ys))
    ∙ ap (λ (b : ℕ). b ∷ k ∷ (take k ys ++ drop k ys)) (sym code)
    ∙ ap (λ (n : ℕ). action_byte (action_in a) ∷ n ∷ (take k ys ++ drop k ys)) (sym room)

pub records_spelled : (n : ℕ) (xs : List ℕ) → AreRecordsHere n xs → xs ≡ flat_map record_bytes (records_in n xs) ++ behind_records n xs
records_spelled zero xs h = refl
records_spelled (suc n) xs h =
    record_spelled xs h.0
    ∙ ap (λ (zs : List ℕ). record_bytes (record_in xs) ++ zs) (records_spelled n (behind_record xs) h.1)
    ∙ sym (append_assoc (record_bytes (record_in xs)) (flat_map record_bytes (records_in n (behind_record xs))) (behind_records n (behind_record xs)))

-- one record less
pub others_here : (n m : ℕ) (xs : List ℕ) → n ≡ suc m → AreRecordsHere n xs → AreRecordsHere m (behind_record xs)
others_here n m xs e h =
    let these : AreRecordsHere (suc m) xs = subst (λ (k : ℕ). AreRecordsHere k xs) e h in
    these.1

pub first_here : (n m : ℕ) (xs : List ℕ) → n ≡ suc m → AreRecordsHere n xs → IsRecordHere xs
first_here n m xs e h =
    let these : AreRecordsHere (suc m) xs = subst (λ (k : ℕ). AreRecordsHere k xs) e h in
    these.0

pub collected_more : (n m : ℕ) (xs : List ℕ) (rs all : List Record) → n ≡ suc m → rs ++ records_in n xs ≡ all → (rs ++ record_in xs ∷ []) ++ records_in m (behind_record xs) ≡ all
collected_more n m xs rs all e h =
    append_assoc rs (record_in xs ∷ []) (records_in m (behind_record xs)) ∙ ap (λ (k : ℕ). rs ++ records_in k xs) (sym e) ∙ h

pub one_passed : (n m : ℕ) (xs : List ℕ) → n ≡ suc m → behind_records n xs ≡ behind_records m (behind_record xs)
one_passed n m xs e = ap (λ (k : ℕ). behind_records k xs) e

-- how many bytes they have
pub records_long : (n : ℕ) (xs behind : List ℕ) → AreRecordsHere n xs → behind ≡ behind_records n xs
    → length xs ≡ length (flat_map record_bytes (records_in n xs)) + length behind
records_long n xs behind h is =
    ap length (records_spelled n xs h) ∙ length-append (flat_map record_bytes (records_in n xs)) (behind_records n xs)
    ∙ ap (λ (ys : List ℕ). length (flat_map record_bytes (records_in n xs)) + length ys) (sym is)
