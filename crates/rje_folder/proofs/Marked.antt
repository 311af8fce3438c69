-- A byte of a file that is marked where the file is: call after call.
use Rattle.std.proofs.Common.{◌≡◌, inl, inr, ℕ, take, drop, set, ◌+◌, ◌<◌, List, [], ◌∷◌, ◌++◌, length, Option, Some, Result, Ok, Err, OnOk, true, false, if◌then◌else◌, refl, sym, ◌∙◌, ap, subst, arith}
use Rattle.std.specs.Prelude.{bytes_eq, nat_eq, nat_lt, option_and_then, IfSome}
use Rattle.std.proofs.lemmas.Bool.Decides.{nat_tests}
use Rattle.std.specs.declared.io.Error.{Error}
use Rattle.std.proofs.lemmas.List.{take-append-drop, take-set, drop-set}
use Rattle.rje_store.specs.Disk.{Asked, Call, Opened, Done, Refused, Failed, Open, WriteAt, SyncBytes, call_of, standing, bytes_of, came_to, seen_as, overwritten, has_synced_bytes, has_synced_name, IsOpened}
use Rattle.rje_store.specs.Growing.{bytes_under}
use Rattle.rje_store.specs.Replacing.{Adds, Each}
use Rattle.rje_store.proofs.Replacing.{added_call, added_none, same_name, same_number, whatever_came}
use Rattle.rje_folder.specs.Marking.{HasOnDisk, IsMarked, MayMark}

-- the file was opened, to have a byte marked
pub opened_may : {A : Type 0} (result : Result A Error) (path : List ℕ) (place mark : ℕ) (a b : List Asked) → IsOpened result path a b → Adds (MayMark path place mark) a b
opened_may result path place mark a b (bytes, e, had) = added_call (MayMark path place mark) a a b result (Open path bytes) (added_none (MayMark path place mark) a) e (inl (bytes, refl))

-- a file that was opened is as long as the bytes that it had
pub length_of_opened : (path : List ℕ) (number len : ℕ) (had : List ℕ) (a b : List Asked) → b ≡ Done (Open path had) ∷ a → number ≡ seen_as path a
    → IfSome (bytes_of number b) (λ bytes. len ≡ length bytes) → len ≡ length had
length_of_opened path number len had a b e n known =
    let is : bytes_of number b ≡ Some had = ap (bytes_of number) e ∙ rw n (rw (same_number (seen_as path a)) refl) in
    subst (λ (o : Option (List ℕ)). IfSome o (λ bytes. len ≡ length bytes)) is known

-- and the byte was written
pub written_may : {A B : Type 0} (opened : Result A Error) (result : Result B Error) (path : List ℕ) (file : Opened) (place mark : ℕ) (a b c : List Asked) → IsOpened opened path a b → file.name ≡ path
    → c ≡ came_to result (WriteAt file place (mark ∷ [])) ∷ b → Adds (MayMark path place mark) a c
written_may opened result path file place mark a b c was is made =
    added_call (MayMark path place mark) a b c result (WriteAt file place (mark ∷ [])) (opened_may opened path place mark a b was) made (inr (file, is, inl refl))

-- a list with an element set is its front, the element and the rest
set_parts : (xs : List ℕ) (i y : ℕ) → i < length xs → take i xs ++ (y ∷ drop (i + 1) xs) ≡ set xs i y
set_parts xs i y h = sym (ap (λ (l : List ℕ). l ++ (y ∷ drop (i + 1) xs)) (take-set xs i y)) ∙ sym (ap (λ (l : List ℕ). take i (set xs i y) ++ l) (drop-set xs i y h)) ∙ take-append-drop i (set xs i y)

-- the file has its bytes with this one then
has_mark : (path : List ℕ) (file : Opened) (place mark : ℕ) (had : List ℕ) (before : List Asked) → file ≡ record { name = path; number = seen_as path before } → place < length had
    → HasOnDisk path (set had place mark) (Done (SyncBytes file) ∷ Done (WriteAt file place (mark ∷ [])) ∷ Done (Open path had) ∷ before)
has_mark path file place mark had before e h =
    let number = seen_as path before in
    let stands : (if bytes_eq path path then Some number else standing path before) ≡ Some number = rw (same_name path) refl in
    let long : nat_lt (length had) place ≡ false = grind (arith, nat_tests) in
    let has : (if nat_eq number number then option_and_then (overwritten place (mark ∷ [])) (if nat_eq number number then Some had else bytes_of number before) else (if nat_eq number number then Some had else bytes_of number before))
    ≡ Some (set had place mark) = rw (same_number number, long) (ap (λ (l : List ℕ). Some l) (set_parts had place mark h)) in
    let synced : (if nat_eq number number then true else (if nat_eq number number then false else has_synced_bytes number before)) ≡ true = rw (same_number number) refl in
    subst (λ (f : Opened). HasOnDisk path (set had place mark) (Done (SyncBytes f) ∷ Done (WriteAt f place (mark ∷ [])) ∷ Done (Open path had) ∷ before)) (sym e) (number, stands, has, synced)

-- once its bytes are put on disk
pub marked_done : {A : Type 0} (result : Result A Error) (path : List ℕ) (file : Opened) (place mark : ℕ) (had : List ℕ) (a b c d : List Asked)
    → b ≡ Done (Open path had) ∷ a → IfSome (bytes_under path a) (λ known. had ≡ known) → file ≡ record { name = path; number = seen_as path a } → place < length had
    → c ≡ Done (WriteAt file place (mark ∷ [])) ∷ b → d ≡ came_to result (SyncBytes file) ∷ c → OnOk result (IsMarked path place mark a d)
marked_done (Err _) path file place mark had a b c d opened known is h written synced = tt
marked_done (Ok _) path file place mark had a b c d opened known is h written synced =
    let all : d ≡ Done (SyncBytes file) ∷ Done (WriteAt file place (mark ∷ [])) ∷ Done (Open path had) ∷ a =
    synced ∙ ap (λ (l : List Asked). Done (SyncBytes file) ∷ l) (written ∙ ap (λ (l : List Asked). Done (WriteAt file place (mark ∷ [])) ∷ l) opened) in
    (had, known, h, subst (HasOnDisk path (set had place mark)) (sym all) (has_mark path file place mark had a is h))

-- whatever is asked to mark a byte leaves each name on disk
abbrev Leaves : (name : List ℕ) (before : List Asked) → Call → Type 0
Leaves name before call = (has_synced_name name (Done call ∷ before) ≡ true) × (has_synced_name name (Refused call ∷ before) ≡ true) × (has_synced_name name (Failed call ∷ before) ≡ true)

mark_leaves : (path name : List ℕ) (place mark : ℕ) (call : Call) (before : List Asked) → MayMark path place mark call before → has_synced_name name before ≡ true → Leaves name before call
mark_leaves path name place mark call before (inl (bytes, e)) h = subst (Leaves name before) (sym e) (h, h, h)
mark_leaves path name place mark call before (inr (file, is, inl e)) h = subst (Leaves name before) (sym e) (h, h, h)
mark_leaves path name place mark call before (inr (file, is, inr e)) h = subst (Leaves name before) (sym e) (h, h, h)

marks_leave : (path name : List ℕ) (place mark : ℕ) (calls before : List Asked) → Each (MayMark path place mark) calls before → has_synced_name name before ≡ true → has_synced_name name (calls ++ before) ≡ true
marks_leave path name place mark [] before each h = h
marks_leave path name place mark (asked ∷ calls) before (one, each) h =
    let all = calls ++ before in
    let parts : Leaves name all (call_of asked) = mark_leaves path name place mark (call_of asked) all one (marks_leave path name place mark calls before each h) in
    whatever_came (λ x. has_synced_name name (x ∷ all) ≡ true) asked parts.0 parts.1 parts.2

pub mark_stays : (path name : List ℕ) (place mark : ℕ) (a b : List Asked) → Adds (MayMark path place mark) a b → has_synced_name name a ≡ true → has_synced_name name b ≡ true
mark_stays path name place mark a b (calls, e, each) h = ap (has_synced_name name) e ∙ marks_leave path name place mark calls a each h
