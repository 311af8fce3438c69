-- Bytes that are set where a file is, one after another.
use Rattle.std.proofs.Common.{◌≡◌, inl, inr, ℕ, take, drop, set, ◌+◌, ◌<◌, List, [], ◌∷◌, ◌++◌, length, Option, Some, Result, Ok, Err, OnOk, true, false, refl, sym, ◌∙◌, ap, subst, arith}
use Rattle.std.specs.Prelude.{nat_lt, IfSome, string_bytes}
use Rattle.std.proofs.lemmas.Bool.Decides.{nat_tests}
use Rattle.std.specs.declared.io.Error.{Error}
use Rattle.std.proofs.lemmas.List.{take-append-drop, take-set, drop-set, length-set}
use Rattle.rje_store.specs.declared.file_store.marked.MarkedFile.{MarkedFile}
use Rattle.rje_store.specs.Disk.{Asked, Call, Opened, Done, Open, WriteAt, SyncBytes, standing, bytes_of, came_to, seen_as, has_synced_bytes, IsOpened}
use Rattle.rje_store.specs.Replacing.{Adds, LeadsTo}
use Rattle.rje_store.specs.Growing.{IsOpening, MayOpen}
use Rattle.rje_store.specs.FileStore.{HasSet, IsSet, MayMark, MaySet, MaySettle}
use Rattle.rje_store.specs.Marked.{IsMarked}
use Rattle.rje_store.proofs.Replacing.{added_call, added_none, added_twice, added_weaker, same_name, same_number}

-- a list with an element set is its front, the element and the rest
set_parts : (xs : List ℕ) (i : ℕ) (y : ℕ) → i < length xs → take i xs ++ (y ∷ drop (i + 1) xs) ≡ set xs i y
set_parts xs i y h = sym (ap (λ (l : List ℕ). l ++ (y ∷ drop (i + 1) xs)) (take-set xs i y)) ∙ sym (ap (λ (l : List ℕ). take i (set xs i y) ++ l) (drop-set xs i y h)) ∙ take-append-drop i (set xs i y)

-- the file that a name leads to was opened
pub opened_may : {A : Type 0} (result : Result A Error) (leads : List ℕ → List ℕ → Type 0) (name path : List ℕ) (a b : List Asked)
    → IsOpened result path a b → LeadsTo leads name path → Adds (MayOpen leads name) a b
opened_may result leads name path a b (bytes, e, had) led = added_call (MayOpen leads name) a a b result (Open path bytes) (added_none (MayOpen leads name) a) e (path, bytes, led, refl)

-- an opened file stands under its path, with the bytes that it has
opened_stands : (path : List ℕ) (file : Opened) (had : List ℕ) (a : List Asked) → file ≡ record { name = path; number = seen_as path a }
    → (standing file.name (Done (Open path had) ∷ a) ≡ Some file.number) × (bytes_of file.number (Done (Open path had) ∷ a) ≡ Some had)
opened_stands path file had a e =
    subst (λ (f : Opened). (standing f.name (Done (Open path had) ∷ a) ≡ Some f.number) × (bytes_of f.number (Done (Open path had) ∷ a) ≡ Some had)) (sym e)
    (rw (same_name path) refl, rw (same_number (seen_as path a)) refl)

-- an opened file is as it is marked
pub opened_marked : {F : Type 0} (leads : List ℕ → List ℕ → Type 0) (opened : F → Opened) (marked : MarkedFile F) (path had : List ℕ) (a b : List Asked)
    → LeadsTo leads (string_bytes marked.name) path → b ≡ Done (Open path had) ∷ a → opened marked.file ≡ record { name = path; number = seen_as path a }
    → IfSome (bytes_of (opened marked.file).number b) (λ bytes. marked.len ≡ length bytes) → IsMarked leads opened marked b
opened_marked leads opened marked path had a b led e is known =
    let both : (standing (opened marked.file).name (Done (Open path had) ∷ a) ≡ Some (opened marked.file).number) × (bytes_of (opened marked.file).number (Done (Open path had) ∷ a) ≡ Some had) =
    opened_stands path (opened marked.file) had a is in
    let has : bytes_of (opened marked.file).number b ≡ Some had = ap (bytes_of (opened marked.file).number) e ∙ both.1 in record {
      bytes = had;
      led = subst (λ (n : List ℕ). LeadsTo leads (string_bytes marked.name) n) (sym (ap (λ (f : Opened). f.name) is)) led;
      stands = ap (standing (opened marked.file).name) e ∙ both.0;
      has = has;
      len = subst (λ (o : Option (List ℕ)). IfSome o (λ bytes. marked.len ≡ length bytes)) has known;
    }

-- a byte that is written where the file is, and put on disk
marked_bytes : (file : Opened) (place byte : ℕ) (had : List ℕ) (before : List Asked) → bytes_of file.number before ≡ Some had → place < length had
    → bytes_of file.number (Done (SyncBytes file) ∷ Done (WriteAt file place (byte ∷ [])) ∷ before) ≡ Some (set had place byte)
marked_bytes file place byte had before has h =
    let long : nat_lt (length had) place ≡ false = grind (arith, nat_tests) in
    rw (same_number file.number, has, long) (ap (λ (l : List ℕ). Some l) (set_parts had place byte h))

marked_synced : (file : Opened) (place byte : ℕ) (before : List Asked) → has_synced_bytes file.number (Done (SyncBytes file) ∷ Done (WriteAt file place (byte ∷ [])) ∷ before) ≡ true
marked_synced file place byte before = rw (same_number file.number) refl

-- what was asked to set a byte of an open file
pub written_may : {A : Type 0} (result : Result A Error) (file : Opened) (place byte : ℕ) (a b : List Asked) → b ≡ came_to result (WriteAt file place (byte ∷ [])) ∷ a
    → Adds (MayMark file place byte) a b
written_may result file place byte a b e =
    added_call (MayMark file place byte) a a b result (WriteAt file place (byte ∷ [])) (added_none (MayMark file place byte) a) e (inl refl)

pub synced_may : {A : Type 0} (result : Result A Error) (file : Opened) (place byte : ℕ) (a b c : List Asked) → Adds (MayMark file place byte) a b
    → c ≡ came_to result (SyncBytes file) ∷ b → Adds (MayMark file place byte) a c
synced_may result file place byte a b c adds e = added_call (MayMark file place byte) a b c result (SyncBytes file) adds e (inr refl)

-- what was done to an open file
both_done : {A : Type 0} (result : Result A Error) (file : Opened) (place byte : ℕ) (a b c : List Asked) → b ≡ Done (WriteAt file place (byte ∷ [])) ∷ a → c ≡ came_to result (SyncBytes file) ∷ b
    → OnOk result (c ≡ Done (SyncBytes file) ∷ Done (WriteAt file place (byte ∷ [])) ∷ a)
both_done (Err _) file place byte a b c written synced = tt
both_done (Ok _) file place byte a b c written synced = synced ∙ ap (λ (l : List Asked). Done (SyncBytes file) ∷ l) written

-- the byte is set, where its bytes are put on disk
byte_is_set : {F : Type 0} (leads : List ℕ → List ℕ → Type 0) (opened : F → Opened) (marked : MarkedFile F) (place byte : ℕ) (a c : List Asked) → IsMarked leads opened marked a
    → place < marked.len → Adds (MayMark (opened marked.file) place byte) a c → c ≡ Done (SyncBytes (opened marked.file)) ∷ Done (WriteAt (opened marked.file) place (byte ∷ [])) ∷ a
    → IsSet (opened marked.file) place byte a c
byte_is_set leads opened marked place byte a c m h adds e =
    let file = opened marked.file in
    let room : place < length m.bytes = omega (arith, h, m.len) in record {
      had = m.bytes;
      stood = m.stands;
      bytes = m.has;
      room = room;
      asks = adds;
      stands = ap (standing file.name) e ∙ m.stands;
      has = ap (bytes_of file.number) e ∙ marked_bytes file place byte m.bytes a m.has room;
      synced = ap (has_synced_bytes file.number) e ∙ marked_synced file place byte a;
    }

pub set_done : {A F : Type 0} (result : Result A Error) (leads : List ℕ → List ℕ → Type 0) (opened : F → Opened) (marked : MarkedFile F) (place byte : ℕ) (a b c : List Asked)
    → IsMarked leads opened marked a → place < marked.len → b ≡ Done (WriteAt (opened marked.file) place (byte ∷ [])) ∷ a → c ≡ came_to result (SyncBytes (opened marked.file)) ∷ b
    → Adds (MayMark (opened marked.file) place byte) a c → OnOk result (IsSet (opened marked.file) place byte a c)
set_done (Err _) leads opened marked place byte a b c m h written synced adds = tt
set_done (Ok value) leads opened marked place byte a b c m h written synced adds =
    byte_is_set leads opened marked place byte a c m h adds (both_done (Ok value) (opened marked.file) place byte a b c written synced)

-- and the file stays as it is marked
pub stays_marked : {A F : Type 0} (result : Result A Error) (leads : List ℕ → List ℕ → Type 0) (opened : F → Opened) (marked : MarkedFile F) (place byte : ℕ) (a b c : List Asked)
    → IsMarked leads opened marked a → place < marked.len → b ≡ Done (WriteAt (opened marked.file) place (byte ∷ [])) ∷ a → c ≡ came_to result (SyncBytes (opened marked.file)) ∷ b
    → OnOk result (IsMarked leads opened marked c)
stays_marked (Err _) leads opened marked place byte a b c m h written synced = tt
stays_marked (Ok value) leads opened marked place byte a b c m h written synced =
    let file = opened marked.file in
    let room : place < length m.bytes = omega (arith, h, m.len) in
    let e : c ≡ Done (SyncBytes file) ∷ Done (WriteAt file place (byte ∷ [])) ∷ a = both_done (Ok value) file place byte a b c written synced in record {
      bytes = set m.bytes place byte;
      led = m.led;
      stands = ap (standing file.name) e ∙ m.stands;
      has = ap (bytes_of file.number) e ∙ marked_bytes file place byte m.bytes a m.has room;
      len = m.len ∙ sym (length-set m.bytes place byte);
    }

-- the file that a name leads to is opened, if that, and a byte of it set
opening_sets : (leads : List ℕ → List ℕ → Type 0) (name : List ℕ) (place byte : ℕ) (call : Call) (before : List Asked) → MayOpen leads name call before → MaySet leads name place byte call before
opening_sets leads name place byte call before (path, bytes, led, e) = (path, led, inl (bytes, e))

pub opened_to_set : (leads : List ℕ → List ℕ → Type 0) (name : List ℕ) (place byte : ℕ) (a b : List Asked) → Adds (MayOpen leads name) a b → Adds (MaySet leads name place byte) a b
opened_to_set leads name place byte a b adds = added_weaker (MayOpen leads name) (MaySet leads name place byte) (opening_sets leads name place byte) a b adds

pub marked_to_set : (leads : List ℕ → List ℕ → Type 0) (name : List ℕ) (file : Opened) (place byte : ℕ) (a b c : List Asked) → LeadsTo leads name file.name → Adds (MayOpen leads name) a b
    → Adds (MayMark file place byte) b c → Adds (MaySet leads name place byte) a c
marked_to_set leads name file place byte a b c led opens marks =
    added_twice (MaySet leads name place byte) a b c (opened_to_set leads name place byte a b opens)
    (added_weaker (MayMark file place byte) (MaySet leads name place byte) (λ call before may. (file.name, led, inr (file, refl, may))) b c marks)

is_an_opening : (leads : List ℕ → List ℕ → Type 0) (name : List ℕ) (call : Call) (before : List Asked) → MayOpen leads name call before → IsOpening call before
is_an_opening leads name call before (path, bytes, led, e) = inl (path, bytes, e)

pub opened_and_set : (leads : List ℕ → List ℕ → Type 0) (name : List ℕ) (file : Opened) (place byte : ℕ) (a b c : List Asked) → LeadsTo leads name file.name → Adds (MayOpen leads name) a b
    → IsSet file place byte b c → HasSet leads name place byte a c
opened_and_set leads name file place byte a b c led opens sets = (file, b, led, added_weaker (MayOpen leads name) IsOpening (is_an_opening leads name) a b opens, sets)

-- the growth of a file was given up before
settling_opens : (copy : Option (List ℕ)) (call : Call) (before : List Asked) → MaySettle copy call before → IsOpening call before
settling_opens copy call before (name, e, is) = inr (name, is)

pub settled_and_set : (copy : Option (List ℕ)) (leads : List ℕ → List ℕ → Type 0) (name : List ℕ) (place byte : ℕ) (a b c : List Asked) → Adds (MaySettle copy) a b
    → HasSet leads name place byte b c → HasSet leads name place byte a c
settled_and_set copy leads name place byte a b c settles (file, opened, led, opens, sets) =
    (file, opened, led, added_twice IsOpening a b opened (added_weaker (MaySettle copy) IsOpening (settling_opens copy) a b settles) opens, sets)
