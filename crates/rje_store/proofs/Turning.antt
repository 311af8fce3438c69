-- A file that grows, and the copy that is older.
use Rattle.std.proofs.Common.{◌≡◌, ◌≢◌, inl, inr, ℕ, drop, ◌+◌, ◌-◌, ◌<◌, ◌≤◌, List, [], ◌∷◌, ◌++◌, length, Option, Some, None, Result, Ok, Err, OnOk, true, false, if◌then◌else◌, Global, refl, sym, ◌∙◌, ap, subst, append_assoc, length-append, length-drop, arith}
use Rattle.std.specs.Prelude.{bytes_eq, nat_eq, nat_lt, option_and_then, option_map, IfOk, IfSome, string_bytes, String}
use Rattle.std.specs.IoError.{error_kind}
use Rattle.std.specs.declared.io.Error.{Error}
use Rattle.std.specs.declared.io.ErrorKind.{ErrorKind}
use Rattle.std.proofs.lemmas.Bool.{false_from_ne_true, eqb-true}
use Rattle.std.proofs.lemmas.Bool.Decides.{nat_tests}
use Rattle.std.proofs.lemmas.Slice.Eq.{bytes_eq-Decides}
use Rattle.std.proofs.lemmas.Option.{same_Some}
use Rattle.std.proofs.lemmas.List.{drop-drop, drop-append-le, drop_all}
use Rattle.rje_files.specs.Growth.{grown}
use Rattle.rje_store.specs.Disk.{Asked, Call, Opened, Done, Refused, Failed, Open, GoOn, WriteAt, Sync, Rename, Link, call_of, came_to, failed_by, standing, bytes_of, is_synced, overwritten, IsOpened}
use Rattle.rje_store.specs.Replacing.{Adds, Each, Either, IsBeside, IsOnDisk, IsPrivate, IsWhole, LeadsTo, MayReplace, MayTry}
use Rattle.rje_store.specs.declared.file_store.growing.Growing.{Growing}
use Rattle.rje_store.specs.declared.file_store.growing.Older.{Older}
use Rattle.rje_store.specs.Growing.{Agrees, IsGrowing, IsNewest, IsOlder, IsOpening, MayGrow, MayOpen, bytes_under}
use Rattle.rje_store.specs.FileStore.{MaySettle}
use Rattle.rje_store.specs.Inside.Filling.{AreTwo, HasGrown, HasTurned, IsNamed, IsSecond, KeepsNames, MayFill, MayLink, Turns}
use Rattle.rje_store.proofs.Replacing.{added_none, added_call, added_weaker, filled_keeps, giving_is, not_beside, private_later, same_name, same_number, standing_below, synced_keeps, whatever_came}

-- numbers that differ
pub other_number : (m n : ℕ) → m ≢ n → nat_eq m n ≡ false
other_number m n h = false_from_ne_true (nat_eq m n) (λ e. h (eqb-true m n e))

-- an older copy that agrees with a file becomes that file with a piece in front and another at its end
pub agreeing_grows : (front : ℕ) (piece tail bytes had : List ℕ) → Agrees front bytes had → front ≤ length piece → length piece ≤ length had
    → piece ++ drop (length piece) (bytes ++ (drop (length bytes) had ++ tail)) ≡ grown piece tail had
agreeing_grows front piece tail bytes had (short, agrees) room fits =
    let n = length piece in
    let all = bytes ++ drop (length bytes) had in
    let long : length all ≡ length had = length-append bytes (drop (length bytes) had) ∙ ap (λ (k : ℕ). length bytes + k) (length-drop (length bytes) had) ∙ omega arith in
    let count : front + (n - front) ≡ n = omega arith in
    let rest : drop n all ≡ drop n had =
    ap (λ (k : ℕ). drop k all) (sym count) ∙ sym (drop-drop (n - front) front all) ∙ ap (drop (n - front)) agrees ∙ drop-drop (n - front) front had ∙ ap (λ (k : ℕ). drop k had) count in
    ap (λ (l : List ℕ). piece ++ l)
    (ap (drop n) (sym (append_assoc bytes (drop (length bytes) had) tail)) ∙ drop-append-le n all tail (omega (arith, long)) ∙ ap (λ (l : List ℕ). l ++ tail) rest)

-- what a file was before it grew agrees with it from the piece in front on
pub grown_agrees : (piece tail had : List ℕ) → length piece ≤ length had → Agrees (length piece) had (grown piece tail had)
grown_agrees piece tail had fits =
    let n = length piece in
    let rest = drop n had ++ tail in
    let long : length (grown piece tail had) ≡ length piece + length rest = length-append piece rest in
    let size : length rest ≡ length (drop n had) + length tail = length-append (drop n had) tail in
    let left : length (drop n had) ≡ length had - n = length-drop n had in
    let count : n + (length had - n) ≡ length had = omega arith in
    let tail_is : drop (length had) (grown piece tail had) ≡ tail =
    ap (λ (k : ℕ). drop k (grown piece tail had)) (sym count) ∙ sym (drop-drop (length had - n) n (grown piece tail had))
    ∙ ap (drop (length had - n)) (front_off piece rest)
    ∙ drop-append-le (length had - n) (drop n had) tail (omega (arith, left))
    ∙ ap (λ (l : List ℕ). l ++ tail) (drop_all (length had - n) (drop n had) (omega (arith, left))) in (
      omega (arith, long, size, left),
      drop-append-le n had (drop (length had) (grown piece tail had)) fits ∙ ap (λ (l : List ℕ). drop n had ++ l) tail_is ∙ sym (front_off piece rest),
    ) where
      front_off : (p r : List ℕ) → drop (length p) (p ++ r) ≡ r
      front_off p r = drop-append-le (length p) p r (omega arith) ∙ ap (λ (l : List ℕ). l ++ r) (drop_all (length p) p (omega arith))

pub grown_long : (piece tail had : List ℕ) → length piece ≤ length had → length (grown piece tail had) ≡ length had + length tail
grown_long piece tail had fits =
    let rest = drop (length piece) had ++ tail in
    omega (arith, length-append piece rest, length-append (drop (length piece) had) tail, length-drop (length piece) had)

-- a piece that is written in front of a file
front_written : (n : ℕ) (o : Option (List ℕ)) (all front : List ℕ) → o ≡ Some all → (if nat_eq n n then option_and_then (overwritten 0 front) o else o) ≡ Some (front ++ drop (length front) all)
front_written n o all front e =
    let none_short : nat_lt (length all) 0 ≡ false = grind (arith, nat_tests) in
    subst (λ (x : Option (List ℕ)). (if nat_eq n n then option_and_then (overwritten 0 front) x else x) ≡ Some (front ++ drop (length front) all)) (sym e)
    (rw (same_number n, none_short) (ap (λ (k : ℕ). Some (front ++ drop k all)) (omega arith)))

-- the three calls that make an older copy the newest
pub turns : (file from : Opened) (place : ℕ) (front tail : List ℕ) (before : List Asked) → ((bytes : List ℕ) → bytes_of file.number before ≡ Some bytes → place ≡ length bytes)
    → Turns file from front tail before (Done (Sync file) ∷ Done (WriteAt file 0 front) ∷ Done (GoOn file from place tail) ∷ before)
turns file from place front tail before len bytes had is other =
    let all = bytes ++ (drop (length bytes) had ++ tail) in
    let number = file.number in
    let gone : bytes_of number (Done (GoOn file from place tail) ∷ before) ≡ Some all =
    subst (λ (k : ℕ). bytes_of number (Done (GoOn file from k tail) ∷ before) ≡ Some all) (sym (len bytes is)) (rw (same_number number, is, other, same_number (length bytes)) refl) in
    (front_written number (bytes_of number (Done (GoOn file from place tail) ∷ before)) all front gone, rw (same_number number) refl)

pub turns_done : {A : Type 0} (result : Result A Error) (file from : Opened) (place : ℕ) (front tail : List ℕ) (a b c d : List Asked)
    → IfSome (bytes_of file.number a) (λ bytes. place ≡ length bytes) → b ≡ Done (GoOn file from place tail) ∷ a → c ≡ Done (WriteAt file 0 front) ∷ b → d ≡ came_to result (Sync file) ∷ c
    → OnOk result (Turns file from front tail a d)
turns_done (Err _) file from place front tail a b c d len gone written synced = tt
turns_done (Ok _) file from place front tail a b c d len gone written synced =
    let all : d ≡ Done (Sync file) ∷ Done (WriteAt file 0 front) ∷ Done (GoOn file from place tail) ∷ a =
    synced ∙ ap (λ (l : List Asked). Done (Sync file) ∷ l) (written ∙ ap (λ (l : List Asked). Done (WriteAt file 0 front) ∷ l) gone) in
    subst (λ (l : List Asked). Turns file from front tail a l) (sym all)
    (turns file from place front tail a (λ bytes is. subst (λ (o : Option (List ℕ)). IfSome o (λ held. place ≡ length held)) is len))

-- a call that failed, whatever the error says
failed_is : (P : Asked → Type 0) (kind : ErrorKind) (call : Call) → P (Refused call) → P (Failed call) → P (failed_by kind call)
failed_is P ErrorKind.InvalidInput call p q = p
failed_is P _ call p q = q

-- a second name leaves each name that stands
pub link_keeps : {A : Type 0} (result : Result A Error) (path name : List ℕ) (a b : List Asked) → b ≡ came_to result (Link path name) ∷ a → OnOk result (standing name a ≡ None) → KeepsNames a b
link_keeps (Ok _) path name a b made free = record {
  keep = λ other number stands.
      let differ : bytes_eq other name ≡ false = false_from_ne_true (bytes_eq other name) (λ h. let same : other ≡ name = (bytes_eq-Decides other name).0 h in cc) in
      subst (λ (l : List Asked). standing other l ≡ Some number) (sym made) (rw differ stands);
}
link_keeps (Err error) path name a b made free = record {
  keep = λ other number stands.
      subst (λ (l : List Asked). standing other l ≡ Some number) (sym made) (failed_is (λ x. standing other (x ∷ a) ≡ Some number) (error_kind error) (Link path name) stands stands);
}

pub keeps_twice : (a b c : List Asked) → KeepsNames a b → KeepsNames b c → KeepsNames a c
keeps_twice a b c p q = record { keep = λ name number stands. q.keep name number (p.keep name number stands) }

-- what second names leave as it was: the path, and each file
abbrev Left : (path : List ℕ) → List Asked → List Asked → Type 0
Left path before after = (standing path after ≡ standing path before) × ((n : ℕ) → bytes_of n after ≡ bytes_of n before) × ((n : ℕ) → is_synced n after ≡ is_synced n before)

link_leaves : (path : List ℕ) (call : Call) (before : List Asked) → MayLink path call before
    → Left path before (Done call ∷ before) × Left path before (Refused call ∷ before) × Left path before (Failed call ∷ before)
link_leaves path call before (name, beside, e) =
    let IsLeft : Call → Type 0 = λ c. Left path before (Done c ∷ before) × Left path before (Refused c ∷ before) × Left path before (Failed c ∷ before) in
    subst IsLeft (sym e) ((rw (not_beside path name beside) refl, λ n. refl, λ n. refl), (refl, λ n. refl, λ n. refl), (refl, λ n. refl, λ n. refl))

links_left : (path : List ℕ) (calls before : List Asked) → Each (MayLink path) calls before → Left path before (calls ++ before)
links_left path [] before each = (refl, λ n. refl, λ n. refl)
links_left path (asked ∷ calls) before (one, each) =
    let rest : Left path before (calls ++ before) = links_left path calls before each in
    let parts : Left path (calls ++ before) (Done (call_of asked) ∷ (calls ++ before)) × Left path (calls ++ before) (Refused (call_of asked) ∷ (calls ++ before)) × Left path (calls ++ before) (Failed (call_of asked) ∷ (calls ++ before))
    = link_leaves path (call_of asked) (calls ++ before) one in
    let last : Left path (calls ++ before) (asked ∷ (calls ++ before)) = whatever_came (λ x. Left path (calls ++ before) (x ∷ (calls ++ before))) asked parts.0 parts.1 parts.2 in
    (last.0 ∙ rest.0, λ n. last.1 n ∙ rest.1 n, λ n. last.2 n ∙ rest.2 n)

pub linked_left : (path : List ℕ) (a b : List Asked) → Adds (MayLink path) a b → Left path a b
linked_left path a b (calls, e, each) = subst (λ (l : List Asked). Left path a l) (sym e) (links_left path calls a each)

pub linked_may : (path bytes : List ℕ) (a b : List Asked) → Adds (MayLink path) a b → Adds (MayReplace path bytes) a b
linked_may path bytes a b adds = added_weaker (MayLink path) (MayReplace path bytes) (λ call before (name, beside, e). subst (λ c. MayReplace path bytes c before) (sym e) (refl, beside)) a b adds

pub linked_whole : (path name bytes : List ℕ) (a b : List Asked) → Adds (MayLink path) a b → KeepsNames a b → IsWhole name bytes a → IsWhole name bytes b
linked_whole path name bytes a b adds keeps (number, stands, has, is) =
    let left : Left path a b = linked_left path a b adds in
    (number, keeps.keep name number stands, left.1 number ∙ has, left.2 number ∙ is)

-- the second name that a link gave
pub linked_second : (path name : List ℕ) (a b c : List Asked) → IsBeside path name → Adds (MayLink path) a b → c ≡ Done (Link path name) ∷ b → IsSecond path name a c
linked_second path name a b c beside adds made =
    let left : Left path a b = linked_left path a b adds in
    let stands : standing name (Done (Link path name) ∷ b) ≡ standing path b = rw (same_name name) refl in
    (beside, ap (standing name) made ∙ stands ∙ left.0)

-- a name beside a path isn't the path
beside_not : (path name : List ℕ) → IsBeside path name → bytes_eq name path ≡ false
beside_not path name beside = false_from_ne_true (bytes_eq name path) (λ h.
    let same : path ≡ name = sym ((bytes_eq-Decides name path).0 h) in
    let is : bytes_eq path name ≡ true = (bytes_eq-Decides path name).1 same in
    let not : bytes_eq path name ≡ false = not_beside path name beside in
    cc)

-- after second names, the path was given to the file of the name beside it
pub turned_is : (path beside : List ℕ) (a b c : List Asked) → Adds (MayLink path) a b → KeepsNames a b → AreTwo path beside a → IsNamed beside path b c → HasTurned path beside a c
turned_is path beside a b c adds keeps (m, n, one, other, two) ((asked, made, call), named) =
    let left : Left path a b = linked_left path a b adds in
    let middle = Done (Rename beside path) ∷ b in
    let stands_now : standing path middle ≡ standing beside b = rw (same_name path) refl in
    let stands_then : standing beside b ≡ standing beside a = keeps.keep beside n other ∙ sym other in
    record {
      stands = ap (standing path) made ∙ (synced_keeps path path 0 asked middle call).0 ∙ stands_now ∙ stands_then;
      has = λ k. ap (bytes_of k) made ∙ (synced_keeps path path k asked middle call).1 ∙ left.1 k;
      is = λ k. ap (is_synced k) made ∙ (synced_keeps path path k asked middle call).2 ∙ left.2 k;
      named = named;
    }

pub turned_second : (path beside name : List ℕ) (a b c : List Asked) → KeepsNames a b → AreTwo path beside a → IsSecond path name a b → IsNamed beside path b c → IsSecond path name a c
turned_second path beside name a b c keeps (m, n, one, other, two) (is_beside, second) ((asked, made, call), named) =
    let middle = Done (Rename beside path) ∷ b in
    let still : standing beside b ≡ Some n = keeps.keep beside n other in
    let third : standing name b ≡ Some m = second ∙ one in
    let differ : bytes_eq name beside ≡ false = false_from_ne_true (bytes_eq name beside) (λ h.
    let same : name ≡ beside = (bytes_eq-Decides name beside).0 h in
    let equal : Some m ≡ Some n = sym third ∙ ap (λ (x : List ℕ). standing x b) same ∙ still in
    two (same_Some m n equal)) in
    let stands : standing name middle ≡ standing name b = rw (beside_not path name is_beside, differ) refl in
    (is_beside, ap (standing name) made ∙ (synced_keeps path name 0 asked middle call).0 ∙ stands ∙ second)

-- the same of a second name, where there is one
pub second_turned : (second : Option (String Global)) (path beside : List ℕ) (a b c : List Asked) → KeepsNames a b → AreTwo path beside a → IsNamed beside path b c
    → IfSome second (λ name. IsSecond path (string_bytes name) a b) → IfSome second (λ name. IsSecond path (string_bytes name) a c)
second_turned None path beside a b c keeps two named second = tt
second_turned (Some name) path beside a b c keeps two named second = turned_second path beside (string_bytes name) a b c keeps two second named

pub second_beside : (second : Option (String Global)) (path : List ℕ) (a b : List Asked) → IfSome second (λ name. IsSecond path (string_bytes name) a b) → IfSome second (λ name. IsBeside path (string_bytes name))
second_beside None path a b second = tt
second_beside (Some name) path a b second = second.0

-- what is tried beside a path leaves what stands under it, and the bytes of each file that was there
abbrev Tried : (path : List ℕ) → List Asked → List Asked → Type 0
Tried path before after = (standing path after ≡ standing path before) × ((n : ℕ) → n < length before → bytes_of n after ≡ bytes_of n before)

try_leaves : (path : List ℕ) (call : Call) (before : List Asked) → MayTry path call before
    → Tried path before (Done call ∷ before) × Tried path before (Refused call ∷ before) × Tried path before (Failed call ∷ before)
try_leaves path call before (name, beside, inl (access, e)) =
    let IsLeft : Call → Type 0 = λ c. Tried path before (Done c ∷ before) × Tried path before (Refused c ∷ before) × Tried path before (Failed c ∷ before) in
    subst IsLeft (sym e) ((rw (not_beside path name beside) refl, λ n less. rw (other_number n (length before) (λ same. omega (arith, same, less))) refl), (refl, λ n less. refl), (refl, λ n less. refl))
try_leaves path call before (name, beside, inr e) =
    let IsLeft : Call → Type 0 = λ c. Tried path before (Done c ∷ before) × Tried path before (Refused c ∷ before) × Tried path before (Failed c ∷ before) in
    let not = not_beside path name beside in
    subst IsLeft (sym e) ((rw not refl, λ n less. refl), (rw not refl, λ n less. refl), (rw not refl, λ n less. refl))

tries_left : (path : List ℕ) (calls before : List Asked) → Each (MayTry path) calls before → Tried path before (calls ++ before)
tries_left path [] before each = (refl, λ n less. refl)
tries_left path (asked ∷ calls) before (one, each) =
    let rest : Tried path before (calls ++ before) = tries_left path calls before each in
    let all = calls ++ before in
    let parts : Tried path all (Done (call_of asked) ∷ all) × Tried path all (Refused (call_of asked) ∷ all) × Tried path all (Failed (call_of asked) ∷ all) = try_leaves path (call_of asked) all one in
    let last : Tried path all (asked ∷ all) = whatever_came (λ x. Tried path all (x ∷ all)) asked parts.0 parts.1 parts.2 in
    (last.0 ∙ rest.0, λ n less. last.1 n (omega (arith, less, length-append calls before)) ∙ rest.1 n less)

pub tried_left : (path : List ℕ) (a b : List Asked) → Adds (MayTry path) a b → Tried path a b
tried_left path a b (calls, e, each) = subst (λ (l : List Asked). Tried path a l) (sym e) (tries_left path calls a each)

-- what is asked to write one file leaves the bytes of each other one
other_left : (file : Opened) (number : ℕ) (call : Call) (before : List Asked) → nat_eq number file.number ≡ false → MayFill file call before
    → (bytes_of number (Done call ∷ before) ≡ bytes_of number before) × (bytes_of number (Refused call ∷ before) ≡ bytes_of number before) × (bytes_of number (Failed call ∷ before) ≡ bytes_of number before)
other_left file number call before not may = first not may where
  Kept : Call → Type 0
  Kept c = (bytes_of number (Done c ∷ before) ≡ bytes_of number before) × (bytes_of number (Refused c ∷ before) ≡ bytes_of number before) × (bytes_of number (Failed c ∷ before) ≡ bytes_of number before)

  first : nat_eq number file.number ≡ false → MayFill file call before → Kept call
  first not (inl may) = giving_is Kept file call before may (refl, refl, refl) (refl, refl, refl)
  first not (inr (inl (bytes, e))) = subst Kept (sym e) (rw not refl, rw not refl, rw not refl)
  first not (inr (inr (inl e))) = subst Kept (sym e) (refl, refl, refl)
  first not (inr (inr (inr (inl (from, place, bytes, e))))) = subst Kept (sym e) (rw not refl, rw not refl, rw not refl)
  first not (inr (inr (inr (inr (place, bytes, e))))) = subst Kept (sym e) (rw not refl, rw not refl, rw not refl)

others_left : (file : Opened) (number : ℕ) (calls before : List Asked) → nat_eq number file.number ≡ false → Each (MayFill file) calls before → bytes_of number (calls ++ before) ≡ bytes_of number before
others_left file number [] before not each = refl
others_left file number (asked ∷ calls) before not (one, each) =
    let all = calls ++ before in
    let parts : (bytes_of number (Done (call_of asked) ∷ all) ≡ bytes_of number all) × (bytes_of number (Refused (call_of asked) ∷ all) ≡ bytes_of number all) × (bytes_of number (Failed (call_of asked) ∷ all) ≡ bytes_of number all)
    = other_left file number (call_of asked) all not one in
    whatever_came (λ x. bytes_of number (x ∷ all) ≡ bytes_of number all) asked parts.0 parts.1 parts.2 ∙ others_left file number calls before not each

pub filled_other : (file : Opened) (number : ℕ) (a b : List Asked) → number ≢ file.number → Adds (MayFill file) a b → bytes_of number b ≡ bytes_of number a
filled_other file number a b differ (calls, e, each) = ap (bytes_of number) e ∙ others_left file number calls a (other_number number file.number differ) each

-- what holds where a call succeeded
pub on_ok : {A E : Type 0} (result : Result A E) (P Q : Type 0) → (P → Q) → OnOk result P → OnOk result Q
on_ok (Ok _) P Q h p = h p
on_ok (Err _) P Q h p = tt

-- an older copy and what it is to be, before it is written
pub record IsReadyToTurn (path beside : List ℕ) (file from : Opened) (piece had : List ℕ) (before : List Asked) : Type 0 where
  pub front : ℕ
  pub bytes : List ℕ
  pub newest : standing path before ≡ Some from.number
  pub older : standing beside before ≡ Some file.number
  pub apart : standing path before ≢ Some file.number
  pub had_is : bytes_of from.number before ≡ Some had
  pub has : bytes_of file.number before ≡ Some bytes
  pub agrees : Agrees front bytes had
  pub room : front ≤ length piece
  pub fits : length piece ≤ length had

pub ready_to_turn : {D F G : Type 0} (opened : F → Opened) (had piece : List ℕ) (growing : Growing D F G) (older : Older F) (before : List Asked) → IsNewest opened had growing before → IsOlder opened (string_bytes growing.path) had older before
    → older.front ≤ length piece → length piece ≤ length had → IsReadyToTurn (string_bytes growing.path) (string_bytes older.path) (opened older.file) (opened growing.newest) piece had before
ready_to_turn opened had piece growing older before newest is room fits = record {
  front = older.front;
  bytes = is.bytes;
  newest = newest.stands;
  older = is.stands;
  apart = is.apart.1;
  had_is = newest.has;
  has = is.has;
  agrees = is.agrees;
  room = room;
  fits = fits;
}

-- the older copy, written and on disk
turn_written : (path beside : List ℕ) (file from : Opened) (piece tail had : List ℕ) (a b : List Asked) → IsReadyToTurn path beside file from piece had a → Adds (MayFill file) a b → Turns file from piece tail a b
    → (standing beside b ≡ Some file.number) × (bytes_of file.number b ≡ Some (grown piece tail had)) × (is_synced file.number b ≡ true)
turn_written path beside file from piece tail had a b ready adds turns =
    let done : (bytes_of file.number b ≡ Some (piece ++ drop (length piece) (ready.bytes ++ (drop (length ready.bytes) had ++ tail)))) × (is_synced file.number b ≡ true) = turns ready.bytes had ready.has ready.had_is in
    let is : piece ++ drop (length piece) (ready.bytes ++ (drop (length ready.bytes) had ++ tail)) ≡ grown piece tail had = agreeing_grows ready.front piece tail ready.bytes had ready.agrees ready.room ready.fits in
    (filled_keeps file beside a b adds ∙ ready.older, done.0 ∙ ap (λ (l : List ℕ). Some l) is, done.1)

pub turn_whole : (path beside : List ℕ) (file from : Opened) (piece tail had : List ℕ) (a b : List Asked) → IsReadyToTurn path beside file from piece had a → Adds (MayFill file) a b → Turns file from piece tail a b
    → IsWhole beside (grown piece tail had) b
turn_whole path beside file from piece tail had a b ready adds turns =
    let written : (standing beside b ≡ Some file.number) × (bytes_of file.number b ≡ Some (grown piece tail had)) × (is_synced file.number b ≡ true) = turn_written path beside file from piece tail had a b ready adds turns in
    (file.number, written.0, written.1, written.2)

pub turn_two : (path beside : List ℕ) (file from : Opened) (a b : List Asked) → standing path a ≡ Some from.number → standing beside a ≡ Some file.number → standing path a ≢ Some file.number → Adds (MayFill file) a b
    → AreTwo path beside b
turn_two path beside file from a b newest older apart adds =
    (from.number, file.number, filled_keeps file path a b adds ∙ newest, filled_keeps file beside a b adds ∙ older, λ same. apart (newest ∙ ap (λ (n : ℕ). Some n) same))

pub turn_grown : (path beside : List ℕ) (file from : Opened) (piece tail had : List ℕ) (a b c : List Asked) → IsReadyToTurn path beside file from piece had a → Adds (MayFill file) a b → Turns file from piece tail a b
    → HasTurned path beside b c → HasGrown path file from (grown piece tail had) had c
turn_grown path beside file from piece tail had a b c ready adds turns turned =
    let written : (standing beside b ≡ Some file.number) × (bytes_of file.number b ≡ Some (grown piece tail had)) × (is_synced file.number b ≡ true) = turn_written path beside file from piece tail had a b ready adds turns in
    let differ : from.number ≢ file.number = λ same. ready.apart (ready.newest ∙ ap (λ (n : ℕ). Some n) same) in
    record {
      stands = turned.stands ∙ written.0;
      has = turned.has file.number ∙ written.1;
      is = turned.is file.number ∙ written.2;
      named = turned.named;
      other = turned.has from.number ∙ filled_other file from.number a b differ adds ∙ ready.had_is;
    }

pub seconds_before : {E : Type 0} (result : Result (Option (String Global)) E) (path : List ℕ) (a b c : List Asked) → standing path b ≡ standing path a
    → IfOk result (λ second. IfSome second (λ name. IsSecond path (string_bytes name) b c)) → IfOk result (λ second. IfSome second (λ name. IsSecond path (string_bytes name) a c))
seconds_before (Ok (Some name)) path a b c same second = (second.0, second.1 ∙ same)
seconds_before (Ok None) path a b c same second = tt
seconds_before (Err _) path a b c same second = tt

-- what is tried beside a path leaves the file that grows as it is
pub newest_kept : {D F G : Type 0} (opened : F → Opened) (had : List ℕ) (growing : Growing D F G) (a b : List Asked) → Adds (MayTry (string_bytes growing.path)) a b → IsNewest opened had growing a → IsNewest opened had growing b
newest_kept opened had growing a b adds newest =
    let left : Tried (string_bytes growing.path) a b = tried_left (string_bytes growing.path) a b adds in
    record {
      stands = left.0 ∙ newest.stands;
      has = left.1 (opened growing.newest).number (standing_below (string_bytes growing.path) a (opened growing.newest).number newest.stands) ∙ newest.has;
      len = newest.len;
      own = λ own. ((newest.own own).0, private_later (opened growing.newest) (MayTry (string_bytes growing.path)) a b adds (newest.own own).1);
    }

pub grown_on_disk : (path : List ℕ) (file from : Opened) (bytes had : List ℕ) (after : List Asked) → HasGrown path file from bytes had after → IsOnDisk path bytes after
grown_on_disk path file from bytes had after grown = ((file.number, grown.stands, grown.has, grown.is), grown.named)

-- the copy that the file is now: what it was before it grew
second_is_older : {F : Type 0} (opened : F → Opened) (path : List ℕ) (newest : F) (file : Opened) (second : String Global) (len : ℕ) (piece tail had : List ℕ) (b c : List Asked)
    → standing path b ≡ Some (opened newest).number → IsBeside path (opened newest).name → IsPrivate (opened newest) c → standing path b ≢ Some file.number → len ≡ length had → length piece ≤ length had
    → HasGrown path file (opened newest) (grown piece tail had) had c → IsSecond path (string_bytes second) b c
    → IsOlder opened path (grown piece tail had) (record { file = newest; path = second; len = len; front = length piece }) c
second_is_older opened path newest file second len piece tail had b c stands own private apart long fits grown (beside, same) = record {
  bytes = had;
  apart = (own, λ e. apart (stands ∙ sym e ∙ grown.stands));
  private = private;
  beside = beside;
  stands = same ∙ stands;
  has = grown.other;
  len = long;
  agrees = grown_agrees piece tail had fits;
}

-- a store goes on with a file that has grown
pub grows_on : {D F G : Type 0} (opened : F → Opened) (growing next : Growing D F G) (older : Older F) (second : Option (String Global)) (piece tail had : List ℕ) (P : Call → List Asked → Type 0) (b c : List Asked)
    → Adds P b c → next.path ≡ growing.path → next.newest ≡ older.file → next.len ≡ growing.len + length tail
    → next.older ≡ option_map (λ path. record { file = growing.newest; path = path; len = growing.len; front = length piece }) second
    → IsNewest opened had growing b → IsOlder opened (string_bytes growing.path) had older b → length piece ≤ length had
    → HasGrown (string_bytes growing.path) (opened older.file) (opened growing.newest) (grown piece tail had) had c
    → IfSome second (λ name. IsSecond (string_bytes growing.path) (string_bytes name) b c) → IfSome second (λ _. growing.own ≡ true)
    → IsGrowing opened (grown piece tail had) next c
grows_on opened growing next older second piece tail had P b c adds path_is newest_is len_is older_is newest is fits has_grown seconds owns = (
  record {
    stands = rw (path_is, newest_is) has_grown.stands;
    has = rw newest_is has_grown.has;
    len = len_is ∙ ap (λ (n : ℕ). n + length tail) newest.len ∙ sym (grown_long piece tail had fits);
    own = λ own. rw (path_is, newest_is) (is.apart.0, private_later (opened older.file) P b c adds is.private);
  },
  rw older_is (rw path_is (copy second seconds owns)),
) where
  copy : (second : Option (String Global)) → IfSome second (λ name. IsSecond (string_bytes growing.path) (string_bytes name) b c) → IfSome second (λ _. growing.own ≡ true)
      → IfSome (option_map (λ path. record { file = growing.newest; path = path; len = growing.len; front = length piece }) second) (λ copy. IsOlder opened (string_bytes growing.path) (grown piece tail had) copy c)
  copy None seconds owns = tt
  copy (Some name) second own = second_is_older opened (string_bytes growing.path) growing.newest (opened older.file) name growing.len piece tail had b c newest.stands (newest.own own).0 (private_later (opened growing.newest) P b c adds (newest.own own).1) is.apart.1 newest.len fits has_grown second

-- the file that a name leads to was opened
pub opened_may : {A : Type 0} (result : Result A Error) (leads : List ℕ → List ℕ → Type 0) (name path : List ℕ) (a b : List Asked) → IsOpened result path a b → LeadsTo leads name path → Adds (MayOpen leads name) a b
opened_may result leads name path a b (bytes, e, had) led =
    added_call (MayOpen leads name) a a b result (Open path bytes) (added_none (MayOpen leads name) a) e (path, bytes, led, refl)

-- what is asked to open a file may be asked to have it grow
pub opening_grows : (copy : Option (List ℕ)) (leads : List ℕ → List ℕ → Type 0) (name : List ℕ) (call : Call) (before : List Asked)
    → Either (MaySettle copy) (MayOpen leads name) call before → Either (MaySettle copy) (MayGrow leads name) call before
opening_grows copy leads name call before (inl may) = inl may
opening_grows copy leads name call before (inr (path, bytes, led, e)) = inr (path, [], led, subst (λ c. MayReplace path [] c before) (sym e) refl)

pub is_opening : (copy : Option (List ℕ)) (leads : List ℕ → List ℕ → Type 0) (name : List ℕ) (call : Call) (before : List Asked) → Either (MaySettle copy) (MayOpen leads name) call before → IsOpening call before
is_opening copy leads name call before (inl (beside, is, e)) = inr (beside, e)
is_opening copy leads name call before (inr (path, bytes, led, e)) = inl (path, bytes, e)

-- the bytes under the path of the file that grows
pub under_is : {D F G : Type 0} (opened : F → Opened) (had : List ℕ) (growing : Growing D F G) (asked : List Asked) → IsNewest opened had growing asked → bytes_under (string_bytes growing.path) asked ≡ Some had
under_is opened had growing asked newest =
    subst (λ (o : Option ℕ). option_and_then (λ number. bytes_of number asked) o ≡ Some had) (sym newest.stands) newest.has
