-- Calls of a disk, one after another.
use Rattle.std.proofs.Common.{◌≡◌, ◌≢◌, inl, inr, ℕ, suc, ◌+◌, ◌<◌, List, [], ◌∷◌, ◌++◌, length, Option, Some, None, Result, Ok, Err, OnOk, Bool, true, false, if◌then◌else◌, refl, sym, ◌∙◌, ap, subst, append_assoc, length-append, arith}
use Rattle.std.specs.Prelude.{bytes_eq, nat_eq, codes, decimal, unwrap_or}
use Rattle.std.specs.IoError.{error_kind}
use Rattle.std.specs.declared.io.Error.{Error}
use Rattle.std.specs.declared.io.ErrorKind.{ErrorKind}
use Rattle.std.proofs.lemmas.Slice.Eq.{bytes_eq-Decides}
use Rattle.std.proofs.lemmas.Bool.{eq-eqb, false_from_ne_true}
use Rattle.std.proofs.lemmas.Option.{same_Some}
use Rattle.rje_store.specs.Disk.{Asked, Call, Opened, Done, Refused, Failed, Create, Open, OpenLock, SetOwner, SetMode, Fill, GoOn, WriteAt, Sync, SyncBytes, Rename, Link, Remove, SyncFolder, WriteDevice, call_of, standing, bytes_of, is_synced, takes, came_to, failed_by}
use Rattle.rje_store.specs.declared.new_access.NewAccess.{NewAccess}
use Rattle.rje_store.specs.Replacing.{Adds, Each, Either, HasTried, IsApart, IsBeside, IsNewBeside, IsPrivate, IsWhole, MayReplace, MayTry}
use Rattle.rje_store.specs.Inside.Filling.{AddsSync, Fills, MayFill, MayGive}

-- nothing was asked
pub added_none : (P : Call → List Asked → Type 0) (before : List Asked) → Adds P before before
added_none P before = ([], refl, tt)

-- one thing more was asked
pub added_one : (P : Call → List Asked → Type 0) (a b c : List Asked) (asked : Asked) → Adds P a b → c ≡ asked ∷ b → P (call_of asked) b → Adds P a c
added_one P a b c asked (calls, e, each) made p =
    (asked ∷ calls, made ∙ ap (λ (l : List Asked). asked ∷ l) e, (subst (λ (l : List Asked). P (call_of asked) l) e p, each))

-- a call that was made is the one that was asked, whatever came of it
pub call_failed : (kind : ErrorKind) (call : Call) → call_of (failed_by kind call) ≡ call
call_failed ErrorKind.InvalidInput call = refl
call_failed _ call = refl

pub call_came : {A : Type 0} (result : Result A Error) (call : Call) → call_of (came_to result call) ≡ call
call_came (Ok _) call = refl
call_came (Err error) call = call_failed (error_kind error) call

-- one call more was made, with this result
pub added_call : {A : Type 0} (P : Call → List Asked → Type 0) (a b c : List Asked) (result : Result A Error) (call : Call)
    → Adds P a b → c ≡ came_to result call ∷ b → P call b → Adds P a c
added_call P a b c result call adds made p = added_one P a b c (came_to result call) adds made (subst (λ d. P d b) (sym (call_came result call)) p)

each_twice : (P : Call → List Asked → Type 0) (later calls before : List Asked) → Each P later (calls ++ before) → Each P calls before → Each P (later ++ calls) before
each_twice P [] calls before p q = q
each_twice P (asked ∷ later) calls before (p, ps) q =
    (subst (λ (l : List Asked). P (call_of asked) l) (sym (append_assoc later calls before)) p, each_twice P later calls before ps q)

-- what was asked, and what was asked after that
pub added_twice : (P : Call → List Asked → Type 0) (a b c : List Asked) → Adds P a b → Adds P b c → Adds P a c
added_twice P a b c (calls, e, each) (later, d, others) = (
  later ++ calls,
  d ∙ ap (λ (l : List Asked). later ++ l) e ∙ sym (append_assoc later calls a),
  each_twice P later calls a (subst (λ (l : List Asked). Each P later l) e others) each,
)

each_weaker : (P Q : Call → List Asked → Type 0) → ((call : Call) (before : List Asked) → P call before → Q call before)
    → (calls before : List Asked) → Each P calls before → Each Q calls before
each_weaker P Q h [] before p = tt
each_weaker P Q h (asked ∷ calls) before (p, ps) = (h (call_of asked) (calls ++ before) p, each_weaker P Q h calls before ps)

-- what may be asked by one rule may be asked by a weaker one
pub added_weaker : (P Q : Call → List Asked → Type 0) → ((call : Call) (before : List Asked) → P call before → Q call before)
    → (a b : List Asked) → Adds P a b → Adds Q a b
added_weaker P Q h a b (calls, e, each) = (calls, e, each_weaker P Q h calls a each)

-- what is tried beside a path may be asked to replace its file
pub tried_may : (path bytes : List ℕ) (call : Call) (before : List Asked) → MayTry path call before → MayReplace path bytes call before
tried_may path bytes call before (name, beside, inl (access, e)) = subst (λ c. MayReplace path bytes c before) (sym e) beside
tried_may path bytes call before (name, beside, inr e) = subst (λ c. MayReplace path bytes c before) (sym e) beside

-- a number, and a name, is itself
pub same_number : (n : ℕ) → nat_eq n n ≡ true
same_number n = eq-eqb n n refl

pub same_name : (name : List ℕ) → bytes_eq name name ≡ true
same_name name = (bytes_eq-Decides name name).1 refl

-- a path is no name beside it
pub not_beside : (path name : List ℕ) → IsBeside path name → bytes_eq path name ≡ false
not_beside path name (number, e) = false_from_ne_true (bytes_eq path name) (λ h.
    let same : path ≡ path ++ (codes ".rje-" ++ decimal number) = (bytes_eq-Decides path name).0 h ∙ e in
    let long : length path ≡ length path + length (codes ".rje-" ++ decimal number) = ap length same ∙ length-append path (codes ".rje-" ++ decimal number) in
    omega (arith, long))

below_choice : (b : Bool) (x y : Option ℕ) (number count : ℕ) → (x ≡ Some number → number < count) → (y ≡ Some number → number < count)
    → (if b then x else y) ≡ Some number → number < count
below_choice true x y number count f g e = f e
below_choice false x y number count f g e = g e

below_one : (b : Bool) (x : Option ℕ) (number count : ℕ) → (x ≡ Some number → number < count) → (if b then None else x) ≡ Some number → number < count
below_one b x number count f e = below_choice b None x number count (λ h. cc) f e

seen_below : (o : Option ℕ) (count : ℕ) → ((n : ℕ) → o ≡ Some n → n < count) → unwrap_or o count < suc count
seen_below None count h = omega arith
seen_below (Some n) count h = omega (arith, h n refl)

-- the file under a name was seen before
pub standing_below : (name : List ℕ) (asked : List Asked) (number : ℕ) → standing name asked ≡ Some number → number < length asked
standing_below name [] number e = cc
standing_below name (Done (Create _ other) ∷ before) number e =
    below_choice (bytes_eq name other) (Some (length before)) (standing name before) number (suc (length before)) (λ h. omega (arith, same_Some _ _ h)) (λ h. omega (arith, standing_below name before number h)) e
standing_below name (Done (OpenLock other) ∷ before) number e =
    below_choice (bytes_eq name other) (Some (unwrap_or (standing other before) (length before))) (standing name before) number (suc (length before))
    (λ h. omega (arith, same_Some _ _ h, seen_below (standing other before) (length before) (λ n. standing_below other before n))) (λ h. omega (arith, standing_below name before number h)) e
standing_below name (Done (Open other bytes) ∷ before) number e =
    below_choice (bytes_eq name other) (Some (unwrap_or (standing other before) (length before))) (standing name before) number (suc (length before))
    (λ h. omega (arith, same_Some _ _ h, seen_below (standing other before) (length before) (λ n. standing_below other before n))) (λ h. omega (arith, standing_below name before number h)) e
standing_below name (Done (Link from to) ∷ before) number e =
    below_choice (bytes_eq name to) (standing from before) (standing name before) number (suc (length before)) (λ h. omega (arith, standing_below from before number h)) (λ h. omega (arith, standing_below name before number h)) e
standing_below name (Done (Rename from to) ∷ before) number e =
    below_choice (bytes_eq name to) (standing from before) (if bytes_eq name from then None else standing name before) number (suc (length before))
    (λ h. omega (arith, standing_below from before number h))
    (below_one (bytes_eq name from) (standing name before) number (suc (length before)) (λ h. omega (arith, standing_below name before number h))) e
standing_below name (Done (Remove other) ∷ before) number e =
    below_one (bytes_eq name other) (standing name before) number (suc (length before)) (λ h. omega (arith, standing_below name before number h)) e
standing_below name (Done (SetOwner _) ∷ before) number e = omega (arith, standing_below name before number e)
standing_below name (Done (SetMode _) ∷ before) number e = omega (arith, standing_below name before number e)
standing_below name (Done (Fill _ _) ∷ before) number e = omega (arith, standing_below name before number e)
standing_below name (Done (GoOn _ _ _ _) ∷ before) number e = omega (arith, standing_below name before number e)
standing_below name (Done (WriteAt _ _ _) ∷ before) number e = omega (arith, standing_below name before number e)
standing_below name (Done (Sync _) ∷ before) number e = omega (arith, standing_below name before number e)
standing_below name (Done (SyncBytes _) ∷ before) number e = omega (arith, standing_below name before number e)
standing_below name (Done (SyncFolder _) ∷ before) number e = omega (arith, standing_below name before number e)
standing_below name (Done (WriteDevice _ _) ∷ before) number e = omega (arith, standing_below name before number e)
standing_below name (Refused call ∷ before) number e =
    below_one (takes name call) (standing name before) number (suc (length before)) (λ h. omega (arith, standing_below name before number h)) e
standing_below name (Failed call ∷ before) number e =
    below_one (takes name call) (standing name before) number (suc (length before)) (λ h. omega (arith, standing_below name before number h)) e

-- a new file is empty, has its name, and doesn't stand under the path that it was made beside
pub new_bytes : (access : NewAccess) (name : List ℕ) (before : List Asked) → bytes_of (length before) (Done (Create access name) ∷ before) ≡ Some []
new_bytes access name before = rw (same_number (length before)) refl

pub new_name : (access : NewAccess) (name : List ℕ) (before : List Asked) → standing name (Done (Create access name) ∷ before) ≡ Some (length before)
new_name access name before = rw (same_name name) refl

pub new_apart : (access : NewAccess) (path name : List ℕ) (before : List Asked) → IsBeside path name → standing path (Done (Create access name) ∷ before) ≢ Some (length before)
new_apart access path name before beside e =
    let before_is : standing path before ≡ Some (length before) = rw (not_beside path name beside) at e in
    omega (arith, standing_below path before (length before) before_is)

-- what came of a call holds of each
pub whatever_came : (P : Asked → Type 0) (asked : Asked) → P (Done (call_of asked)) → P (Refused (call_of asked)) → P (Failed (call_of asked)) → P asked
whatever_came P (Done call) p q r = p
whatever_came P (Refused call) p q r = q
whatever_came P (Failed call) p q r = r

-- what is asked to give a file its access is to give it its owner or its mode
pub giving_is : (P : Call → Type 0) (file : Opened) (call : Call) (before : List Asked) → MayGive file call before → P (SetOwner file) → P (SetMode file) → P call
giving_is P file call before (private, inl e) owner mode = subst P (sym e) owner
giving_is P file call before (private, inr (e, owned)) owner mode = subst P (sym e) mode

-- what is asked to write a file leaves each name as it was
abbrev KeepsName : (name : List ℕ) (before : List Asked) → Call → Type 0
KeepsName name before call = (standing name (Done call ∷ before) ≡ standing name before) × (standing name (Refused call ∷ before) ≡ standing name before) × (standing name (Failed call ∷ before) ≡ standing name before)

filling_keeps_name : (file : Opened) (name : List ℕ) (call : Call) (before : List Asked) → MayFill file call before → KeepsName name before call
filling_keeps_name file name call before (inl may) = giving_is (KeepsName name before) file call before may (refl, refl, refl) (refl, refl, refl)
filling_keeps_name file name call before (inr (inl (bytes, e))) = subst (KeepsName name before) (sym e) (refl, refl, refl)
filling_keeps_name file name call before (inr (inr (inl e))) = subst (KeepsName name before) (sym e) (refl, refl, refl)
filling_keeps_name file name call before (inr (inr (inr (inl (from, place, bytes, e))))) = subst (KeepsName name before) (sym e) (refl, refl, refl)
filling_keeps_name file name call before (inr (inr (inr (inr (place, bytes, e))))) = subst (KeepsName name before) (sym e) (refl, refl, refl)

filling_keeps_one : (file : Opened) (name : List ℕ) (asked : Asked) (before : List Asked) → MayFill file (call_of asked) before → standing name (asked ∷ before) ≡ standing name before
filling_keeps_one file name asked before may =
    let keeps : KeepsName name before (call_of asked) = filling_keeps_name file name (call_of asked) before may in
    whatever_came (λ a. standing name (a ∷ before) ≡ standing name before) asked keeps.0 keeps.1 keeps.2

filling_keeps : (file : Opened) (name : List ℕ) (calls before : List Asked) → Each (MayFill file) calls before → standing name (calls ++ before) ≡ standing name before
filling_keeps file name [] before each = refl
filling_keeps file name (asked ∷ calls) before (one, each) = filling_keeps_one file name asked (calls ++ before) one ∙ filling_keeps file name calls before each

pub filled_keeps : (file : Opened) (name : List ℕ) (a b : List Asked) → Adds (MayFill file) a b → standing name b ≡ standing name a
filled_keeps file name a b (calls, e, each) = ap (standing name) e ∙ filling_keeps file name calls a each

-- a file that was made for its owner alone stays one that was
pub private_later : (file : Opened) (P : Call → List Asked → Type 0) (a b : List Asked) → Adds P a b → IsPrivate file a → IsPrivate file b
private_later file P a b (later, e, each) (calls, before, made, number) = (
  later ++ calls,
  before,
  e ∙ ap (λ (l : List Asked). later ++ l) made ∙ sym (append_assoc later calls (Done (Create NewAccess.Private file.name) ∷ before)),
  number,
)

pub new_private : (path : List ℕ) (file : Opened) (name : List ℕ) (after : List Asked) → IsNewBeside NewAccess.Private path file name after → IsPrivate file after
new_private path file name after (before, e, f, beside) =
    subst (λ (x : Opened). IsPrivate x after) (sym f) ([], before, e, refl)

-- a file that is apart may be given its access
giving_may_one : (path bytes : List ℕ) (file : Opened) (call : Call) (before : List Asked) → IsApart path file before → MayGive file call before → MayReplace path bytes call before
giving_may_one path bytes file call before apart (private, inl e) = subst (λ c. MayReplace path bytes c before) (sym e) (apart, private)
giving_may_one path bytes file call before apart (private, inr (e, owned)) = subst (λ c. MayReplace path bytes c before) (sym e) (apart, private, owned)

-- a file that is apart may be written
filling_may_one : (path bytes : List ℕ) (file : Opened) (call : Call) (before : List Asked) → IsApart path file before → MayFill file call before → MayReplace path bytes call before
filling_may_one path bytes file call before apart (inl may) = giving_may_one path bytes file call before apart may
filling_may_one path bytes file call before apart (inr (inl (written, e))) = subst (λ c. MayReplace path bytes c before) (sym e) apart
filling_may_one path bytes file call before apart (inr (inr (inl e))) = subst (λ c. MayReplace path bytes c before) (sym e) tt
filling_may_one path bytes file call before apart (inr (inr (inr (inl (from, place, written, e))))) = subst (λ c. MayReplace path bytes c before) (sym e) apart
filling_may_one path bytes file call before apart (inr (inr (inr (inr (place, written, e))))) = subst (λ c. MayReplace path bytes c before) (sym e) apart

filling_may : (path bytes : List ℕ) (file : Opened) (calls before : List Asked) → IsApart path file before → Each (MayFill file) calls before → Each (MayReplace path bytes) calls before
filling_may path bytes file [] before apart each = tt
filling_may path bytes file (asked ∷ calls) before (beside, apart) (one, each) = (
  filling_may_one path bytes file (call_of asked) (calls ++ before) (beside, λ h. apart (sym (filling_keeps file path calls before each) ∙ h)) one,
  filling_may path bytes file calls before (beside, apart) each,
)

pub filled_may : (path bytes : List ℕ) (file : Opened) (a b : List Asked) → IsApart path file a → Adds (MayFill file) a b → Adds (MayReplace path bytes) a b
filled_may path bytes file a b apart (calls, e, each) = (calls, e, filling_may path bytes file calls a apart each)

-- a file that was empty, and is written and put on disk
pub fills : (file : Opened) (bytes : List ℕ) (before : List Asked) → Fills file.number bytes before (Done (Sync file) ∷ Done (Fill file bytes) ∷ before)
fills file bytes before empty = (rw (same_number file.number, empty) refl, rw (same_number file.number) refl)

-- the names of a folder that are put on disk leave each file as it is
pub synced_keeps : (path name : List ℕ) (number : ℕ) (asked : Asked) (before : List Asked) → call_of asked ≡ SyncFolder path
    → (standing name (asked ∷ before) ≡ standing name before) × (bytes_of number (asked ∷ before) ≡ bytes_of number before) × (is_synced number (asked ∷ before) ≡ is_synced number before)
synced_keeps path name number (Done call) before e = subst (λ c. (standing name (Done c ∷ before) ≡ standing name before) × (bytes_of number (Done c ∷ before) ≡ bytes_of number before) × (is_synced number (Done c ∷ before) ≡ is_synced number before)) (sym e) (refl, refl, refl)
synced_keeps path name number (Refused call) before e = subst (λ c. (standing name (Refused c ∷ before) ≡ standing name before) × (bytes_of number (Refused c ∷ before) ≡ bytes_of number before) × (is_synced number (Refused c ∷ before) ≡ is_synced number before)) (sym e) (refl, refl, refl)
synced_keeps path name number (Failed call) before e = subst (λ c. (standing name (Failed c ∷ before) ≡ standing name before) × (bytes_of number (Failed c ∷ before) ≡ bytes_of number before) × (is_synced number (Failed c ∷ before) ≡ is_synced number before)) (sym e) (refl, refl, refl)

pub whole_synced : (path name bytes : List ℕ) (a b : List Asked) → AddsSync path a b → IsWhole name bytes a → IsWhole name bytes b
whole_synced path name bytes a b (asked, e, call) (number, stands, has, synced) =
    let keeps : (standing name (asked ∷ a) ≡ standing name a) × (bytes_of number (asked ∷ a) ≡ bytes_of number a) × (is_synced number (asked ∷ a) ≡ is_synced number a) = synced_keeps path name number asked a call in
    subst (λ (l : List Asked). IsWhole name bytes l) (sym e) (number, keeps.0 ∙ stands, keeps.1 ∙ has, keeps.2 ∙ synced)

pub sync_may : (path bytes : List ℕ) (a b : List Asked) → AddsSync path a b → Adds (MayReplace path bytes) a b
sync_may path bytes a b (asked, e, call) = (asked ∷ [], e, (subst (λ c. MayReplace path bytes c a) (sym call) refl, tt))

-- a file that is whole under a name is so under the path that it is given
pub whole_renamed : (name path bytes : List ℕ) (before : List Asked) → IsWhole name bytes before → IsWhole path bytes (Done (Rename name path) ∷ before)
whole_renamed name path bytes before (number, stands, has, synced) = (number, rw (same_name path) stands, has, synced)

-- what a new file beside a path is: apart from the file there, empty, and the one under its name
pub new_is_apart : (access : NewAccess) (path : List ℕ) (file : Opened) (name : List ℕ) (after : List Asked) → IsNewBeside access path file name after → IsApart path file after
new_is_apart access path file name after (before, e, f, beside) =
    subst (λ (l : List Asked). IsApart path file l) (sym e) (subst (λ (x : Opened). IsApart path x (Done (Create access name) ∷ before)) (sym f) (beside, new_apart access path name before beside))

pub new_is_empty : (access : NewAccess) (path : List ℕ) (file : Opened) (name : List ℕ) (after : List Asked) → IsNewBeside access path file name after → bytes_of file.number after ≡ Some []
new_is_empty access path file name after (before, e, f, beside) =
    subst (λ (l : List Asked). bytes_of file.number l ≡ Some []) (sym e) (subst (λ (x : Opened). bytes_of x.number (Done (Create access name) ∷ before) ≡ Some []) (sym f) (new_bytes access name before))

pub new_stands : (access : NewAccess) (path : List ℕ) (file : Opened) (name : List ℕ) (after : List Asked) → IsNewBeside access path file name after → standing name after ≡ Some file.number
new_stands access path file name after (before, e, f, beside) =
    subst (λ (l : List Asked). standing name l ≡ Some file.number) (sym e) (subst (λ (x : Opened). standing name (Done (Create access name) ∷ before) ≡ Some x.number) (sym f) (new_name access name before))

-- a new file that is written and put on disk is whole under its name
pub filled_whole : (access : NewAccess) (path : List ℕ) (file : Opened) (name bytes : List ℕ) (a b : List Asked) → IsNewBeside access path file name a → Adds (MayFill file) a b → Fills file.number bytes a b → IsWhole name bytes b
filled_whole access path file name bytes a b new adds fills =
    let has : (bytes_of file.number b ≡ Some bytes) × (is_synced file.number b ≡ true) = fills (new_is_empty access path file name a new) in
    (file.number, filled_keeps file name a b adds ∙ new_stands access path file name a new, has.0, has.1)

-- the path has it, where the rename is done
pub renamed_whole : {A : Type 0} (result : Result A Error) (name path bytes : List ℕ) (a b : List Asked) → b ≡ came_to result (Rename name path) ∷ a → IsWhole name bytes a
    → OnOk result (IsWhole path bytes b)
renamed_whole (Ok _) name path bytes a b e whole = subst (λ (l : List Asked). IsWhole path bytes l) (sym e) (whole_renamed name path bytes a whole)
renamed_whole (Err _) name path bytes a b e whole = tt

pub name_of_new : (access : NewAccess) (path : List ℕ) (file : Opened) (name : List ℕ) (after : List Asked) → IsNewBeside access path file name after → IsBeside path name
name_of_new access path file name after (before, e, f, beside) = beside

-- what was asked by one rule, and then by another
pub added_either : (P Q : Call → List Asked → Type 0) (a b c : List Asked) → Adds P a b → Adds Q b c → Adds (Either P Q) a c
added_either P Q a b c p q = added_twice (Either P Q) a b c (added_weaker P (Either P Q) (λ call before x. inl x) a b p) (added_weaker Q (Either P Q) (λ call before x. inr x) b c q)

-- the file that was made is removed again
pub tried_done : {A : Type 0} (result : Result A Error) (path : List ℕ) (file : Opened) (name : List ℕ) (a b : List Asked) → IsNewBeside NewAccess.Usual path file name a → b ≡ came_to result (Remove name) ∷ a
    → OnOk result (HasTried path b)
tried_done (Err _) path file name a b new made = tt
tried_done (Ok _) path file name a b (before, e, f, beside) made = (name, before, beside, made ∙ ap (λ (l : List Asked). Done (Remove name) ∷ l) e)
