-- How bytes become a new file: call after call.
use Rattle.std.proofs.Common.{◌≡◌, ◌≢◌, ℕ, ◌≤◌, inl, inr, List, [], ◌∷◌, ◌++◌, length, Option, Some, None, Result, Ok, Err, IfOk, Bool, true, false, if◌then◌else◌, refl, sym, ◌∙◌, ap, subst}
use Rattle.std.specs.Prelude.{bytes_eq}
use Rattle.std.specs.declared.io.Error.{Error}
use Rattle.rje_store.specs.declared.new_access.NewAccess.{NewAccess}
use Rattle.rje_store.specs.Disk.{Asked, Call, Opened, Done, Refused, Failed, Create, Remove, call_of, came_to, standing, bytes_of, is_synced, has_synced_name}
use Rattle.rje_store.specs.Replacing.{Adds, Each, IsOnDisk, IsWhole}
use Rattle.rje_store.specs.Inside.Filling.{AddsSync, Fills, MayFill}
use Rattle.rje_store.proofs.Replacing.{added_call, added_twice, added_weaker, call_came, filled_keeps, new_bytes, new_name, whatever_came, whole_synced}
use Rattle.rje_folder.specs.Keeping.{IsTemporary, MayKeep, WasMade}
use Rattle.rje_folder.specs.Moving.{MayLink}
use Rattle.rje_folder.specs.Inside.Calls.{HasLinked, IsKept, IsNewIn, MayCreate, MayWrite}
use Rattle.rje_folder.proofs.Linked.{linked_stands}
use Rattle.rje_folder.proofs.Taken.{other_name}

-- what a new file is: empty, and the one under its name
pub new_is_empty : (folder : List ℕ) (file : Opened) (name : List ℕ) (after : List Asked) → IsNewIn folder file name after → bytes_of file.number after ≡ Some []
new_is_empty folder file name after (before, made, is, temporary) =
    subst (λ (l : List Asked). bytes_of file.number l ≡ Some []) (sym made) (subst (λ (x : Opened). bytes_of x.number (Done (Create NewAccess.Private name) ∷ before) ≡ Some []) (sym is) (new_bytes NewAccess.Private name before))

pub new_stands : (folder : List ℕ) (file : Opened) (name : List ℕ) (after : List Asked) → IsNewIn folder file name after → standing name after ≡ Some file.number
new_stands folder file name after (before, made, is, temporary) =
    subst (λ (l : List Asked). standing name l ≡ Some file.number) (sym made) (subst (λ (x : Opened). standing name (Done (Create NewAccess.Private name) ∷ before) ≡ Some x.number) (sym is) (new_name NewAccess.Private name before))

pub new_temporary : (folder : List ℕ) (file : Opened) (name : List ℕ) (after : List Asked) → IsNewIn folder file name after → IsTemporary folder name
new_temporary folder file name after (before, made, is, temporary) = temporary

pub file_temporary : (folder : List ℕ) (file : Opened) (name : List ℕ) (after : List Asked) → IsNewIn folder file name after → IsTemporary folder file.name
file_temporary folder file name after (before, made, is, temporary) = subst (IsTemporary folder) (sym (ap (λ (f : Opened). f.name) is)) temporary

-- what is asked to make it
pub create_keeps : (folder bytes : List ℕ) (IsNew : List ℕ → Type 0) (a b : List Asked) → Adds (MayCreate folder) a b → Adds (MayKeep folder IsNew bytes) a b
create_keeps folder bytes IsNew a b adds =
    added_weaker (MayCreate folder) (MayKeep folder IsNew bytes) (λ call before (name, temporary, e). subst (λ c. MayKeep folder IsNew bytes c before) (sym e) temporary) a b adds

-- what is asked to write it
pub write_fills : (file : Opened) (a b : List Asked) → Adds (MayWrite file) a b → Adds (MayFill file) a b
write_fills file a b adds = added_weaker (MayWrite file) (MayFill file) (write_may file) a b adds where
  write_may : (file : Opened) (call : Call) (before : List Asked) → MayWrite file call before → MayFill file call before
  write_may file call before (inl (bytes, e, empty)) = inr (inl (bytes, e))
  write_may file call before (inr e) = inr (inr (inl e))

pub write_keeps : (folder bytes : List ℕ) (IsNew : List ℕ → Type 0) (file : Opened) (name : List ℕ) (a b : List Asked) → IsNewIn folder file name a → Adds (MayWrite file) a b → Adds (MayKeep folder IsNew bytes) a b
write_keeps folder bytes IsNew file name a b new adds = added_weaker (MayWrite file) (MayKeep folder IsNew bytes) (write_may folder bytes IsNew file (file_temporary folder file name a new)) a b adds where
  write_may : (folder bytes : List ℕ) (IsNew : List ℕ → Type 0) (file : Opened) → IsTemporary folder file.name → (call : Call) (before : List Asked) → MayWrite file call before → MayKeep folder IsNew bytes call before
  write_may folder bytes IsNew file temporary call before (inl (written, e, empty)) = subst (λ c. MayKeep folder IsNew bytes c before) (sym e) (temporary, empty)
  write_may folder bytes IsNew file temporary call before (inr e) = subst (λ c. MayKeep folder IsNew bytes c before) (sym e) tt

-- once it is written it is whole under its name
pub written_whole : (folder : List ℕ) (file : Opened) (name bytes : List ℕ) (a b : List Asked) → IsNewIn folder file name a → Adds (MayWrite file) a b → Fills file.number bytes a b → IsWhole name bytes b
written_whole folder file name bytes a b new adds fills =
    let has : (bytes_of file.number b ≡ Some bytes) × (is_synced file.number b ≡ true) = fills (new_is_empty folder file name a new) in
    (file.number, filled_keeps file name a b (write_fills file a b adds) ∙ new_stands folder file name a new, has.0, has.1)

-- links of a file leave it whole under its name
either_way : (b : Bool) (x : Option ℕ) → (if b then x else x) ≡ x
either_way true x = refl
either_way false x = refl

link_whole : (from bytes : List ℕ) (IsNew : List ℕ → Type 0) (call : Call) (before : List Asked) → MayLink from IsNew call before → IsWhole from bytes before
    → IsWhole from bytes (Done call ∷ before) × IsWhole from bytes (Refused call ∷ before) × IsWhole from bytes (Failed call ∷ before)
link_whole from bytes IsNew call before (name, named, e) (number, stands, has, is) =
    let Stays : Call → Type 0 = λ c. IsWhole from bytes (Done c ∷ before) × IsWhole from bytes (Refused c ∷ before) × IsWhole from bytes (Failed c ∷ before) in
    subst Stays (sym e) ((number, either_way (bytes_eq from name) (standing from before) ∙ stands, has, is), (number, stands, has, is), (number, stands, has, is))

links_whole : (from bytes : List ℕ) (IsNew : List ℕ → Type 0) (calls before : List Asked) → Each (MayLink from IsNew) calls before → IsWhole from bytes before → IsWhole from bytes (calls ++ before)
links_whole from bytes IsNew [] before each whole = whole
links_whole from bytes IsNew (asked ∷ calls) before (one, each) whole =
    let all = calls ++ before in
    let parts : IsWhole from bytes (Done (call_of asked) ∷ all) × IsWhole from bytes (Refused (call_of asked) ∷ all) × IsWhole from bytes (Failed (call_of asked) ∷ all)
    = link_whole from bytes IsNew (call_of asked) all one (links_whole from bytes IsNew calls before each whole) in
    whatever_came (λ x. IsWhole from bytes (x ∷ all)) asked parts.0 parts.1 parts.2

-- so each of them may be asked
links_keep : (folder from bytes : List ℕ) (IsNew : List ℕ → Type 0) (calls before : List Asked) → IsTemporary folder from → Each (MayLink from IsNew) calls before → IsWhole from bytes before → Each (MayKeep folder IsNew bytes) calls before
links_keep folder from bytes IsNew [] before temporary each whole = tt
links_keep folder from bytes IsNew (asked ∷ calls) before temporary ((name, named, e), each) whole = (
  subst (λ c. MayKeep folder IsNew bytes c (calls ++ before)) (sym e) (temporary, named, links_whole from bytes IsNew calls before each whole),
  links_keep folder from bytes IsNew calls before temporary each whole,
)

pub linked_keep : (folder from bytes : List ℕ) (IsNew : List ℕ → Type 0) (a b : List Asked) → IsTemporary folder from → Adds (MayLink from IsNew) a b → IsWhole from bytes a → Adds (MayKeep folder IsNew bytes) a b
linked_keep folder from bytes IsNew a b temporary (calls, e, each) whole = (calls, e, links_keep folder from bytes IsNew calls a temporary each whole)

-- the file is whole under the name that it has got, which is another one
pub linked_whole : (from to bytes : List ℕ) (a b : List Asked) → HasLinked from to a b → IsWhole from bytes a → IsWhole to bytes b
linked_whole from to bytes a b (between, made, keeps, free) (number, stands, has, is) = (
  number,
  linked_stands from to a b (between, made, keeps, free) ∙ stands,
  ap (bytes_of number) made ∙ keeps.has number ∙ has,
  ap (is_synced number) made ∙ keeps.is number ∙ is,
)

pub linked_other : (from to bytes : List ℕ) (a b : List Asked) → HasLinked from to a b → IsWhole from bytes a → to ≢ from
linked_other from to bytes a b (between, made, keeps, free) (number, stands, has, is) same =
    let under : standing from between ≡ Some number = keeps.stands from ∙ stands in
    let none : standing from between ≡ None = subst (λ (name : List ℕ). standing name between ≡ None) same free in
    cc

-- the name is put on disk, or taken away again
pub sync_keep : (folder name bytes : List ℕ) (IsNew : List ℕ → Type 0) (a b : List Asked) → IsNew name → AddsSync name a b → Adds (MayKeep folder IsNew bytes) a b
sync_keep folder name bytes IsNew a b named (asked, made, call) = (asked ∷ [], made, (subst (λ c. MayKeep folder IsNew bytes c a) (sym call) named, tt))

pub kept_is : (from to bytes : List ℕ) (a b c : List Asked) → HasLinked from to a b → IsWhole from bytes a → AddsSync to b c → has_synced_name to c ≡ true → IsKept from to bytes c
kept_is from to bytes a b c linked whole sync synced =
    (linked_other from to bytes a b linked whole, (whole_synced to to bytes b c sync (linked_whole from to bytes a b linked whole), synced))

-- the first name is taken away, whatever comes of it
removed_left : (temporary name bytes : List ℕ) (call : Call) (before : List Asked) → call ≡ Remove temporary → IsKept temporary name bytes before
    → IsOnDisk name bytes (Done call ∷ before) × IsOnDisk name bytes (Refused call ∷ before) × IsOnDisk name bytes (Failed call ∷ before)
removed_left temporary name bytes call before is (differ, ((number, stands, has, synced), named)) =
    let no : bytes_eq name temporary ≡ false = other_name name temporary differ in
    let Stays : Call → Type 0 = λ c. IsOnDisk name bytes (Done c ∷ before) × IsOnDisk name bytes (Refused c ∷ before) × IsOnDisk name bytes (Failed c ∷ before) in
    subst Stays (sym is) (((number, rw no stands, has, synced), rw no named), ((number, rw no stands, has, synced), rw no named), ((number, rw no stands, has, synced), rw no named))

pub removed_on_disk : {A : Type 0} (result : Result A Error) (temporary name bytes : List ℕ) (a b : List Asked) → b ≡ came_to result (Remove temporary) ∷ a → IsKept temporary name bytes a → IsOnDisk name bytes b
removed_on_disk result temporary name bytes a b made kept =
    let parts : IsOnDisk name bytes (Done (call_of (came_to result (Remove temporary))) ∷ a) × IsOnDisk name bytes (Refused (call_of (came_to result (Remove temporary))) ∷ a) × IsOnDisk name bytes (Failed (call_of (came_to result (Remove temporary))) ∷ a)
    = removed_left temporary name bytes (call_of (came_to result (Remove temporary))) a (call_came result (Remove temporary)) kept in
    subst (λ (l : List Asked). IsOnDisk name bytes l) (sym made) (whatever_came (λ x. IsOnDisk name bytes (x ∷ a)) (came_to result (Remove temporary)) parts.0 parts.1 parts.2)

-- a new file is written, and gets its name: what is asked for it, and what it is then
pub link_kept : (folder : List ℕ) (file : Opened) (from bytes : List ℕ) (IsNew : List ℕ → Type 0) (a b c : List Asked) → IsNewIn folder file from a → Adds (MayWrite file) a b → Fills file.number bytes a b → Adds (MayLink from IsNew) b c
    → Adds (MayKeep folder IsNew bytes) a c
link_kept folder file from bytes IsNew a b c new writes fills links =
    added_twice (MayKeep folder IsNew bytes) a b c (write_keeps folder bytes IsNew file from a b new writes)
    (linked_keep folder from bytes IsNew b c (new_temporary folder file from a new) links (written_whole folder file from bytes a b new writes fills))

pub sync_kept : (folder : List ℕ) (file : Opened) (from to bytes : List ℕ) (IsNew : List ℕ → Type 0) (a b c d : List Asked) → IsNewIn folder file from a → Adds (MayWrite file) a b → Fills file.number bytes a b → Adds (MayLink from IsNew) b c
    → IsNew to → AddsSync to c d → Adds (MayKeep folder IsNew bytes) a d
sync_kept folder file from to bytes IsNew a b c d new writes fills links named sync =
    added_twice (MayKeep folder IsNew bytes) a c d (link_kept folder file from bytes IsNew a b c new writes fills links) (sync_keep folder to bytes IsNew c d named sync)

-- where the name can't be put on disk, it is taken away again
pub unkept : {A : Type 0} (result : Result A Error) (folder : List ℕ) (file : Opened) (from to bytes : List ℕ) (IsNew : List ℕ → Type 0) (a b c d e : List Asked) → IsNewIn folder file from a → Adds (MayWrite file) a b → Fills file.number bytes a b
    → Adds (MayLink from IsNew) b c → HasLinked from to b c → IsNew to → AddsSync to c d → e ≡ came_to result (Remove to) ∷ d → Adds (MayKeep folder IsNew bytes) a e
unkept result folder file from to bytes IsNew a b c d e new writes fills links linked named sync removed =
    added_call (MayKeep folder IsNew bytes) a d e result (Remove to) (sync_kept folder file from to bytes IsNew a b c d new writes fills links named sync) removed
    (inr (named, whole_synced to to bytes c d sync (linked_whole from to bytes b c linked (written_whole folder file from bytes a b new writes fills))))

pub kept_on_disk : {A K : Type 0} (path : K → List ℕ) (kept : Result K Error) (result : Result A Error) (temporary bytes : List ℕ) (a b : List Asked) → b ≡ came_to result (Remove temporary) ∷ a
    → IfOk kept (λ k. IsKept temporary (path k) bytes a) → IfOk kept (λ k. IsOnDisk (path k) bytes b)
kept_on_disk path (Ok k) result temporary bytes a b removed kept = removed_on_disk result temporary (path k) bytes a b removed kept
kept_on_disk path (Err _) result temporary bytes a b removed kept = tt

-- THE FILE UNDER ITS NAME

-- to put names on disk changes none
sync_stands : (name folder : List ℕ) (a b : List Asked) → AddsSync folder a b → standing name b ≡ standing name a
sync_stands name folder a b (asked, made, call) =
    let Stays : Call → Type 0 = λ c. (standing name (Done c ∷ a) ≡ standing name a) × (standing name (Refused c ∷ a) ≡ standing name a) × (standing name (Failed c ∷ a) ≡ standing name a) in
    let parts : Stays (call_of asked) = subst Stays (sym call) (refl, refl, refl) in
    subst (λ (l : List Asked). standing name l ≡ standing name a) (sym made) (whatever_came (λ x. standing name (x ∷ a) ≡ standing name a) asked parts.0 parts.1 parts.2)

-- to take another name away leaves this one
removed_stands : {A : Type 0} (result : Result A Error) (temporary name : List ℕ) (a b : List Asked) → name ≢ temporary → b ≡ came_to result (Remove temporary) ∷ a → standing name b ≡ standing name a
removed_stands result temporary name a b differ made =
    let no : bytes_eq name temporary ≡ false = other_name name temporary differ in
    let Stays : Call → Type 0 = λ c. (standing name (Done c ∷ a) ≡ standing name a) × (standing name (Refused c ∷ a) ≡ standing name a) × (standing name (Failed c ∷ a) ≡ standing name a) in
    let parts : Stays (call_of (came_to result (Remove temporary))) = subst Stays (sym (call_came result (Remove temporary))) (rw no refl, rw no refl, rw no refl) in
    subst (λ (l : List Asked). standing name l ≡ standing name a) (sym made) (whatever_came (λ x. standing name (x ∷ a) ≡ standing name a) (came_to result (Remove temporary)) parts.0 parts.1 parts.2)

-- it is the new file
pub kept_stands : (folder : List ℕ) (file : Opened) (from to : List ℕ) (a b c d : List Asked) → IsNewIn folder file from a → Adds (MayWrite file) a b → HasLinked from to b c → AddsSync to c d
    → standing to d ≡ Some file.number
kept_stands folder file from to a b c d new writes linked sync =
    sync_stands to to c d sync ∙ linked_stands from to b c linked ∙ filled_keeps file from a b (write_fills file a b writes) ∙ new_stands folder file from a new

pub made_kept : {A K : Type 0} (path : K → List ℕ) (kept : Result K Error) (result : Result A Error) (temporary bytes : List ℕ) (number : ℕ) (old a b : List Asked) → length old ≤ number
    → b ≡ came_to result (Remove temporary) ∷ a → IfOk kept (λ k. IsKept temporary (path k) bytes a) → IfOk kept (λ k. standing (path k) a ≡ Some number) → IfOk kept (λ k. WasMade (path k) old b)
made_kept path (Ok k) result temporary bytes number old a b since removed (differ, disk) stands = (number, since, removed_stands result temporary (path k) a b differ removed ∙ stands)
made_kept path (Err _) result temporary bytes number old a b since removed kept stands = tt
