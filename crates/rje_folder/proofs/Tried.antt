-- A new file of which is tried whether it can be kept: call after call.
use Rattle.std.proofs.Common.{◌≡◌, ℕ, inl, inr, List, ◌∷◌, length, Option, Some, None, Result, Ok, Err, OnOk, Bool, true, false, if◌then◌else◌, refl, sym, ◌∙◌, ap, subst}
use Rattle.std.specs.Prelude.{bytes_eq}
use Rattle.std.specs.IoError.{error_kind}
use Rattle.std.specs.declared.io.Error.{Error}
use Rattle.rje_store.specs.declared.new_access.NewAccess.{NewAccess}
use Rattle.rje_store.specs.Disk.{Asked, Call, Opened, Done, Refused, Failed, Create, Remove, call_of, came_to, standing}
use Rattle.rje_store.specs.Replacing.{Adds}
use Rattle.rje_store.specs.Inside.Filling.{Fills}
use Rattle.rje_store.proofs.Replacing.{added_weaker, call_came, filled_keeps, standing_below, whatever_came}
use Rattle.rje_folder.specs.Keeping.{HasTriedToKeep, IsTemporary, LeavesNone, MayTryToKeep}
use Rattle.rje_folder.specs.Inside.Calls.{IsNewIn, LeavesOne, MayCreate, MayWrite}
use Rattle.rje_folder.proofs.Linked.{failed_is}
use Rattle.rje_folder.proofs.NewFile.{file_temporary, new_temporary, write_fills, written_whole}
use Rattle.rje_folder.proofs.Taken.{differs, other_name}

-- what is asked to make it
pub create_tries : (folder : List ℕ) (a b : List Asked) → Adds (MayCreate folder) a b → Adds (MayTryToKeep folder) a b
create_tries folder a b adds =
    added_weaker (MayCreate folder) (MayTryToKeep folder) (λ call before (name, temporary, e). subst (λ c. MayTryToKeep folder c before) (sym e) temporary) a b adds

-- what is asked to write it
pub write_tries : (folder : List ℕ) (file : Opened) (name : List ℕ) (a b : List Asked) → IsNewIn folder file name a → Adds (MayWrite file) a b → Adds (MayTryToKeep folder) a b
write_tries folder file name a b new adds = added_weaker (MayWrite file) (MayTryToKeep folder) (write_may folder file (file_temporary folder file name a new)) a b adds where
  write_may : (folder : List ℕ) (file : Opened) → IsTemporary folder file.name → (call : Call) (before : List Asked) → MayWrite file call before → MayTryToKeep folder call before
  write_may folder file temporary call before (inl (written, e, empty)) = subst (λ c. MayTryToKeep folder c before) (sym e) (temporary, empty)
  write_may folder file temporary call before (inr e) = subst (λ c. MayTryToKeep folder c before) (sym e) tt

-- it was whole before its name was taken away, where it could be written
pub tried_whole : {A B : Type 0} (filled : Result A Error) (removed : Result B Error) (folder : List ℕ) (file : Opened) (name bytes : List ℕ) (len : ℕ) (a b c : List Asked) → IsNewIn folder file name a → Adds (MayWrite file) a b
    → OnOk filled (Fills file.number bytes a b) → length bytes ≡ len → c ≡ came_to removed (Remove name) ∷ b → OnOk filled (HasTriedToKeep folder len c)
tried_whole (Err _) removed folder file name bytes len a b c new writes fills long made = tt
tried_whole (Ok _) removed folder file name bytes len a b c new writes fills long made =
    (name, bytes, b, came_to removed (Remove name), new_temporary folder file name a new, long, written_whole folder file name bytes a b new writes fills, made, call_came removed (Remove name))

-- WHAT IS LEFT

-- nothing was made
pub none_made : (a : List Asked) → LeavesNone a a
none_made a name number is = standing_below name a number is

-- a file that couldn't be made is none
create_failed : {A : Type 0} (result : Result A Error) (error : Error) (path name : List ℕ) (a b : List Asked) → result ≡ Err error → b ≡ came_to result (Create NewAccess.Private path) ∷ a → standing name b ≡ standing name a
create_failed {A = A} result error path name a b failed made =
    subst (λ (l : List Asked). standing name l ≡ standing name a) (sym (made ∙ ap (λ (r : Result A Error). came_to r (Create NewAccess.Private path) ∷ a) failed))
    (failed_is (λ x. standing name (x ∷ a) ≡ standing name a) (error_kind error) (Create NewAccess.Private path) refl refl)

pub none_failed : {A : Type 0} (result : Result A Error) (error : Error) (path : List ℕ) (a b c : List Asked) → result ≡ Err error → c ≡ came_to result (Create NewAccess.Private path) ∷ b → LeavesNone a b → LeavesNone a c
none_failed result error path a b c failed made none name number is = none name number (sym (create_failed result error path name b c failed made) ∙ is)

-- one that was made has its name alone
pub one_made : (path : List ℕ) (a b c : List Asked) → c ≡ Done (Create NewAccess.Private path) ∷ b → LeavesNone a b → LeavesOne path a c
one_made path a b c made none name number differ is =
    let under : (if bytes_eq name path then Some (length b) else standing name b) ≡ Some number = subst (λ (l : List Asked). standing name l ≡ Some number) made is in
    none name number (rw (other_name name path differ) at under)

-- and none, once that was taken away
kept_name : (t : Bool) (x : Option ℕ) (number : ℕ) → (if t then None else x) ≡ Some number → (t ≡ false) × (x ≡ Some number)
kept_name true x number is = cc
kept_name false x number is = (refl, is)

removed_name : {A : Type 0} (result : Result A Error) (path name : List ℕ) (a b : List Asked) → b ≡ came_to result (Remove path) ∷ a → standing name b ≡ (if bytes_eq name path then None else standing name a)
removed_name result path name a b made =
    let Is : Call → Type 0 = λ c. (standing name (Done c ∷ a) ≡ (if bytes_eq name path then None else standing name a)) × (standing name (Refused c ∷ a) ≡ (if bytes_eq name path then None else standing name a))
    × (standing name (Failed c ∷ a) ≡ (if bytes_eq name path then None else standing name a)) in
    let parts : Is (call_of (came_to result (Remove path))) = subst Is (sym (call_came result (Remove path))) (refl, refl, refl) in
    subst (λ (l : List Asked). standing name l ≡ (if bytes_eq name path then None else standing name a)) (sym made)
    (whatever_came (λ x. standing name (x ∷ a) ≡ (if bytes_eq name path then None else standing name a)) (came_to result (Remove path)) parts.0 parts.1 parts.2)

pub none_left : {A : Type 0} (result : Result A Error) (file : Opened) (path : List ℕ) (a b c d : List Asked) → LeavesOne path a b → Adds (MayWrite file) b c → d ≡ came_to result (Remove path) ∷ c → LeavesNone a d
none_left result file path a b c d one writes made name number is =
    let other : (bytes_eq name path ≡ false) × (standing name c ≡ Some number) = kept_name (bytes_eq name path) (standing name c) number (sym (removed_name result path name c d made) ∙ is) in
    one name number (differs name path other.0) (sym (filled_keeps file name b c (write_fills file b c writes)) ∙ other.1)
