-- This file of a name, and no other, gets a second one: call after call.
use Rattle.std.proofs.Common.{◌≡◌, ◌≢◌, ℕ, inl, inr, List, [], ◌∷◌, ◌++◌, Option, Result, Bool, true, false, if◌then◌else◌, get_or, arith, refl, ◌∙◌, ap}
use Rattle.std.specs.Prelude.{bytes_eq, codes, decimal}
use Rattle.std.specs.declared.io.Error.{Error}
use Rattle.std.proofs.lemmas.List.{append_assoc, append_cancel_left}
use Rattle.rje_store.specs.Disk.{Asked, Call, Remove, came_to, standing}
use Rattle.rje_store.specs.Replacing.{Adds, Each}
use Rattle.rje_store.proofs.Replacing.{added_call, added_twice, added_weaker}
use Rattle.rje_folder.specs.declared.file_identity.FileIdentity.{FileIdentity}
use Rattle.rje_folder.specs.declared.folder.Folder.{Folder}
use Rattle.rje_folder.specs.Folder.{path_in, path_of}
use Rattle.rje_folder.specs.Keeping.{IsTemporary}
use Rattle.rje_folder.specs.FileNames.{IsBetween}
use Rattle.rje_folder.specs.Moving.{IsSecond, MayDrop, MayLink}
use Rattle.rje_folder.specs.Trying.{MayAddOf, MayNameTried, MayTry, Trial}
use Rattle.rje_folder.specs.Inside.Calls.{HasLinked, HasNamed}
use Rattle.rje_folder.proofs.Linked.{linked_stands}
use Rattle.rje_folder.proofs.Taken.{other_name, removed_kept, removed_standing, sync_keeps_standing}

-- each call that was added is one after those before
abbrev pub Since : List Asked → (Call → List Asked → Type 0) → Call → List Asked → Type 0
Since first P call before = ((later : List Asked) × (before ≡ later ++ first)) × P call before

each_since : (P : Call → List Asked → Type 0) (calls before : List Asked) → Each P calls before → Each (Since before P) calls before
each_since P [] before p = tt
each_since P (asked ∷ calls) before (p, ps) = (((calls, refl), p), each_since P calls before ps)

added_since : (P : Call → List Asked → Type 0) (a b : List Asked) → Adds P a b → Adds (Since a P) a b
added_since P a b (calls, e, each) = (calls, e, each_since P calls a each)

-- what is asked to try a file, to name it once it was seen, and to take the second name away again
pub try_adds : (is_file : List Asked → List ℕ → FileIdentity → Type 0) (are_one : List Asked → List ℕ → List ℕ → Type 0) (t : Trial) (IsNew : List ℕ → Type 0) (a b : List Asked)
    → Adds (MayTry t.folder t.name) a b → Adds (MayAddOf is_file are_one t IsNew) a b
try_adds is_file are_one t IsNew a b adds = added_weaker (MayTry t.folder t.name) (MayAddOf is_file are_one t IsNew) (λ call before may. inl may) a b adds

tried_adds : (is_file : List Asked → List ℕ → FileIdentity → Type 0) (are_one : List Asked → List ℕ → List ℕ → Type 0) (t : Trial) (IsNew : List ℕ → Type 0) (tried : List ℕ) (a b : List Asked)
    → IsTemporary t.folder tried → is_file a tried t.file → Adds (MayNameTried are_one tried IsNew) a b → Adds (MayAddOf is_file are_one t IsNew) a b
tried_adds is_file are_one t IsNew tried a b named seen adds =
    added_weaker (Since a (MayNameTried are_one tried IsNew)) (MayAddOf is_file are_one t IsNew) (λ call before ((later, e), may). inr (inl (tried, (named, (later, a, e, seen)), may))) a b
    (added_since (MayNameTried are_one tried IsNew) a b adds)

pub second_adds : (is_file : List Asked → List ℕ → FileIdentity → Type 0) (are_one : List Asked → List ℕ → List ℕ → Type 0) (t : Trial) (IsNew : List ℕ → Type 0) (tried : List ℕ) (a b c : List Asked)
    → Adds (MayTry t.folder t.name) a b → IsTemporary t.folder tried → is_file b tried t.file → Adds (MayNameTried are_one tried IsNew) b c → Adds (MayAddOf is_file are_one t IsNew) a c
second_adds is_file are_one t IsNew tried a b c tries named seen adds =
    added_twice (MayAddOf is_file are_one t IsNew) a b c (try_adds is_file are_one t IsNew a b tries) (tried_adds is_file are_one t IsNew tried b c named seen adds)

pub dropped_adds : (is_file : List Asked → List ℕ → FileIdentity → Type 0) (are_one : List Asked → List ℕ → List ℕ → Type 0) (t : Trial) (IsNew : List ℕ → Type 0) (second : List ℕ) (a b c : List Asked)
    → Adds (MayAddOf is_file are_one t IsNew) a b → IsNew second → Adds (MayDrop are_one t.name second) b c → Adds (MayAddOf is_file are_one t IsNew) a c
dropped_adds is_file are_one t IsNew second a b c adds named drops = added_twice (MayAddOf is_file are_one t IsNew) a b c adds
    (added_weaker (MayDrop are_one t.name second) (MayAddOf is_file are_one t IsNew) (λ call before may. inr (inr (second, named, may))) b c drops)

-- a name with a number between these pieces is a hidden one
pub between_temporary : (folder stem path : List ℕ) → stem ≡ folder ++ codes "/.rje" → IsBetween stem (codes ".part") path → IsTemporary folder path
between_temporary folder stem path is (number, e) = (number, e ∙ ap (λ s. s ++ (codes "-" ++ (decimal number ++ codes ".part"))) is ∙ append_assoc folder (codes "/.rje") (codes "-" ++ (decimal number ++ codes ".part")))

-- what is asked to give whatever has a name such a one
pub link_tries : (folder name stem : List ℕ) (a b : List Asked) → stem ≡ folder ++ codes "/.rje" → Adds (MayLink name (IsBetween stem (codes ".part"))) a b → Adds (MayTry folder name) a b
link_tries folder name stem a b is adds =
    added_weaker (MayLink name (IsBetween stem (codes ".part"))) (MayTry folder name) (λ call before (tried, between, e). (tried, between_temporary folder stem tried is between, inl e)) a b adds

-- what is asked to name a file that was tried
pub link_names : (are_one : List Asked → List ℕ → List ℕ → Type 0) (tried : List ℕ) (IsNew : List ℕ → Type 0) (a b : List Asked) → Adds (MayLink tried IsNew) a b → Adds (MayNameTried are_one tried IsNew) a b
link_names are_one tried IsNew a b adds = added_weaker (MayLink tried IsNew) (MayNameTried are_one tried IsNew) (λ call before may. inl (inl may)) a b adds

pub named_adds : (are_one : List Asked → List ℕ → List ℕ → Type 0) (tried second : List ℕ) (IsNew : List ℕ → Type 0) (a b c : List Asked) → IsNew second → Adds (MayLink tried IsNew) a b → Adds (MayDrop are_one second tried) b c
    → Adds (MayNameTried are_one tried IsNew) a c
named_adds are_one tried second IsNew a b c named links drops = added_twice (MayNameTried are_one tried IsNew) a b c (link_names are_one tried IsNew a b links)
    (added_weaker (MayDrop are_one second tried) (MayNameTried are_one tried IsNew) (λ call before may. inr (inl (second, named, may))) b c drops)

pub given_up_adds : {A : Type 0} (are_one : List Asked → List ℕ → List ℕ → Type 0) (tried second : List ℕ) (IsNew : List ℕ → Type 0) (result : Result A Error) (a b c d e : List Asked) → IsNew second
    → Adds (MayLink tried IsNew) a b → Adds (MayDrop are_one second tried) b c → Adds (MayDrop are_one tried second) c d → e ≡ came_to result (Remove tried) ∷ d → Adds (MayNameTried are_one tried IsNew) a e
given_up_adds are_one tried second IsNew result a b c d e named links spares drops made =
    let may = MayNameTried are_one tried IsNew in
    added_call may a d e result (Remove tried)
    (added_twice may a c d (named_adds are_one tried second IsNew a b c named links spares)
    (added_weaker (MayDrop are_one tried second) may (λ call before m. inl (inr (second, named, m))) c d drops))
    made (inr (inr refl))

-- the second name is one of the file that stood under the first, which it has still
either_is : (b : Bool) (x y z : Option ℕ) → x ≡ z → y ≡ z → (if b then x else y) ≡ z
either_is true x y z e f = e
either_is false x y z e f = f

link_keeps : (from to name : List ℕ) (a b : List Asked) (z : Option ℕ) → HasLinked from to a b → standing from a ≡ z → standing name a ≡ z → standing name b ≡ z
link_keeps from to name a b z (between, made, keeps, free) e f =
    ap (standing name) made ∙ either_is (bytes_eq name to) (standing from between) (standing name between) z (keeps.stands from ∙ e) (keeps.stands name ∙ f)

pub tried_is_second : (name tried second : List ℕ) (a b c : List Asked) → name ≢ tried → HasLinked name tried a b → HasNamed tried second b c → IsSecond name second a c
tried_is_second name tried second a b c differ first (m, linked, (n, sync, synced, removed)) = (
  removed_standing second tried n c removed ∙ sync_keeps_standing second second m n sync ∙ linked_stands tried second b m linked ∙ linked_stands name tried a b first,
  ap (standing name) removed.1 ∙ rw (other_name name tried differ) refl ∙ sync_keeps_standing second name m n sync
      ∙ link_keeps tried second name b m (standing name a) linked (linked_stands name tried a b first) (link_keeps name tried name a b (standing name a) first refl refl),
  removed_kept second tried n c removed synced,
)

-- a name in out/ is no hidden one in doubt/ or refused/
pub out_is_not_hidden_in_doubt : (station name : List ℕ) → IsTemporary (path_of station Folder.Doubt) (path_in station Folder.Out name) → ⊥
out_is_not_hidden_in_doubt station name (number, e) =
    let g : 111 ≡ 100 = ap (λ (l : List ℕ). get_or l 1 0) (append_cancel_left station _ _ (e ∙ append_assoc station _ _)) in
    omega (arith, g)

pub out_is_not_hidden_in_refused : (station name : List ℕ) → IsTemporary (path_of station Folder.Refused) (path_in station Folder.Out name) → ⊥
out_is_not_hidden_in_refused station name (number, e) =
    let g : 111 ≡ 114 = ap (λ (l : List ℕ). get_or l 1 0) (append_cancel_left station _ _ (e ∙ append_assoc station _ _)) in
    omega (arith, g)
