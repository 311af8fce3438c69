-- A second name by which a file of out/ is read.
use Rattle.std.proofs.Common.{◌≡◌, ℕ, inl, inr, List, [], ◌∷◌, ◌++◌, Result, Ok, Err, IfOk, refl, sym, ◌∙◌, ap, subst}
use Rattle.std.proofs.lemmas.List.{append_assoc}
use Rattle.std.specs.Prelude.{codes, decimal}
use Rattle.std.specs.declared.io.Error.{Error}
use Rattle.rje_store.specs.Disk.{Asked, Opened, Done, Link, Remove, came_to}
use Rattle.rje_store.specs.Replacing.{Adds}
use Rattle.rje_store.proofs.Replacing.{added_call, added_weaker}
use Rattle.rje_folder.specs.declared.folder.Folder.{Folder}
use Rattle.rje_folder.specs.FileNames.{IsBetween}
use Rattle.rje_folder.specs.Folder.{path_in, path_of}
use Rattle.rje_folder.specs.Keeping.{IsTemporary}
use Rattle.rje_folder.specs.Moving.{MayLink}
use Rattle.rje_folder.specs.Reading.{GotSecond, MayRead}
use Rattle.rje_folder.specs.Inside.Calls.{HasLinked}

-- a name with a number between these two pieces is one that is left alone
pub between_temporary : (folder stem ending path : List ℕ) → stem ≡ folder ++ codes "/.rje" → ending ≡ codes ".part" → IsBetween stem ending path → IsTemporary folder path
between_temporary folder stem ending path at ends (number, is) = (
  number,
  is ∙ ap (λ (l : List ℕ). l ++ (codes "-" ++ (decimal number ++ ending))) at ∙ append_assoc folder (codes "/.rje") (codes "-" ++ (decimal number ++ ending))
      ∙ ap (λ (l : List ℕ). folder ++ (codes "/.rje-" ++ (decimal number ++ l))) ends,
)

-- what is asked to give a file such a name
pub link_temporary : (from folder stem ending : List ℕ) (a b : List Asked) → stem ≡ folder ++ codes "/.rje" → ending ≡ codes ".part" → Adds (MayLink from (IsBetween stem ending)) a b → Adds (MayLink from (IsTemporary folder)) a b
link_temporary from folder stem ending a b at ends adds =
    added_weaker (MayLink from (IsBetween stem ending)) (MayLink from (IsTemporary folder)) (λ call before (name, is, e). (name, between_temporary folder stem ending name at ends is, e)) a b adds

-- what is asked to give the file of a name in out/ such a name in refused/
pub link_reads : (station name : List ℕ) (a b : List Asked) → Adds (MayLink (path_in station Folder.Out name) (IsTemporary (path_of station Folder.Refused))) a b → Adds (MayRead station name) a b
link_reads station name a b adds =
    added_weaker (MayLink (path_in station Folder.Out name) (IsTemporary (path_of station Folder.Refused))) (MayRead station name) (λ call before (second, temporary, e). (second, temporary, inl e)) a b adds

-- and then to take it away
pub remove_reads : {A : Type 0} (removed : Result A Error) (station name second : List ℕ) (a b c : List Asked) → IsTemporary (path_of station Folder.Refused) second
    → Adds (MayLink (path_in station Folder.Out name) (IsTemporary (path_of station Folder.Refused))) a b → HasLinked (path_in station Folder.Out name) second a b → c ≡ came_to removed (Remove second) ∷ b → Adds (MayRead station name) a c
remove_reads removed station name second a b c temporary adds (between, made, keeps, free) is =
    added_call (MayRead station name) a b c removed (Remove second) (link_reads station name a b adds) is (second, temporary, inr (refl, (between, made)))

-- the file was given that name
pub got_second : {A : Type 0} (removed : Result A Error) (station name second : List ℕ) (a b c : List Asked) → IsTemporary (path_of station Folder.Refused) second
    → HasLinked (path_in station Folder.Out name) second a b → c ≡ came_to removed (Remove second) ∷ b → GotSecond station name second a c
got_second removed station name second a b c temporary (between, made, keeps, free) is = (
  temporary,
  (came_to removed (Remove second) ∷ [], keeps.on.0, is ∙ ap (λ (l : List Asked). came_to removed (Remove second) ∷ l) (made ∙ ap (λ (l : List Asked). Done (Link (path_in station Folder.Out name) second) ∷ l) keeps.on.1)),
)

-- what holds of the name that a file was opened by holds of that of the same file, if it is given back
pub opened_named : {N F E : Type 0} (file_of : N → F) (opened : F → Opened) (file : F) (result : Result N E) (P : List ℕ → Type 0) → IfOk result (λ named. opened (file_of named) ≡ opened file) → P (opened file).name
    → IfOk result (λ named. P (opened (file_of named)).name)
opened_named file_of opened file (Ok named) P is p = subst (λ (o : Opened). P o.name) (sym is) p
opened_named file_of opened file (Err error) P is p = tt
