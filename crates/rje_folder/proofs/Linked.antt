-- Calls that give a file another name.
use Rattle.std.proofs.Common.{◌≡◌, ℕ, List, [], ◌∷◌, ◌++◌, Result, Ok, Err, IfOk, refl, sym, ◌∙◌, ap, subst}
use Rattle.std.proofs.lemmas.List.{append_assoc}
use Rattle.std.specs.IoError.{error_kind}
use Rattle.std.specs.declared.io.Error.{Error}
use Rattle.std.specs.declared.io.ErrorKind.{ErrorKind}
use Rattle.rje_store.specs.Disk.{Asked, Call, Done, Refused, Failed, Link, came_to, failed_by, standing}
use Rattle.rje_store.proofs.Replacing.{same_name}
use Rattle.rje_store.specs.Replacing.{Adds}
use Rattle.rje_folder.specs.Keeping.{WasNamed}
use Rattle.rje_folder.specs.Inside.Calls.{HasLinked, KeepsFiles}

-- nothing was asked
pub keeps_none : (a : List Asked) → KeepsFiles a a
keeps_none a = record { stands = λ name. refl; has = λ number. refl; is = λ number. refl; on = ([], refl) }

pub keeps_twice : (a b c : List Asked) → KeepsFiles a b → KeepsFiles b c → KeepsFiles a c
keeps_twice a b c p q = record {
  stands = λ name. q.stands name ∙ p.stands name;
  has = λ number. q.has number ∙ p.has number;
  is = λ number. q.is number ∙ p.is number;
  on = (q.on.0 ++ p.on.0, q.on.1 ∙ ap (λ (l : List Asked). q.on.0 ++ l) p.on.1 ∙ sym (append_assoc q.on.0 p.on.0 a));
}

-- a call that failed, whatever the error says
pub failed_is : (P : Asked → Type 0) (kind : ErrorKind) (call : Call) → P (Refused call) → P (Failed call) → P (failed_by kind call)
failed_is P ErrorKind.InvalidInput call p q = p
failed_is P _ call p q = q

-- a link that failed leaves all files as they were
pub keeps_failed : {A : Type 0} (result : Result A Error) (error : Error) (from name : List ℕ) (a b : List Asked) → result ≡ Err error → b ≡ came_to result (Link from name) ∷ a → KeepsFiles a b
keeps_failed {A = A} result error from name a b failed made =
    subst (λ (l : List Asked). KeepsFiles a l) (sym (made ∙ ap (λ (r : Result A Error). came_to r (Link from name) ∷ a) failed))
    (failed_is (λ x. KeepsFiles a (x ∷ a)) (error_kind error) (Link from name)
    (record { stands = λ name. refl; has = λ number. refl; is = λ number. refl; on = (Refused (Link from name) ∷ [], refl) })
    (record { stands = λ name. refl; has = λ number. refl; is = λ number. refl; on = (Failed (Link from name) ∷ [], refl) }))

-- the name that a file has got stands for it
pub linked_stands : (from to : List ℕ) (a b : List Asked) → HasLinked from to a b → standing to b ≡ standing from a
linked_stands from to a b (between, made, keeps, free) = ap (standing to) made ∙ rw (same_name to) (keeps.stands from)

-- a file got that name
pub named_by_link : (from to : List ℕ) (a b : List Asked) → HasLinked from to a b → WasNamed to a b
named_by_link from to a b (between, made, keeps, free) =
    (from, keeps.on.0, [], made ∙ ap (λ (l : List Asked). Done (Link from to) ∷ l) keeps.on.1)

-- whatever is asked before, and whatever after
pub named_after : (P : Call → List Asked → Type 0) (name : List ℕ) (a b c : List Asked) → Adds P a b → WasNamed name b c → WasNamed name a c
named_after P name a b c (calls, is, each) (from, earlier, later, made) = (
  from,
  earlier ++ calls,
  later,
  made ∙ ap (λ (l : List Asked). later ++ (Done (Link from name) ∷ (earlier ++ l))) is ∙ ap (λ (l : List Asked). later ++ (Done (Link from name) ∷ l)) (sym (append_assoc earlier calls a)),
)

pub named_before_one : (name : List ℕ) (a b c : List Asked) (asked : Asked) → WasNamed name a b → c ≡ asked ∷ b → WasNamed name a c
named_before_one name a b c asked (from, earlier, later, made) is = (from, earlier, asked ∷ later, is ∙ ap (λ (l : List Asked). asked ∷ l) made)

-- the same where a call may have failed
pub named_where_ok : {K E : Type 0} (name : K → List ℕ) (P : Call → List Asked → Type 0) (result : Result K E) (asked : Asked) (a b c d : List Asked)
    → Adds P a b → IfOk result (λ kept. WasNamed (name kept) b c) → d ≡ asked ∷ c → IfOk result (λ kept. WasNamed (name kept) a d)
named_where_ok name P (Ok kept) asked a b c d before named is = named_before_one (name kept) a c d asked (named_after P (name kept) a b c before named) is
named_where_ok name P (Err error) asked a b c d before named is = tt
