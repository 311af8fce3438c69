-- Which names a file may get (own profile).
use Rattle.std.specs.Prelude.{◌≡◌, ◌⊎◌, ◌≤◌, ◌+◌, ℕ, List, ◌++◌, true, Contains, codes, decimal, drop, length, nat_eq}
use Rattle.std.specs.List.{starts_with, ends_with}
use Rattle.rje_folder.specs.declared.file_names.FileNames.{FileNames}
use Rattle.rje_folder.specs.declared.file_names.FileNames.TheVariants.{Of, Numbered}
use Rattle.rje_folder.specs.ReadyFile.{file_of_name}

-- A name with a dot and a number before an ending of it. Some of what stands in front of that may be left out, but nothing of its folder, since there
-- is no slash behind what is kept; and by its name the file is what it was.
pub record IsWithNumber (name path : List ℕ) : Type 0 where
  pub front : List ℕ
  pub ending : List ℕ
  pub number : ℕ
  pub begins : starts_with nat_eq name front ≡ true
  pub ends : ends_with nat_eq name ending ≡ true
  pub folder : Contains (drop (length front) name) 47 → ⊥
  pub is : path ≡ front ++ (codes "." ++ (decimal number ++ ending))
  pub kind : file_of_name path ≡ file_of_name name

-- a name, or the name with a number
abbrev pub IsNumbered : (name path : List ℕ) → Type 0
IsNumbered name path = (path ≡ name) ⊎ IsWithNumber name path

-- the same, or the name with a dot and a number at its end
abbrev pub IsNamedAfter : (name path : List ℕ) → Type 0
IsNamedAfter name path = IsNumbered name path ⊎ ((number : ℕ) × (path ≡ name ++ (codes "." ++ decimal number)))

-- two pieces with a dash and a number between them
abbrev pub IsBetween : (stem ending path : List ℕ) → Type 0
IsBetween stem ending path = (number : ℕ) × (path ≡ stem ++ (codes "-" ++ (decimal number ++ ending)))

-- the same with the number before `next`, which is one from `first` on
abbrev pub IsBetweenFrom : (stem ending : List ℕ) → (first next : ℕ) → (path : List ℕ) → Type 0
IsBetweenFrom stem ending first next path = (number : ℕ) × (first ≤ number) × (next ≡ number + 1) × (path ≡ stem ++ (codes "-" ++ (decimal number ++ ending)))

-- one of the names that a file may get
abbrev pub IsNameOf : FileNames → List ℕ → Type 0
IsNameOf (Of name) path = IsNumbered name.now path
IsNameOf (Numbered stem ending first) path = IsBetween stem.now ending.now path

-- the same, and this is the number that comes after the one in a name with a number between two pieces
abbrev pub IsNameBefore : FileNames → (next : ℕ) → (path : List ℕ) → Type 0
IsNameBefore (Of name) next path = IsNumbered name.now path
IsNameBefore (Numbered stem ending first) next path = IsBetweenFrom stem.now ending.now first next path
