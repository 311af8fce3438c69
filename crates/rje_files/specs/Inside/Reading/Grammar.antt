-- Job files from the front, byte by byte: a device of the proofs; no promise rests on this file.
-- The file's grammar.
use Rattle.std.specs.Prelude.{◌≡◌, ℕ, zero, suc, ◌+◌, ◌*◌, ◌<◌, ◌≤◌, Bool, true, false, ◌||◌, List, [], ◌∷◌, Option, Some, None, is_some, ◌==◌, if◌then◌else◌}
use Rattle.rje_text.specs.Action.{action_of}
use Rattle.rje_files.specs.declared.job_file.version.FileVersion.{FileVersion}
use Rattle.rje_files.specs.declared.job_file.version.FileVersion.TheVariants.{First, Second}
use Rattle.rje_files.specs.Entry.{may_stand}
use Rattle.rje_files.specs.JobFile.{head}

-- one byte that meets Good, and then what Rest says
abbrev pub OneByte : (ℕ → Type 0) → (ℕ → List ℕ → Type 0) → List ℕ → Type 0
OneByte Good Rest [] = ⊥
OneByte Good Rest (x ∷ xs) = Good x × Rest x xs

-- just these bytes
abbrev pub TheseBytes : List ℕ → (List ℕ → Type 0) → List ℕ → Type 0
TheseBytes [] Rest xs = Rest xs
TheseBytes (h ∷ hs) Rest [] = ⊥
TheseBytes (h ∷ hs) Rest (x ∷ xs) = (x ≡ h) × TheseBytes hs Rest xs

-- n bytes more of a number whose bytes so far are v
abbrev pub Number : ℕ → ℕ → (ℕ → List ℕ → Type 0) → List ℕ → Type 0
Number zero v Rest xs = Rest v xs
Number (suc n) v Rest [] = ⊥
Number (suc n) v Rest (x ∷ xs) = (x < 256) × Number n (v * 256 + x) Rest xs

-- any n bytes
abbrev pub AnyBytes : ℕ → (List ℕ → Type 0) → List ℕ → Type 0
AnyBytes zero Rest xs = Rest xs
AnyBytes (suc n) Rest [] = ⊥
AnyBytes (suc n) Rest (x ∷ xs) = AnyBytes n Rest xs

-- the byte of an action: 0 for Plain, else a code
abbrev pub is_action_byte : ℕ → Bool
is_action_byte byte = byte == 0 || is_some (action_of byte)

-- after an action: a length and as many bytes
abbrev pub AfterAction : (List ℕ → Type 0) → List ℕ → Type 0
AfterAction Rest = OneByte (λ n. n ≤ 144) (λ n. AnyBytes n Rest)

-- `n` records
abbrev pub Records : ℕ → (List ℕ → Type 0) → List ℕ → Type 0
Records zero Rest xs = Rest xs
Records (suc r) Rest xs = OneByte (λ a. is_action_byte a ≡ true) (λ a. AfterAction (Records r Rest)) xs

-- n bytes more of a name, which has ended or not
abbrev pub Name : ℕ → Bool → (List ℕ → Type 0) → List ℕ → Type 0
Name zero ended Rest xs = Rest xs
Name (suc n) ended Rest [] = ⊥
Name (suc n) ended Rest (x ∷ xs) = (may_stand ended x ≡ true) × Name n (x == 0x20) Rest xs

-- after an entry's mode: whether it is whole, in version 1
abbrev pub AfterMode : FileVersion → (List ℕ → Type 0) → List ℕ → Type 0
AfterMode First Rest = OneByte (λ w. w < 2) (λ w. Rest)
AfterMode Second Rest = Rest

abbrev pub AfterSelect : FileVersion → (List ℕ → Type 0) → List ℕ → Type 0
AfterSelect version Rest = OneByte (λ m. m < 2) (λ m. AfterMode version Rest)

abbrev pub FromSelect : FileVersion → (List ℕ → Type 0) → List ℕ → Type 0
FromSelect version Rest = OneByte (λ s. s < 3) (λ s. AfterSelect version Rest)

abbrev pub FromState : FileVersion → (List ℕ → Type 0) → List ℕ → Type 0
FromState version Rest = OneByte (λ t. t < 4) (λ t. FromSelect version Rest)

-- an entry's fields: its name and its state, in version 2, its selection, its mode
abbrev pub Fields : FileVersion → (List ℕ → Type 0) → List ℕ → Type 0
Fields First Rest = FromSelect First Rest
Fields Second Rest = Name 8 false (FromState Second Rest)

-- after an entry's fields
abbrev pub Counted : (ℕ → List ℕ → Type 0) → List ℕ → Type 0
Counted Rest = Number 8 0 Rest

-- `n` entries, and nothing after them
abbrev pub Entries : FileVersion → ℕ → List ℕ → Type 0
Entries version zero xs = xs ≡ []
Entries version (suc j) xs = Fields version (Counted (λ r. Records r (Entries version j))) xs

-- the version of this byte, if it is read
abbrev pub version_read : FileVersion → ℕ → Option FileVersion
version_read First byte = if byte == 1 then Some First else None
version_read Second byte = if byte == 1 then Some First else (if byte == 2 then Some Second else None)

-- after a version's byte
abbrev pub AfterVersion : Option FileVersion → List ℕ → Type 0
AfterVersion None xs = ⊥
AfterVersion (Some version) xs = Counted (Entries version) xs

abbrev pub FromVersion : FileVersion → List ℕ → Type 0
FromVersion newest [] = ⊥
FromVersion newest (x ∷ xs) = AfterVersion (version_read newest x) xs

-- a whole file of a version that is read
abbrev pub File : FileVersion → List ℕ → Type 0
File newest xs = TheseBytes head (FromVersion newest) xs
