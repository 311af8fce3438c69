-- The hidden names that files of out/ have for a moment (own profile).
use Rattle.std.specs.Prelude.{◌≡◌, ℕ, List, ◌++◌, Bool, String, codes, decimal, drop, take, string_bytes}
use Rattle.std.specs.Cmp.Lexicographic.{slice_cmp}
use Rattle.std.specs.List.{IsFirstMatchOrLen}
use Rattle.std.specs.Ordering.{is_lt, nat_cmp}
use Rattle.std.specs.declared.alloc.Global.{Global}
use Rattle.rje_folder.specs.declared.folder.Folder.{Folder}
use Rattle.rje_folder.specs.Folder.{path_in}

-- a hidden name for a file of this name
abbrev pub IsTakenName : (name hidden : List ℕ) → Type 0
IsTakenName name hidden = (number : ℕ) × (hidden ≡ codes "." ++ (name ++ (codes ".taken-" ++ decimal number)))

-- the path of such a name in out/
abbrev pub IsTakenPath : (station name path : List ℕ) → Type 0
IsTakenPath station name path = (hidden : List ℕ) × IsTakenName name hidden × (path ≡ path_in station Folder.Out hidden)

-- a name comes after another one in the order of their bytes
abbrev pub comes_after : (last name : List ℕ) → Bool
comes_after last name = is_lt (slice_cmp nat_cmp last name)

-- Of some names in order, those that are tried next where one was tried last: eight of them, from the first that comes after it on, and where these are
-- too few from the first of all on. So the names take turns.
abbrev pub AreNext : (last : List ℕ) → (names next : List (String Global)) → Type 0
AreNext last names next = (first : ℕ) × IsFirstMatchOrLen (λ name. comes_after last (string_bytes name)) names first × (next ≡ take 8 (drop first names ++ take first names))
