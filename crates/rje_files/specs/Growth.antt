-- How a job file goes on with one more job (own profile).
use Rattle.std.specs.Prelude.{◌≡◌, ℕ, List, [], ◌∷◌, ◌++◌, length, drop}
use Rattle.rje_files.specs.declared.entry.Entry.{Entry}
use Rattle.rje_files.specs.declared.job_file.version.FileVersion.TheVariants.{Second}
use Rattle.rje_files.specs.JobFile.{IsEntryFileOf}

-- bytes with a piece in front, in place of as many, and another at the end
abbrev pub grown : (front tail bytes : List ℕ) → List ℕ
grown front tail bytes = front ++ (drop (length front) bytes ++ tail)

-- with these pieces the version 2 file of `count` entries becomes that of the same and this one
abbrev pub GrowsBy : ℕ → Entry → (front tail : List ℕ) → Type 0
GrowsBy count e front tail =
    (es : List Entry) (bytes : List ℕ) → length es ≡ count → IsEntryFileOf Second es bytes → IsEntryFileOf Second (es ++ e ∷ []) (grown front tail bytes)
