-- The job file of one entry.
use Rattle.std.proofs.Common.{◌≡◌, ℕ, List, [], ◌∷◌, ◌++◌, drop, length, refl, subst, arith}
use Rattle.rje_files.specs.declared.entry.Entry.{Entry}
use Rattle.rje_files.specs.declared.job_file.version.FileVersion.TheVariants.{Second}
use Rattle.rje_files.specs.Growth.{GrowsBy}
use Rattle.rje_files.specs.JobFile.{IsEntryFileOf, file_of}

-- both pieces by which the file of none grows are the file of the one
pub one_entry_file : (e : Entry) (front tail : List ℕ) → GrowsBy 0 e front tail → length front ≡ 14 → IsEntryFileOf Second (e ∷ []) (front ++ tail)
one_entry_file e front tail grows long =
    let none : IsEntryFileOf Second [] (file_of Second []) = ((omega arith, record {}), refl) in
    subst (λ (n : ℕ). IsEntryFileOf Second (e ∷ []) (front ++ (drop n (file_of Second []) ++ tail))) long (grows [] (file_of Second []) refl none)
