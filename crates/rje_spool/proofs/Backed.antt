-- What was put on disk at one moment was so whatever is asked after it.
use Rattle.std.proofs.Common.{ℕ, List, [], ◌∷◌, ◌++◌, ap, sym, ◌∙◌}
use Rattle.std.proofs.lemmas.List.{append_assoc}
use Rattle.rje_folder.specs.declared.folder.Folder.{Folder}
use Rattle.rje_jobs.specs.declared.job.Job.{Job}
use Rattle.rje_session.specs.Ledger.{Entry, Given, MayArrive, Settled, Kept, KeptCut}
use Rattle.rje_store.specs.Disk.{Asked}
use Rattle.rje_spool.specs.Backed.{GoesOn, WasPut, AreBacked}

pub goes_on_twice : (a b c : List Asked) → GoesOn a b → GoesOn b c → GoesOn a c
goes_on_twice a b c (first, is) (more, more_is) = (more ++ first, more_is ∙ ap (λ (asked : List Asked). more ++ asked) is ∙ sym (append_assoc more first a))

pub was_put : (station : List ℕ) (folder : Folder) (job : Job) (before a b : List Asked) → GoesOn a b → WasPut station folder job before a → WasPut station folder job before b
was_put station folder job before a b on (path, after, to, made, named, kept) = (path, after, goes_on_twice after a b to on, made, named, kept)

pub are_backed : (station : List ℕ) (entries : List Entry) (a b : List Asked) → GoesOn a b → AreBacked station entries a → AreBacked station entries b
are_backed station [] a b on t = t
are_backed station (Kept job ∷ past) a b on (before, put, rest) = (before, was_put station Folder.In job before a b on put, rest)
are_backed station (KeptCut job ∷ past) a b on (before, put, rest) = (before, was_put station Folder.Cut job before a b on put, rest)
are_backed station (Given jobs ∷ past) a b on rest = are_backed station past a b on rest
are_backed station (MayArrive job ∷ past) a b on rest = are_backed station past a b on rest
are_backed station (Settled job what ∷ past) a b on rest = are_backed station past a b on rest
