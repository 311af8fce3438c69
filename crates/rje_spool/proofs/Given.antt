-- What is asked of a file with a name in doubt/.
use Rattle.std.proofs.Common.{◌≡◌, ℕ, List, Global, String, string_bytes, subst, sym}
use Rattle.rje_day.specs.declared.disposition.Disposition.{Disposition}
use Rattle.rje_store.specs.Disk.{Asked}
use Rattle.rje_store.specs.Replacing.{Adds}
use Rattle.rje_folder.specs.Promising.{MaySettle}
use Rattle.rje_spool.specs.declared.given_file.Standing.{Standing}
use Rattle.rje_spool.specs.GivenFile.{OfPromised}

pub settles_promised : (are_one : List Asked → List ℕ → List ℕ → Type 0) (station name said at : List ℕ) (what : Disposition) (place : Standing) (doubt : String Global) (before after : List Asked)
    → place ≡ Standing.Promised doubt → said ≡ name → at ≡ string_bytes doubt → Adds (MaySettle are_one station said at what) before after
    → Adds (OfPromised (λ path. MaySettle are_one station name path what) place) before after
settles_promised are_one station name said at what place doubt before after is named there asks =
    subst (λ (p : Standing). Adds (OfPromised (λ path. MaySettle are_one station name path what) p) before after) (sym is)
    (subst (λ (path : List ℕ). Adds (MaySettle are_one station name path what) before after) there (subst (λ (n : List ℕ). Adds (MaySettle are_one station n at what) before after) named asks))
