-- A new file takes a path: what is asked at each way out, and that it stands there whole after `Ok`.
-- It was new and apart, so that what fills it touches nothing else; the rename then moves what it has.
use Rattle.std.proofs.Common.{ℕ, List, Option, Some, None, refl}
use Rattle.std.specs.Prelude.{IfSome, string_bytes}
use Rattle.rje_store.specs.Disk.{Asked, Opened, Rename}
use Rattle.rje_store.specs.Replacing.{Adds, IsNewBeside, IsPrivate, MayReplace}
use Rattle.rje_store.specs.Inside.Filling.{MayFill, new_access}
use Rattle.rje_store.proofs.Replacing.{added_call, filled_may, filled_whole, name_of_new, new_is_apart, new_private, renamed_whole}
use Rattle.rje_store.proofs.file_store.beside.put_in_place.Goals as goal

-- what is to get another file's access was made for its owner alone
private_first : {A : Type 0} (access : Option A) (path : List ℕ) (file : Opened) (name : List ℕ) (asked : List Asked) → IsNewBeside (new_access access) path file name asked → IfSome access (λ _. IsPrivate file asked)
private_first None path file name asked new = tt
private_first (Some _) path file name asked new = new_private path file name asked new

pub returns-in_err-fill-clause-asks : goal.returns-in_err-fill-clause-asks
returns-in_err-fill-clause-asks g c =
    let file = g.D.Disk.opened c.args.beside.now.file in
    λ told. filled_may c.args.path.now c.args.bytes.now file _ _ (new_is_apart _ _ file _ _ (c.requires told))
    (c.fill.ensures.asks told (private_first c.args.access _ file _ _ (c.requires told)))

-- (the same where another file has the path by then)
pub returns-in_err-succeeds-clause-asks : goal.returns-in_err-succeeds-clause-asks
returns-in_err-succeeds-clause-asks g c =
    let file = g.D.Disk.opened c.args.beside.now.file in
    λ told. filled_may c.args.path.now c.args.bytes.now file _ _ (new_is_apart _ _ file _ _ (c.requires told))
    (c.fill.ensures.asks told (private_first c.args.access _ file _ _ (c.requires told)))

pub returns-clause-asks : goal.returns-clause-asks
returns-clause-asks g c =
    let file = g.D.Disk.opened c.args.beside.now.file in
    let path = c.args.path.now in
    let name = string_bytes c.args.beside.now.path in
    λ told.
    let filled : Adds (MayFill file) (g.D.Disk.asked c.args.disk.now) (g.D.Disk.asked c.fill.new.disk) = c.fill.ensures.asks told (private_first c.args.access _ file _ _ (c.requires told)) in
    added_call (MayReplace path c.args.bytes.now) _ _ _ c.rename.result (Rename name path)
    (filled_may path c.args.bytes.now file _ _ (new_is_apart _ path file name _ (c.requires told)) filled)
    (rw c.as_str.ensures.value at (c.rename.ensures told))
    (name_of_new _ path file name _ (c.requires told), refl, filled_whole _ path file name c.args.bytes.now _ _ (c.requires told) filled (c.in_ok-fill.ensures.filled told))

pub returns-clause-whole : goal.returns-clause-whole
returns-clause-whole g c =
    let file = g.D.Disk.opened c.args.beside.now.file in
    let path = c.args.path.now in
    let name = string_bytes c.args.beside.now.path in
    λ told. renamed_whole c.rename.result name path c.args.bytes.now _ _ (rw c.as_str.ensures.value at (c.rename.ensures told))
    (filled_whole _ path file name c.args.bytes.now _ _ (c.requires told) (c.fill.ensures.asks told (private_first c.args.access _ file _ _ (c.requires told))) (c.in_ok-fill.ensures.filled told))
