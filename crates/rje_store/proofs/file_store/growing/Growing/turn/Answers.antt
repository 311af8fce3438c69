-- The older copy goes on and takes the file's name: what is asked, that it has grown, and which second name there is.
-- It has the newest copy's bytes once it has gone on (`on_ok`); the rename moves them to the file's name.
use Rattle.std.proofs.Common.{◌≡◌, ◌≤◌, ℕ, List, Option, length, subst, sym, arith}
use Rattle.std.specs.Prelude.{IfSome, string_bytes}
use Rattle.rje_files.specs.Growth.{grown}
use Rattle.rje_store.specs.Replacing.{MayReplace}
use Rattle.rje_store.proofs.Replacing.{added_twice, filled_keeps, filled_may}
use Rattle.rje_store.proofs.Turning.{on_ok, ready_to_turn, seconds_before, turn_grown, turn_two, turn_whole}
use Rattle.rje_store.proofs.file_store.growing.Growing.turn.Goals as goal

pub returns-in_err-grown-clause-asks : goal.returns-in_err-grown-clause-asks
returns-in_err-grown-clause-asks g c = λ told folder had newest older.
    let path = string_bytes c.args.self.now.path in
    let beside = string_bytes c.args.older.now.path in
    let file = g.D.Disk.opened c.args.older.now.file in
    let from = g.D.Disk.opened c.args.self.now.newest in
    let piece = c.args.front.now in
    let tail = c.args.tail.now in
    filled_may path (grown piece tail had) file _ _ older.apart (c.grown.ensures.asks told older.private)

pub returns-clause-asks : goal.returns-clause-asks
returns-clause-asks g c = λ told folder had newest older.
    let path = string_bytes c.args.self.now.path in
    let beside = string_bytes c.args.older.now.path in
    let file = g.D.Disk.opened c.args.older.now.file in
    let from = g.D.Disk.opened c.args.self.now.newest in
    let piece = c.args.front.now in
    let tail = c.args.tail.now in
    let fits : length piece ≤ length had = omega (arith, newest.len, c.in_ok-grown.ensures.room) in
    added_twice (MayReplace path (grown piece tail had)) _ _ _
    (filled_may path (grown piece tail had) file _ _ older.apart (c.grown.ensures.asks told older.private))
    ((rw (c.as_str-path.ensures.value, c.as_str-beside.ensures.value) at (c.put_in_place.ensures.asks told)) folder older.beside (grown piece tail had)
    (turn_whole path beside file from piece tail had _ _ (ready_to_turn g.D.Disk.opened had piece c.args.self.now c.args.older.now _ newest older c.requires.front fits) (c.grown.ensures.asks told older.private) (c.in_ok-grown.ensures.turns told (subst (λ (o : Option (List ℕ)). IfSome o (λ bytes. c.args.older.now.len ≡ length bytes)) (sym older.has) older.len))))

pub returns-clause-grows : goal.returns-clause-grows
returns-clause-grows g c = λ told folder had newest older.
    let path = string_bytes c.args.self.now.path in
    let beside = string_bytes c.args.older.now.path in
    let file = g.D.Disk.opened c.args.older.now.file in
    let from = g.D.Disk.opened c.args.self.now.newest in
    let piece = c.args.front.now in
    let tail = c.args.tail.now in
    let fits : length piece ≤ length had = omega (arith, newest.len, c.in_ok-grown.ensures.room) in
    on_ok c.put_in_place.result _ _
    (turn_grown path beside file from piece tail had _ _ _ (ready_to_turn g.D.Disk.opened had piece c.args.self.now c.args.older.now _ newest older c.requires.front fits) (c.grown.ensures.asks told older.private) (c.in_ok-grown.ensures.turns told (subst (λ (o : Option (List ℕ)). IfSome o (λ bytes. c.args.older.now.len ≡ length bytes)) (sym older.has) older.len)))
    ((rw (c.as_str-path.ensures.value, c.as_str-beside.ensures.value) at (c.put_in_place.ensures.turned told)) folder (turn_two path beside file from _ _ newest.stands older.stands older.apart.1 (c.grown.ensures.asks told older.private)))

pub returns-clause-second : goal.returns-clause-second
returns-clause-second g c = λ told folder had newest older.
    let path = string_bytes c.args.self.now.path in
    let beside = string_bytes c.args.older.now.path in
    let file = g.D.Disk.opened c.args.older.now.file in
    let from = g.D.Disk.opened c.args.self.now.newest in
    let piece = c.args.front.now in
    let tail = c.args.tail.now in
    seconds_before c.put_in_place.result path (g.D.Disk.asked c.args.disk.now) (g.D.Disk.asked c.grown.new.disk) (g.D.Disk.asked c.put_in_place.new.disk) (filled_keeps file path _ _ (c.grown.ensures.asks told older.private)) ((rw (c.as_str-path.ensures.value, c.as_str-beside.ensures.value) at (c.put_in_place.ensures.second told)) folder (turn_two path beside file from _ _ newest.stands older.stands older.apart.1 (c.grown.ensures.asks told older.private)))
