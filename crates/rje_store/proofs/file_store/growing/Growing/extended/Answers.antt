-- The file that grew: what is asked at each way out, that it has both pieces on disk, and that it can grow again.
-- The older copy is brought up to date and takes its turn (Turning); where a step fails the newest one stands as it did.
use Rattle.std.proofs.Common.{◌≤◌, length, subst, sym, arith}
use Rattle.std.specs.Prelude.{IfSome, string_bytes}
use Rattle.rje_files.specs.Growth.{grown}
use Rattle.rje_store.specs.Disk.{Remove}
use Rattle.rje_store.specs.Replacing.{Adds, IsBeside, MayReplace, MayTry}
use Rattle.rje_store.specs.Growing.{IsNewest, IsOlder}
use Rattle.rje_store.proofs.Replacing.{added_call, added_twice, added_weaker, tried_may}
use Rattle.rje_store.proofs.Turning.{grown_on_disk, grows_on, newest_kept}
use Rattle.rje_store.proofs.file_store.growing.Growing.extended.Goals as goal

pub returns-in_err-older-clause-asks : goal.returns-in_err-older-clause-asks
returns-in_err-older-clause-asks g c = λ told folder had growing.
    let path = string_bytes c.args.self.path in
    let bytes = grown c.args.front.now c.args.tail.now had in
    let older_was : IfSome c.args.self.older (λ copy. IsOlder g.D.Disk.opened c.as_str.result.now had copy (g.D.Disk.asked c.args.disk.now)) = rw c.as_str.ensures.value growing.1 in
    let tried : Adds (MayTry path) (g.D.Disk.asked c.args.disk.now) (g.D.Disk.asked c.copy_to_grow.new.disk) = rw c.as_str.ensures.value at (c.copy_to_grow.ensures.asks told had older_was) in
    let first : Adds (MayReplace path bytes) (g.D.Disk.asked c.args.disk.now) (g.D.Disk.asked c.copy_to_grow.new.disk) = added_weaker (MayTry path) (MayReplace path bytes) (tried_may path bytes) _ _ tried in
    first

pub returns-in-Ok-clause-asks : goal.returns-in-Ok-clause-asks
returns-in-Ok-clause-asks g c = λ told folder had growing.
    let path = string_bytes c.args.self.path in
    let bytes = grown c.args.front.now c.args.tail.now had in
    let older_was : IfSome c.args.self.older (λ copy. IsOlder g.D.Disk.opened c.as_str.result.now had copy (g.D.Disk.asked c.args.disk.now)) = rw c.as_str.ensures.value growing.1 in
    let tried : Adds (MayTry path) (g.D.Disk.asked c.args.disk.now) (g.D.Disk.asked c.copy_to_grow.new.disk) = rw c.as_str.ensures.value at (c.copy_to_grow.ensures.asks told had older_was) in
    let first : Adds (MayReplace path bytes) (g.D.Disk.asked c.args.disk.now) (g.D.Disk.asked c.copy_to_grow.new.disk) = added_weaker (MayTry path) (MayReplace path bytes) (tried_may path bytes) _ _ tried in
    let older : IsOlder g.D.Disk.opened path had c.in_ok-older.older (g.D.Disk.asked c.copy_to_grow.new.disk) = rw c.as_str.ensures.value at (c.in_ok-older.ensures.older told had older_was) in
    let kept : IsNewest g.D.Disk.opened had c.args.self (g.D.Disk.asked c.copy_to_grow.new.disk) = newest_kept g.D.Disk.opened had c.args.self _ _ tried growing.0 in
    added_twice (MayReplace path bytes) _ _ _ first (c.turn.ensures.asks told folder had (record { stands = kept.stands; has = kept.has; len = kept.len; own = kept.own }) older)

pub returns-in-Ok-clause-on_disk : goal.returns-in-Ok-clause-on_disk
returns-in-Ok-clause-on_disk g c = λ told folder had growing.
    let path = string_bytes c.args.self.path in
    let bytes = grown c.args.front.now c.args.tail.now had in
    let older_was : IfSome c.args.self.older (λ copy. IsOlder g.D.Disk.opened c.as_str.result.now had copy (g.D.Disk.asked c.args.disk.now)) = rw c.as_str.ensures.value growing.1 in
    let tried : Adds (MayTry path) (g.D.Disk.asked c.args.disk.now) (g.D.Disk.asked c.copy_to_grow.new.disk) = rw c.as_str.ensures.value at (c.copy_to_grow.ensures.asks told had older_was) in
    let first : Adds (MayReplace path bytes) (g.D.Disk.asked c.args.disk.now) (g.D.Disk.asked c.copy_to_grow.new.disk) = added_weaker (MayTry path) (MayReplace path bytes) (tried_may path bytes) _ _ tried in
    let older : IsOlder g.D.Disk.opened path had c.in_ok-older.older (g.D.Disk.asked c.copy_to_grow.new.disk) = rw c.as_str.ensures.value at (c.in_ok-older.ensures.older told had older_was) in
    let kept : IsNewest g.D.Disk.opened had c.args.self (g.D.Disk.asked c.copy_to_grow.new.disk) = newest_kept g.D.Disk.opened had c.args.self _ _ tried growing.0 in
    grown_on_disk path _ _ bytes had _ (c.in-Ok.ensures.grows told folder had (record { stands = kept.stands; has = kept.has; len = kept.len; own = kept.own }) older)

pub returns-in-Ok-clause-growing : goal.returns-in-Ok-clause-growing
returns-in-Ok-clause-growing g c = λ told folder had growing.
    let path = string_bytes c.args.self.path in
    let bytes = grown c.args.front.now c.args.tail.now had in
    let older_was : IfSome c.args.self.older (λ copy. IsOlder g.D.Disk.opened c.as_str.result.now had copy (g.D.Disk.asked c.args.disk.now)) = rw c.as_str.ensures.value growing.1 in
    let tried : Adds (MayTry path) (g.D.Disk.asked c.args.disk.now) (g.D.Disk.asked c.copy_to_grow.new.disk) = rw c.as_str.ensures.value at (c.copy_to_grow.ensures.asks told had older_was) in
    let first : Adds (MayReplace path bytes) (g.D.Disk.asked c.args.disk.now) (g.D.Disk.asked c.copy_to_grow.new.disk) = added_weaker (MayTry path) (MayReplace path bytes) (tried_may path bytes) _ _ tried in
    let older : IsOlder g.D.Disk.opened path had c.in_ok-older.older (g.D.Disk.asked c.copy_to_grow.new.disk) = rw c.as_str.ensures.value at (c.in_ok-older.ensures.older told had older_was) in
    let kept : IsNewest g.D.Disk.opened had c.args.self (g.D.Disk.asked c.copy_to_grow.new.disk) = newest_kept g.D.Disk.opened had c.args.self _ _ tried growing.0 in
    let fits : length c.args.front.now ≤ length had = omega (arith, kept.len, c.in-Ok.ensures.fits.0) in
    grows_on g.D.Disk.opened c.args.self c.turned.result c.in_ok-older.older c.in-Ok.second c.args.front.now c.args.tail.now had (MayReplace path bytes) _ _
    (c.turn.ensures.asks told folder had (record { stands = kept.stands; has = kept.has; len = kept.len; own = kept.own }) older)
    c.turned.ensures.path c.turned.ensures.newest (c.turned.ensures.len c.in-Ok.ensures.fits.1) c.turned.ensures.older kept older fits
    (c.in-Ok.ensures.grows told folder had (record { stands = kept.stands; has = kept.has; len = kept.len; own = kept.own }) older)
    (c.in-Ok.ensures.second told folder had (record { stands = kept.stands; has = kept.has; len = kept.len; own = kept.own }) older)
    c.in-Ok.ensures.own

pub returns-in-Err-clause-asks : goal.returns-in-Err-clause-asks
returns-in-Err-clause-asks g c = λ told folder had growing.
    let path = string_bytes c.args.self.path in
    let bytes = grown c.args.front.now c.args.tail.now had in
    let older_was : IfSome c.args.self.older (λ copy. IsOlder g.D.Disk.opened c.as_str.result.now had copy (g.D.Disk.asked c.args.disk.now)) = rw c.as_str.ensures.value growing.1 in
    let tried : Adds (MayTry path) (g.D.Disk.asked c.args.disk.now) (g.D.Disk.asked c.copy_to_grow.new.disk) = rw c.as_str.ensures.value at (c.copy_to_grow.ensures.asks told had older_was) in
    let first : Adds (MayReplace path bytes) (g.D.Disk.asked c.args.disk.now) (g.D.Disk.asked c.copy_to_grow.new.disk) = added_weaker (MayTry path) (MayReplace path bytes) (tried_may path bytes) _ _ tried in
    let older : IsOlder g.D.Disk.opened path had c.in_ok-older.older (g.D.Disk.asked c.copy_to_grow.new.disk) = rw c.as_str.ensures.value at (c.in_ok-older.ensures.older told had older_was) in
    let kept : IsNewest g.D.Disk.opened had c.args.self (g.D.Disk.asked c.copy_to_grow.new.disk) = newest_kept g.D.Disk.opened had c.args.self _ _ tried growing.0 in
    added_call (MayReplace path bytes) _ _ _ c.remove.result (Remove c.as_str-in-Err.result.now)
    (added_twice (MayReplace path bytes) _ _ _ first (c.turn.ensures.asks told folder had (record { stands = kept.stands; has = kept.has; len = kept.len; own = kept.own }) older))
    (c.remove.ensures told)
    (subst (IsBeside path) (sym c.as_str-in-Err.ensures.value) older.beside)
