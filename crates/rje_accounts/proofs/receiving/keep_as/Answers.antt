-- A job that is kept with its count: what is asked, that both are on disk after `Ok`, and what the removal of the older count rests on.
-- The new count is on disk before the older one is taken away; the lemmas of Received carry both through the calls that follow.
use Rattle.std.proofs.Common.{◌∙◌}
use Rattle.rje_store.proofs.Replacing.{added_twice}
use Rattle.rje_store.specs.Replacing.{IsOnDisk}
use Rattle.rje_settle.specs.declared.settle_name.SettleName.{SettleName}
use Rattle.rje_accounts.specs.Paths.{settle_path}
use Rattle.rje_accounts.specs.Receiving.{MayKeepJob}
use Rattle.rje_accounts.proofs.Received.{counted_keeps, drop_counts, make_counts, receive_keeps}
use Rattle.rje_accounts.proofs.receiving.keep_as.Goals as goal

pub returns-in_err-receive-clause-asks : goal.returns-in_err-receive-clause-asks
returns-in_err-receive-clause-asks g c = λ told.
    let station = c.args.station.now in
    let bytes = c.args.bytes.now in
    let may = MayKeepJob station c.args.now bytes in
    let received = receive_keeps station bytes c.args.now _ _ (rw (c.as_str.ensures.value ∙ c.in_ok-come.ensures) at (c.receive.ensures.asks told)) in
    received

pub returns-in_err-note_new-clause-asks : goal.returns-in_err-note_new-clause-asks
returns-in_err-note_new-clause-asks g c = λ told.
    let station = c.args.station.now in
    let bytes = c.args.bytes.now in
    let may = MayKeepJob station c.args.now bytes in
    let received = receive_keeps station bytes c.args.now _ _ (rw (c.as_str.ensures.value ∙ c.in_ok-come.ensures) at (c.receive.ensures.asks told)) in
    let disk : IsOnDisk (settle_path station (SettleName.Come c.args.now.kept)) bytes (g.D.Disk.asked c.receive.new.disk) = rw (c.as_str.ensures.value ∙ c.in_ok-come.ensures) at (c.in_ok-receive.ensures.on_disk told) in
    let noted = counted_keeps station bytes c.args.now _ _ (make_counts station c.args.now _ _ (rw (c.as_str-2.ensures.value ∙ c.in_ok-noted.ensures) at (c.note_new.ensures.asks told))) disk in
    added_twice may _ _ _ received noted.0

pub drop_older-requires-clause-path : goal.drop_older-requires-clause-path
drop_older-requires-clause-path g c = c.as_str-3.ensures.value ∙ c.in_ok-noted.ensures

pub drop_older-requires-clause-noted : goal.drop_older-requires-clause-noted
drop_older-requires-clause-noted g c = λ told. rw (c.as_str-3.ensures.value) (rw c.as_str-2.ensures.value at (c.in_ok-note_new.ensures.noted told))

pub returns-clause-asks : goal.returns-clause-asks
returns-clause-asks g c = λ told.
    let station = c.args.station.now in
    let bytes = c.args.bytes.now in
    let may = MayKeepJob station c.args.now bytes in
    let received = receive_keeps station bytes c.args.now _ _ (rw (c.as_str.ensures.value ∙ c.in_ok-come.ensures) at (c.receive.ensures.asks told)) in
    let disk : IsOnDisk (settle_path station (SettleName.Come c.args.now.kept)) bytes (g.D.Disk.asked c.receive.new.disk) = rw (c.as_str.ensures.value ∙ c.in_ok-come.ensures) at (c.in_ok-receive.ensures.on_disk told) in
    let noted = counted_keeps station bytes c.args.now _ _ (make_counts station c.args.now _ _ (rw (c.as_str-2.ensures.value ∙ c.in_ok-noted.ensures) at (c.note_new.ensures.asks told))) disk in
    let dropped = counted_keeps station bytes c.args.now _ _ (drop_counts station c.args.now _ _ (c.drop_older.ensures.asks told)) noted.1 in
    added_twice may _ _ _ (added_twice may _ _ _ received noted.0) dropped.0

pub returns-clause-on_disk : goal.returns-clause-on_disk
returns-clause-on_disk g c = λ told.
    let station = c.args.station.now in
    let bytes = c.args.bytes.now in
    let may = MayKeepJob station c.args.now bytes in
    let received = receive_keeps station bytes c.args.now _ _ (rw (c.as_str.ensures.value ∙ c.in_ok-come.ensures) at (c.receive.ensures.asks told)) in
    let disk : IsOnDisk (settle_path station (SettleName.Come c.args.now.kept)) bytes (g.D.Disk.asked c.receive.new.disk) = rw (c.as_str.ensures.value ∙ c.in_ok-come.ensures) at (c.in_ok-receive.ensures.on_disk told) in
    let noted = counted_keeps station bytes c.args.now _ _ (make_counts station c.args.now _ _ (rw (c.as_str-2.ensures.value ∙ c.in_ok-noted.ensures) at (c.note_new.ensures.asks told))) disk in
    let dropped = counted_keeps station bytes c.args.now _ _ (drop_counts station c.args.now _ _ (c.drop_older.ensures.asks told)) noted.1 in
    dropped.1

pub returns-clause-noted : goal.returns-clause-noted
returns-clause-noted g c = λ told. rw (c.as_str-3.ensures.value ∙ c.in_ok-noted.ensures) at (c.drop_older.ensures.noted told)
