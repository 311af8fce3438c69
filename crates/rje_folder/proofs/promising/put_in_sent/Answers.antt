use Rattle.std.proofs.Common.{◌∙◌}
use Rattle.std.specs.Prelude.{string_bytes}
use Rattle.rje_folder.proofs.Settling.{drop_settles, move_settles, sent_is}
use Rattle.rje_folder.proofs.promising.put_in_sent.Goals as goal

pub returns-in_err-kept-clause-asks : goal.returns-in_err-kept-clause-asks
returns-in_err-kept-clause-asks g c = λ told. rw (c.make_sent.ensures told) at (move_settles g.D.FolderDisk.are_one c.args.station.now c.args.name.now c.args.doubt.now _ _
    (rw (c.as_str-2.ensures.value ∙ c.in_ok-sent.ensures) at (c.change_name.ensures.asks told)))

pub returns-clause-asks : goal.returns-clause-asks
returns-clause-asks g c = λ told. rw (c.make_sent.ensures told) at (drop_settles g.D.FolderDisk.are_one c.args.station.now c.args.name.now c.args.doubt.now (string_bytes c.in_ok-kept.kept) _ _ _
    (rw (c.as_str-2.ensures.value ∙ c.in_ok-sent.ensures) at (c.change_name.ensures.asks told))
    (rw (c.as_str-2.ensures.value ∙ c.in_ok-sent.ensures) at c.in_ok-kept.ensures.named)
    (rw c.as_str-3.ensures.value at (c.take_out-taken.ensures.asks told)))

pub returns-clause-sent : goal.returns-clause-sent
returns-clause-sent g c = λ told. rw (c.make_sent.ensures told) at (sent_is g.D.FolderDisk.are_one c.args.station.now c.args.name.now c.args.doubt.now (string_bytes c.in_ok-kept.kept)
    (g.D.Disk.asked c.make_sent.new.disk) (g.D.Disk.asked c.change_name.new.disk) (g.D.Disk.asked c.take_out-taken.new.disk)
    (c.in_ok-kept.ensures.changed told)
    (rw (c.as_str-2.ensures.value ∙ c.in_ok-sent.ensures) at c.in_ok-kept.ensures.named)
    (rw c.as_str-3.ensures.value at (c.take_out-taken.ensures.asks told)))
