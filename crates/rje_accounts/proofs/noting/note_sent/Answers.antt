use Rattle.std.proofs.Common.{inl, inr, refl, ◌∙◌}
use Rattle.rje_store.proofs.Replacing.{added_call, added_none, added_twice, added_weaker}
use Rattle.rje_settle.specs.declared.settle_name.SettleName.{SettleName}
use Rattle.rje_accounts.specs.Noting.{MayDropOlder, MayMakeAgain, MayNote}
use Rattle.rje_accounts.specs.Paths.{settle_path}
use Rattle.rje_accounts.proofs.noting.note_sent.Goals as goal

pub returns-in_err-note-clause-asks : goal.returns-in_err-note-clause-asks
returns-in_err-note-clause-asks g c = λ told.
    let noted = (SettleName.Sent c.args.known) in
    added_weaker (MayMakeAgain (settle_path c.args.station.now noted)) (MayNote c.args.station.now noted) (λ call before may. inl may) _ _
    (rw (c.as_str.ensures.value ∙ c.in_ok-path.ensures) at (c.note.ensures.asks told))

pub drop_older-requires-clause-path : goal.drop_older-requires-clause-path
drop_older-requires-clause-path g c = c.as_str-2.ensures.value ∙ c.in_ok-path.ensures

pub drop_older-requires-clause-noted : goal.drop_older-requires-clause-noted
drop_older-requires-clause-noted g c = λ told. rw (c.as_str-2.ensures.value) (rw c.as_str.ensures.value at (c.in_ok-note.ensures.noted told))

pub returns-clause-asks : goal.returns-clause-asks
returns-clause-asks g c = λ told.
    let noted = (SettleName.Sent c.args.known) in
    added_twice (MayNote c.args.station.now noted) _ _ _
    (added_weaker (MayMakeAgain (settle_path c.args.station.now noted)) (MayNote c.args.station.now noted) (λ call before may. inl may) _ _
    (rw (c.as_str.ensures.value ∙ c.in_ok-path.ensures) at (c.note.ensures.asks told)))
    (added_weaker (MayDropOlder c.args.station.now noted) (MayNote c.args.station.now noted) (λ call before may. inr may) _ _ (c.drop_older.ensures.asks told))

pub returns-clause-noted : goal.returns-clause-noted
returns-clause-noted g c = λ told. rw (c.as_str-2.ensures.value ∙ c.in_ok-path.ensures) at (c.drop_older.ensures.noted told)
