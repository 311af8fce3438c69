use Rattle.std.proofs.Common.{◌≡◌, true, rules}
use Rattle.rje_accounts.specs.Noting.{is_older}
use Rattle.rje_accounts.proofs.Noted.{removal_drops, removal_keeps}
use Rattle.rje_accounts.proofs.noting.drop_if_older.Goals as goal

pub returns-in-Some-clause-asks : goal.returns-in-Some-clause-asks
returns-in-Some-clause-asks g c = λ told.
    let old : is_older c.in-Some.name c.args.noted ≡ true = search rules in
    removal_drops c.args.station.now c.in-Some.name c.args.noted _ _ old (rw c.requires.path at (c.requires.noted told)) (rw c.requires.path at (c.drop_name.ensures told))

pub returns-in-Some-clause-noted : goal.returns-in-Some-clause-noted
returns-in-Some-clause-noted g c = λ told. removal_keeps _ c.args.path.now _ _ (c.drop_name.ensures told) (c.requires.noted told)
