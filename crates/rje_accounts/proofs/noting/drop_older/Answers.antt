use Rattle.rje_store.proofs.Replacing.{added_none, added_twice}
use Rattle.rje_accounts.specs.Noting.{MayDropOlder}
use Rattle.rje_accounts.proofs.noting.drop_older.Goals as goal

pub returns-in_err-drop_if_older-clause-asks : goal.returns-in_err-drop_if_older-clause-asks
returns-in_err-drop_if_older-clause-asks g c = λ told. added_twice (MayDropOlder c.args.station.now c.args.noted) _ _ _ (c.loop-text.invariant.asks told) (c.drop_if_older.ensures.asks told)

pub loop-text-preserved : goal.loop-text-preserved
loop-text-preserved g c = record {
  asks = λ told. added_twice (MayDropOlder c.args.station.now c.args.noted) _ _ _ (c.loop-text.invariant.asks told) (c.drop_if_older.ensures.asks told);
  noted = λ told. c.drop_if_older.ensures.noted told;
}
