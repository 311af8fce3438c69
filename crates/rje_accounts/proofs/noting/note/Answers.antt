use Rattle.std.proofs.Common.{inl, inr, refl}
use Rattle.rje_store.proofs.Replacing.{added_call, added_none, added_twice, added_weaker}
use Rattle.rje_accounts.specs.Noting.{MayMake, MayMakeAgain}
use Rattle.rje_accounts.proofs.noting.note.Goals as goal

pub returns-in-Ok-clause-asks : goal.returns-in-Ok-clause-asks
returns-in-Ok-clause-asks g c = λ told. added_weaker (MayMake c.args.path.now) (MayMakeAgain c.args.path.now) (λ call before may. inl may) _ _ (c.note_new.ensures.asks told)

pub returns-in-Err-clause-asks : goal.returns-in-Err-clause-asks
returns-in-Err-clause-asks g c = λ told. added_twice (MayMakeAgain c.args.path.now) _ _ _ (added_weaker (MayMake c.args.path.now) (MayMakeAgain c.args.path.now) (λ call before may. inl may) _ _ (c.note_new.ensures.asks told)) (c.note_again.ensures.asks told)

pub returns-in-Err-2-clause-asks : goal.returns-in-Err-2-clause-asks
returns-in-Err-2-clause-asks g c = λ told. added_weaker (MayMake c.args.path.now) (MayMakeAgain c.args.path.now) (λ call before may. inl may) _ _ (c.note_new.ensures.asks told)
