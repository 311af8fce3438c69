use Rattle.std.specs.Prelude.{Some, None}
use Rattle.rje_accounts.proofs.Asked.{ok_turn}
use Rattle.rje_accounts.proofs.Sorted.{passed_over}
use Rattle.std.proofs.Common.{refl}
use Rattle.rje_accounts.proofs.settle_names.SettleNames.push_text.Goals as goal

pub returns-in-Some : goal.returns-in-Some
returns-in-Some c = λ all sorted. ok_turn _ _ c.push.result (λ more. (Some c.in-Some.name, rw c.as_bytes.ensures.value at c.in-Some.ensures, more)) (c.push.ensures all sorted)

pub returns-in-None : goal.returns-in-None
returns-in-None c = λ all sorted. (None, rw c.as_bytes.ensures.value at c.in-None.ensures, passed_over all c.args.self.now _ (refl, refl, refl, refl) sorted)
