use Rattle.std.proofs.Common.{◌≡◌}
use Rattle.rje_accounts.proofs.accounts.Accounts.sending.Given as goal

abbrev pub invariant-loop-promise : goal.invariant-loop-promise
invariant-loop-promise l = l.account.known ≡ l.self.sent
