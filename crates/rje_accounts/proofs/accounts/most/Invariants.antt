use Rattle.std.proofs.Common.{◌≡◌, [], take}
use Rattle.std.specs.Prelude.{MatchOption}
use Rattle.rje_accounts.specs.Accounts.{IsMost}
use Rattle.rje_accounts.proofs.accounts.most.Given as goal

abbrev pub invariant-loop-count : goal.invariant-loop-count
invariant-loop-count l = MatchOption l.most (take l.count-index l.counts ≡ []) (IsMost (take l.count-index l.counts))
