use Rattle.std.proofs.Common.{◌≡◌, ◌<◌, ◌⊎◌, take}
use Rattle.std.specs.Prelude.{All}
use Rattle.rje_settle.specs.declared.receipt.Receipt.{Receipt}
use Rattle.rje_accounts.proofs.accounts.highest.Given as goal

abbrev pub invariant-loop-count : goal.invariant-loop-count
invariant-loop-count l = All (λ (q : Receipt). (q.kept < l.highest.kept) ⊎ (q ≡ l.highest)) (take l.count-index l.counts)
