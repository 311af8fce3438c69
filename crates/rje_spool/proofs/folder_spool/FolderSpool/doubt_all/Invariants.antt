use Rattle.std.proofs.Common.{◌≡◌}
use Rattle.rje_spool.specs.Backed.{with_first_doubted}
use Rattle.rje_spool.proofs.folder_spool.FolderSpool.doubt_all.Given as goal

abbrev pub invariant-loop-job : goal.invariant-loop-job
invariant-loop-job g l = g.B.Ledger.discloses → l.self.entries ≡ with_first_doubted l.job l.fn.self.entries
