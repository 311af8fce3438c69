use Rattle.std.proofs.Common.{◌≡◌}
use Rattle.rje_spool.proofs.spool_files.SpoolFiles.tell_hidden.Given as goal

abbrev pub invariant-loop-other : goal.invariant-loop-other
invariant-loop-other g l = (l.self.folder ≡ l.fn.self.folder) × (l.self.given ≡ l.fn.self.given)
