use Rattle.std.proofs.Common.{◌-◌, ◌≤◌, length}
use Rattle.std.specs.Io.KnownBytes.{Consumes}
use Rattle.rje_store.specs.declared.reading.TheConstants.{MAX_INPUT}
use Rattle.rje_store.proofs.reading.read_all.Given as goal

abbrev pub invariant-loop-count : goal.invariant-loop-count
invariant-loop-count g l = (length l.bytes.items ≤ MAX_INPUT)
    × Consumes (g.I.Read.remaining l.fn.input) (g.I.Read.remaining l.input) l.bytes.items

abbrev pub decreases-loop-count : goal.decreases-loop-count
decreases-loop-count g l = MAX_INPUT - length l.bytes.items
