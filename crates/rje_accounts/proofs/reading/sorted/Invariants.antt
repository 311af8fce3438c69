use Rattle.std.proofs.Common.{take}
use Rattle.std.specs.Prelude.{List, map, string_bytes}
use Rattle.rje_settle.specs.declared.settle_name.SettleName.{SettleName}
use Rattle.rje_accounts.specs.Names.{AreNamesOf, AreSorted}
use Rattle.rje_accounts.proofs.reading.sorted.Given as goal

abbrev pub invariant-loop-text : goal.invariant-loop-text
invariant-loop-text l = (all : List SettleName) × AreNamesOf (map string_bytes (take l.text-index l.texts)) all × AreSorted all l.names
