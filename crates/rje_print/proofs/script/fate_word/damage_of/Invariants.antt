use Rattle.std.proofs.Common.{ℕ, List, ◌++◌, length}
use Rattle.std.specs.List.{All}
use Rattle.rje_print.specs.Script.{IsHexOf}
use Rattle.rje_print.proofs.Fates.{IsByte, IsHexText}
use Rattle.rje_print.proofs.script.fate_word.damage_of.Given as goal

abbrev pub invariant-loop-byte : goal.invariant-loop-byte
invariant-loop-byte l = record {
  hex : (more : List ℕ) → IsHexOf more l.rest → IsHexOf (l.bytes.items ++ more) l.digits;
  fit : All IsByte l.bytes.items;
  still : IsHexText l.digits → IsHexText l.rest;
}

abbrev pub decreases-loop-byte : goal.decreases-loop-byte
decreases-loop-byte l = length l.rest
