use Rattle.std.proofs.Common.{◌≡◌, take}
use Rattle.std.specs.Prelude.{not}
use Rattle.std.specs.List.{list_any}
use Rattle.rje_text.specs.PackFault.{is_no_data_byte}
use Rattle.rje_text.proofs.pack_fault.are_data_bytes.Given as goal

abbrev pub invariant-loop-byte : goal.invariant-loop-byte
invariant-loop-byte l = l.good ≡ not (list_any is_no_data_byte (take l.byte-index l.bytes))
