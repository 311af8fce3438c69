use Rattle.std.proofs.Common.{◌≡◌, false}
use Rattle.std.specs.Prelude.{string_bytes}
use Rattle.std.specs.List.{AllWithin}
use Rattle.rje_folder.specs.TakenName.{comes_after}
use Rattle.rje_folder.proofs.finishing.count_up_to.Given as goal

abbrev pub invariant-loop-place : goal.invariant-loop-place
invariant-loop-place l = AllWithin (λ name. comes_after l.last (string_bytes name) ≡ false) l.names 0 l.place
