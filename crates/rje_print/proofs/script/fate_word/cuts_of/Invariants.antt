use Rattle.std.proofs.Common.{◌≡◌, ◌++◌, length}
use Rattle.std.specs.List.{All, flat_map}
use Rattle.rje_print.proofs.Fates.{IsPlace, IsPlaces}
use Rattle.rje_print.proofs.Scripts.{with_comma}
use Rattle.rje_print.proofs.script.fate_word.cuts_of.Given as goal

abbrev pub invariant-loop-text : goal.invariant-loop-text
invariant-loop-text l = record {
  cut : l.places ≡ flat_map with_comma l.cuts.items ++ l.rest;
  fit : All IsPlace l.cuts.items;
  still : IsPlaces l.places → IsPlaces l.rest;
}

abbrev pub decreases-loop-text : goal.decreases-loop-text
decreases-loop-text l = length l.rest
