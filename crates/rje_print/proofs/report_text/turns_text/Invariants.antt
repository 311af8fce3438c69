use Rattle.std.proofs.Common.{◌≡◌, ◌+◌, ◌++◌, drop}
use Rattle.rje_print.specs.ReportTexts.{turn_lines}
use Rattle.rje_print.proofs.report_text.turns_text.Given as goal

abbrev pub invariant-loop-turn : goal.invariant-loop-turn
invariant-loop-turn l = record {
  counted : l.number ≡ l.turn-index + 1;
  lines : l.text.items ++ turn_lines l.number (drop l.turn-index l.turns) ≡ turn_lines 1 l.turns;
}
