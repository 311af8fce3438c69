use Rattle.std.proofs.Common.{◌≡◌, take, drop, Some, None, rules, sym, ◌∙◌, ap}
use Rattle.std.specs.Prelude.{position}
use Rattle.std.proofs.lemmas.List.{drop-drop}
use Rattle.std.specs.Io.BufRead.{strip_last}
use Rattle.rje_monitor.specs.Turns.{is_lf}
use Rattle.rje_monitor.proofs.FirstLines.{line_found, later_found, line_lost, later_lost}
use Rattle.rje_monitor.proofs.lines.first_line.Goals as goal

pub returns-in-Some-clause-line : goal.returns-in-Some-clause-line
returns-in-Some-clause-line c =
    let at : position is_lf c.args.lines.now ≡ Some c.in-Some.place = search rules in
    let front : c.split_at.result.0.now ≡ take c.in-Some.place c.args.lines.now = search rules in
    c.without_cr.ensures ∙ ap (strip_last 0x0D) front ∙ sym (line_found c.args.lines.now c.in-Some.place at)

pub returns-in-Some-clause-later : goal.returns-in-Some-clause-later
returns-in-Some-clause-later c =
    let at : position is_lf c.args.lines.now ≡ Some c.in-Some.place = search rules in
    let behind : c.split_at-in-Some.result.1.now ≡ drop 1 c.split_at.result.1.now = search rules in
    let back : c.split_at.result.1.now ≡ drop c.in-Some.place c.args.lines.now = search rules in
    behind ∙ ap (drop 1) back ∙ drop-drop 1 c.in-Some.place c.args.lines.now ∙ sym (later_found c.args.lines.now c.in-Some.place at)

pub returns-in-None-clause-line : goal.returns-in-None-clause-line
returns-in-None-clause-line c =
    let at : position is_lf c.args.lines.now ≡ None = search rules in sym (line_lost c.args.lines.now at)

pub returns-in-None-clause-later : goal.returns-in-None-clause-later
returns-in-None-clause-later c =
    let at : position is_lf c.args.lines.now ≡ None = search rules in sym (later_lost c.args.lines.now at)
