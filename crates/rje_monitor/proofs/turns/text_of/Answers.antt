use Rattle.std.proofs.Common.{◌≡◌, ℕ, ◌+◌, List, [], subst, sym, rules, arith}
use Rattle.rje_monitor.specs.Turns.{first_line, IsHex, IsHexLine, AreHexLines, IsTurnLine}
use Rattle.rje_monitor.proofs.TurnLines.{first_is_hex, later_are_hex, goes_on, all_text, GoesOn}
use Rattle.rje_monitor.proofs.turns.text_of.Goals as goal

pub bytes_of-requires : goal.bytes_of-requires
bytes_of-requires c = subst IsHex (sym c.in-Some.ensures.line) (first_is_hex c.loop-line.rest.now c.in-Some.ensures.none c.loop-line.invariant.good)

pub loop-line-preserved : goal.loop-line-preserved
loop-line-preserved c =
    let rest = c.loop-line.rest.now in
    let bytes = c.in_ok-bytes.bytes.items in
    let said = c.in_ok-so_far.ensures in
    let hex : IsHexLine bytes (first_line rest) = subst (λ (l : List ℕ). IsHexLine bytes l) c.in-Some.ensures.line c.in_ok-bytes.ensures in
    let line : IsTurnLine c.loop-line.number c.loop-line.so_far said.0 bytes said.1 =
    subst (λ (b : List ℕ). IsTurnLine c.loop-line.number c.loop-line.so_far said.0 b said.1) c.as_slice.ensures.value said.2 in
    let on = goes_on c.args.lines.now c.loop-line.text.items c.push_turn.new.text.items said.1 rest bytes c.loop-line.number c.loop-line.so_far c.in_ok-so_far.so_far
    said.0 c.loop-line.invariant.on c.in-Some.ensures.none hex line said.3 said.4 in
    record {
      on = subst (λ (l : List ℕ). GoesOn c.args.lines.now c.push_turn.new.text.items (c.loop-line.number + 1) c.in_ok-so_far.so_far l) (sym c.in-Some.ensures.later) on;
      good = subst AreHexLines (sym c.in-Some.ensures.later) (later_are_hex rest c.in-Some.ensures.none c.loop-line.invariant.good);
      room = omega (arith, c.loop-line.invariant.room, c.in-Some.ensures.shorter);
    }

pub returns : goal.returns
returns c =
    let none : c.loop-line.rest.now ≡ [] = search rules in
    all_text c.args.lines.now c.loop-line.text.items c.loop-line.rest.now c.loop-line.number c.loop-line.so_far c.loop-line.invariant.on none
