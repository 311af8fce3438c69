use Rattle.std.proofs.Common.{◌≡◌, ℕ, suc, ◌+◌, List, subst, rules, arith}
use Rattle.rje_monitor.specs.Turns.{first_line, later_lines, IsHex, IsBadBehind, AreHexLines}
use Rattle.rje_monitor.proofs.TurnLines.{one_more}
use Rattle.rje_monitor.proofs.turns.first_bad_line.Goals as goal

pub returns-then-not-is_hex : goal.returns-then-not-is_hex
returns-then-not-is_hex c =
    let before = c.loop-line.invariant.number.0 in
    let no : ¬ (IsHex c.in-Some.line.now) = search rules in
    let bad : IsBadBehind 0 c.loop-line.rest.now = (c.in-Some.ensures.none, subst (λ (l : List ℕ). ¬ (IsHex l)) c.in-Some.ensures.line no) in
    let count : before + 0 ≡ before = omega arith in
    (before, c.loop-line.invariant.number.1, subst (λ n. IsBadBehind n c.args.lines.now) count (c.loop-line.invariant.number.2 0 bad))

pub loop-line-preserved : goal.loop-line-preserved
loop-line-preserved c =
    let before = c.loop-line.invariant.number.0 in
    let yes : IsHex c.in-Some.line.now = search rules in
    let hex : IsHex (first_line c.loop-line.rest.now) = subst IsHex c.in-Some.ensures.line yes in
    record {
      number = (
        before + 1,
        omega (arith, c.loop-line.invariant.number.1),
        λ n h.
            let later : IsBadBehind n (later_lines c.loop-line.rest.now) = subst (λ (l : List ℕ). IsBadBehind n l) c.in-Some.ensures.later h in
            let count : before + suc n ≡ before + 1 + n = omega arith in
            subst (λ k. IsBadBehind k c.args.lines.now) count (c.loop-line.invariant.number.2 (suc n) (c.in-Some.ensures.none, hex, later)),
      );
      good = λ later. c.loop-line.invariant.good (one_more c.loop-line.rest.now c.in-Some.ensures.none hex (subst AreHexLines c.in-Some.ensures.later later));
      room = omega (arith, c.loop-line.invariant.room, c.in-Some.ensures.shorter);
    }
