-- The turns of a script, or the first line that is none.
-- One line after another: the turns so far are those of the lines so far (`turn_read`).
use Rattle.std.proofs.Common.{◌≡◌, ◌+◌, ◌++◌, ◌∷◌, [], suc, length, subst, sym, rules, arith, List, ap}
use Rattle.std.proofs.lemmas.List.{length_push}
use Rattle.line_world.specs.declared.turn.Turn.{Turn}
use Rattle.rje_print.specs.Script.{IsScript, IsBadBehind, IsTurn}
use Rattle.rje_print.proofs.Scripts.{turn_read, script_read}
use Rattle.rje_print.proofs.script.read_script.Goals as goal

pub loop-line-preserved : goal.loop-line-preserved
loop-line-preserved c =
    let pushed : c.push.new.self.items ≡ c.loop-line.turns.items ++ c.in-Ok-Some.turn ∷ [] = search rules in
    let turn = rw c.in-Ok-Some.field-0-is at c.in-Ok-Some.ensures in
    let is_turn : IsTurn c.in-Some.line.now = (c.in-Ok-Some.turn, turn.0, turn.1) in
    record {
      read = λ more h.
          subst (λ (ts : List Turn). IsScript (ts ++ more) c.args.script.now) (sym pushed)
          (turn_read c.loop-line.turns.items more c.in-Ok-Some.turn c.args.script.now c.loop-line.rest.now c.in-Some.line.now c.in-Some.more.now
          c.loop-line.invariant.read c.in-Some.ensures.line.parts turn.0 h);
      bad = λ before h.
          let next : IsBadBehind (suc before) c.loop-line.rest.now = (c.in-Some.line.now, c.in-Some.more.now, c.in-Some.ensures.line, is_turn, h) in
          let count : length c.loop-line.turns.items + suc before ≡ length c.push.new.self.items + before =
          omega (arith, ap length pushed, length_push c.loop-line.turns.items c.in-Ok-Some.turn) in
          rw count at (c.loop-line.invariant.bad (suc before) next);
    }

pub returns : goal.returns
returns c = record {
  script =
      let none : c.loop-line.rest.now ≡ [] = search rules in
      script_read c.loop-line.turns.items c.args.script.now c.loop-line.rest.now c.loop-line.invariant.read none;
  told = tt;
}

pub returns-in-Ok-None-clause-told : goal.returns-in-Ok-None-clause-told
returns-in-Ok-None-clause-told c =
    let none : ¬ (IsTurn c.in-Some.line.now) = rw c.in-Ok-None.field-0-is at c.in-Ok-None.ensures in
    let turns : length c.loop-line.turns.items + 0 ≡ length c.loop-line.turns.items = omega arith in
    let bad : IsBadBehind (length c.loop-line.turns.items) c.args.script.now =
    rw turns at (c.loop-line.invariant.bad 0 (c.in-Some.line.now, c.in-Some.more.now, c.in-Some.ensures.line, none)) in
    let count : c.len.result ≡ length c.loop-line.turns.items = search rules in
    (length c.loop-line.turns.items, omega arith, bad)
