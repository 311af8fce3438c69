use Rattle.std.proofs.Common.{◌≡◌, ◌≢◌, ℕ, List, [], length, Some, rules, arith, ap}
use Rattle.std.specs.Prelude.{slice_get}
use Rattle.std.proofs.lemmas.Bool.Decides.{nat_tests}
use Rattle.std.proofs.lemmas.List.{nil_from_length}
use Rattle.rje_monitor.specs.Turns.{IsPair, after_blanks}
use Rattle.rje_monitor.proofs.Pairs.{same_end, pairs_end, pairs_none}
use Rattle.rje_monitor.proofs.hex_line.is_hex.Goals as goal

pub loop-byte-preserved : goal.loop-byte-preserved
loop-byte-preserved c = same_end c.args.line.now c.loop-byte.rest.now c.in-Some.more.now c.in-Some._byte c.loop-byte.invariant c.in-Some.ensures.pair

pub returns : goal.returns
returns c =
    let no_blank : slice_get c.args.line.now 0 ≢ Some 0x20 = grind (arith, nat_tests) in
    let none : (b : ℕ) (behind : List ℕ) → ¬ (IsPair b (after_blanks c.loop-byte.rest.now) behind) = search rules in (
      λ empty.
          let zero : length c.loop-byte.rest.now ≡ 0 = grind (arith, nat_tests) in
          let all = c.loop-byte.invariant.1 (pairs_none c.loop-byte.rest.now (nil_from_length _ zero)) in
          (all.0, (no_blank, all.1)),
      λ hex.
          let ends : c.loop-byte.rest.now ≡ [] = pairs_end c.loop-byte.rest.now none (c.loop-byte.invariant.0 (hex.0, hex.1.1)) in
          let zero : length c.loop-byte.rest.now ≡ 0 = ap length ends in
          grind (arith, nat_tests),
    )
