use Rattle.std.proofs.Common.{◌≡◌, ◌∷◌, ◌+◌, ◌*◌, ◌/◌, ◌%◌, rules, arith}
use Rattle.rje_monitor.specs.Turns.{after_blanks}
use Rattle.rje_monitor.proofs.Pairs.{pair_digits}
use Rattle.rje_monitor.proofs.hex_line.first_pair.Goals as goal

pub returns-in_err-high-2-clause-pair : goal.returns-in_err-high-2-clause-pair
returns-in_err-high-2-clause-pair c = rw c.from_residual-in_err-high-2.ensures (λ b behind pair.
    let parts : after_blanks c.args.text.now ≡ c.in_ok-high.high.now ∷ c.in_ok-low.low.now ∷ c.in_ok-low.rest.now = search rules in
    c.in_err-high-2.ensures.value (b / 16) (pair_digits _ behind _ _ b _ parts pair).0)

pub returns-in_err-low-2-clause-pair : goal.returns-in_err-low-2-clause-pair
returns-in_err-low-2-clause-pair c = rw c.from_residual-in_err-low-2.ensures (λ b behind pair.
    let parts : after_blanks c.args.text.now ≡ c.in_ok-high.high.now ∷ c.in_ok-low.low.now ∷ c.in_ok-low.rest.now = search rules in
    c.in_err-low-2.ensures.value (b % 16) (pair_digits _ behind _ _ b _ parts pair).1)

pub returns-clause-pair : goal.returns-clause-pair
returns-clause-pair c =
    let parts : after_blanks c.args.text.now ≡ c.in_ok-high.high.now ∷ c.in_ok-low.low.now ∷ c.in_ok-low.rest.now = search rules in
    let high : (c.in_ok-high-2.high * 16 + c.in_ok-low-2.low) / 16 ≡ c.in_ok-high-2.high = omega (arith, c.in_ok-low-2.ensures.small) in
    let low : (c.in_ok-high-2.high * 16 + c.in_ok-low-2.low) % 16 ≡ c.in_ok-low-2.low = omega (arith, c.in_ok-low-2.ensures.small) in
    (c.in_ok-high.high.now, c.in_ok-low.low.now, parts, rw high c.in_ok-high-2.ensures.value, rw low c.in_ok-low-2.ensures.value)
