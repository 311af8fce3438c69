use Rattle.std.proofs.Common.{◌≡◌, ◌∷◌, ℕ, ◌<◌, rules}
use Rattle.rje_print.specs.Script.{IsHexDigit}
use Rattle.rje_print.proofs.Fates.{pair_digits}
use Rattle.rje_print.proofs.script.fate_word.first_byte.Goals as goal

pub returns-in_err-high-2-clause-byte : goal.returns-in_err-high-2-clause-byte
returns-in_err-high-2-clause-byte c = rw c.from_residual-in_err-high-2.ensures (λ has.
    let parts : c.args.digits.now ≡ c.in_ok-high.high.now ∷ c.in_ok-low.low.now ∷ c.in_ok-low.rest.now = search rules in
    let high = (pair_digits _ _ _ _ parts has).0 in
    let none : (value : ℕ) → value < 16 → ¬ (IsHexDigit value c.in_ok-high.high.now) = c.in_err-high-2.ensures.value in
    none high.0 high.1 high.2)

pub returns-in_err-low-2-clause-byte : goal.returns-in_err-low-2-clause-byte
returns-in_err-low-2-clause-byte c = rw c.from_residual-in_err-low-2.ensures (λ has.
    let parts : c.args.digits.now ≡ c.in_ok-high.high.now ∷ c.in_ok-low.low.now ∷ c.in_ok-low.rest.now = search rules in
    let low = (pair_digits _ _ _ _ parts has).1 in
    let none : (value : ℕ) → value < 16 → ¬ (IsHexDigit value c.in_ok-low.low.now) = c.in_err-low-2.ensures.value in
    none low.0 low.1 low.2)
