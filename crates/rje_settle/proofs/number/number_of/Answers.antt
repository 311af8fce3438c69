use Rattle.std.proofs.Common.{◌≡◌, Ok, Some, None, rules}
use Rattle.std.specs.Prelude.{decimal}
use Rattle.std.specs.Str.{IsUtf8}
use Rattle.std.proofs.lemmas.Fmt.{parse-decimal, IsAscii-decimal}
use Rattle.std.proofs.lemmas.Str.{IsUtf8-from_ascii}
use Rattle.rje_settle.proofs.number.number_of.Goals as goal

pub returns-in_err-ok : goal.returns-in_err-ok
returns-in_err-ok c = rw c.from_residual.ensures (λ number h e.
    let bad : ¬ (IsUtf8 c.args.text.now) = search rules in
    bad (rw e (IsUtf8-from_ascii (decimal number) (IsAscii-decimal number h))))

pub returns-in_err-number : goal.returns-in_err-number
returns-in_err-number c = rw c.from_residual-in_err-number.ensures (λ number h e.
    let same : c.in_ok-ok.field-0.now ≡ decimal number = search rules in
    let parsed : c.parse.result ≡ Ok number = parse-decimal 64 number c.in_ok-ok.field-0.now c.parse.result h h same c.parse.ensures.value.0 in
    let some : c.ok-2.result ≡ Some number = search rules in
    let none : c.ok-2.result ≡ None = search rules in
    cc)

pub returns-else-eq : goal.returns-else-eq
returns-else-eq c = λ number h e.
    let same : c.in_ok-ok.field-0.now ≡ decimal number = search rules in
    let parsed : c.parse.result ≡ Ok number = parse-decimal 64 number c.in_ok-ok.field-0.now c.parse.result h h same c.parse.ensures.value.0 in
    let read : c.in_ok-number.number ≡ number = search rules in
    search rules
