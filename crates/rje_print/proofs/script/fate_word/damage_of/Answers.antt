use Rattle.std.proofs.Common.{◌≡◌, ◌<◌, ◌++◌, ◌∷◌, [], length, subst, rules, arith}
use Rattle.std.proofs.lemmas.Grind.{common_steps}
use Rattle.std.proofs.lemmas.List.{append-nil}
use Rattle.std.proofs.lemmas.List.{nil_from_length}
use Rattle.std.proofs.lemmas.List.Elements.{All-push}
use Rattle.rje_print.specs.Script.{IsHexOf, HasFirstPair}
use Rattle.rje_print.proofs.Fates.{IsByte, hex_behind, hex_begins, hex_is}
use Rattle.rje_print.proofs.Scripts.{damage_word}
use Rattle.rje_print.proofs.script.fate_word.damage_of.Goals as goal

pub loop-byte-preserved : goal.loop-byte-preserved
loop-byte-preserved c =
    let pushed : c.push.new.self.items ≡ c.loop-byte.bytes.items ++ c.in-Some.byte ∷ [] = search rules in
    record {
      hex = grind (arith, common_steps);
      fit = rw pushed (All-push IsByte c.loop-byte.bytes.items c.in-Some.byte c.loop-byte.invariant.fit c.in-Some.ensures.byte.1);
      still = λ h. hex_behind c.loop-byte.rest.now c.in-Some.more.now c.in-Some.byte c.in-Some.ensures.byte.0 (c.loop-byte.invariant.still h);
    }

pub returns-then-not-is_empty : goal.returns-then-not-is_empty
returns-then-not-is_empty c = λ h.
    let some : 0 < length c.loop-byte.rest.now = search rules in
    let none : ¬ (HasFirstPair c.loop-byte.rest.now) = search rules in
    none (hex_begins c.loop-byte.rest.now some (c.loop-byte.invariant.still (hex_is c.args.digits.now h).1))

pub returns : goal.returns
returns c =
    let none : length c.loop-byte.rest.now ≡ 0 = search rules in
    let some : 0 < length c.args.digits.now = search rules in
    let all : IsHexOf c.loop-byte.bytes.items c.args.digits.now =
    subst (λ bytes. IsHexOf bytes c.args.digits.now) (append-nil c.loop-byte.bytes.items) (c.loop-byte.invariant.hex [] (nil_from_length _ none)) in
    (damage_word c.loop-byte.bytes.items c.args.digits.now all some, c.loop-byte.invariant.fit)
