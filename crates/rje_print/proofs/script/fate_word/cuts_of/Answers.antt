use Rattle.std.proofs.Common.{◌≡◌, ◌++◌, ◌∷◌, [], ap, sym, ◌∙◌, rules, arith}
use Rattle.std.proofs.lemmas.Grind.{common_steps}
use Rattle.std.proofs.lemmas.List.Elements.{All-push}
use Rattle.rje_print.specs.Script.{cuts_text}
use Rattle.rje_print.proofs.Fates.{IsPlace, first_place, only_place, places_are}
use Rattle.rje_print.proofs.Scripts.{cuts_word}
use Rattle.rje_print.proofs.script.fate_word.cuts_of.Goals as goal

pub loop-text-preserved : goal.loop-text-preserved
loop-text-preserved c =
    let pushed : c.push.new.self.items ≡ c.loop-text.cuts.items ++ c.in-Some-number_of.place ∷ [] = search rules in
    record {
      cut = grind (arith, common_steps);
      fit = rw pushed (All-push IsPlace c.loop-text.cuts.items c.in-Some-number_of.place c.loop-text.invariant.fit c.in-Some-number_of.ensures.1);
      still = λ h. (first_place c.loop-text.rest.now c.in-Some.text.now c.in-Some.more.now c.in-Some.ensures.parts (c.loop-text.invariant.still h)).1;
    }

pub returns-in_default-number_of : goal.returns-in_default-number_of
returns-in_default-number_of c = λ h.
    let still = c.loop-text.invariant.still (places_are c.args.places.now h) in
    let place = (first_place c.loop-text.rest.now c.in-Some.text.now c.in-Some.more.now c.in-Some.ensures.parts still).0 in
    c.in_default-number_of.ensures place.0 place.1 place.2

pub returns-in_default-number_of-2 : goal.returns-in_default-number_of-2
returns-in_default-number_of-2 c = λ h.
    let place = only_place c.loop-text.rest.now c.in_default.ensures.parts (c.loop-text.invariant.still (places_are c.args.places.now h)) in
    c.in_default-number_of-2.ensures place.0 place.1 place.2

pub returns : goal.returns
returns c =
    let pushed : c.push-2.new.self.items ≡ c.loop-text.cuts.items ++ c.in-Some-number_of-2.place ∷ [] = search rules in (
      cuts_word c.loop-text.cuts.items c.args.places.now c.loop-text.rest.now c.in-Some-number_of-2.place c.loop-text.invariant.cut c.in-Some-number_of-2.ensures.0
          ∙ ap cuts_text (sym pushed),
      rw pushed (All-push IsPlace c.loop-text.cuts.items c.in-Some-number_of-2.place c.loop-text.invariant.fit c.in-Some-number_of-2.ensures.1),
    )
