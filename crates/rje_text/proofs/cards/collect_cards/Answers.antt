use Rattle.std.proofs.Common.{◌≡◌, ◌/◌, ◌++◌, ◌∷◌, [], length, ap, sym, ◌∙◌, false, eqb}
use Rattle.std.proofs.lemmas.List.{append_assoc}
use Rattle.rje_text.specs.Reading.{cards}
use Rattle.rje_text.proofs.Selections.{others_whole, cards_more}
use Rattle.rje_text.proofs.cards.collect_cards.Goals as goal

pub loop-rest-preserved : goal.loop-rest-preserved
loop-rest-preserved c =
    let some : eqb (length c.loop-rest.rest.now) 0 ≡ false = sym c.is_empty.ensures ∙ c.loop-rest-test.true in
    let card = c.split_at.ensures in
    let r = c.card_record.ensures in
    let more = cards_more c.loop-rest.rest.now c.split_at.result.0.now c.split_at.result.1.now c.card_record.result some c.loop-rest.invariant.whole card.front card.back r.action r.bytes in
    record {
      whole = others_whole c.loop-rest.rest.now c.split_at.result.0.now c.split_at.result.1.now c.card_record.result some c.loop-rest.invariant.whole card.front card.back r.action r.bytes;
      joined = ap (λ rs. rs ++ cards (length c.split_at.result.1.now / 80) c.split_at.result.1.now) c.in_ok-push.ensures.ok
          ∙ append_assoc c.loop-rest.records (c.card_record.result ∷ []) (cards (length c.split_at.result.1.now / 80) c.split_at.result.1.now)
          ∙ ap (λ rs. c.loop-rest.records ++ rs) (sym more) ∙ c.loop-rest.invariant.joined;
    }
