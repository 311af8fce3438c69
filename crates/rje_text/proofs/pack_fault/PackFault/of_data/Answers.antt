use Rattle.std.proofs.Common.{◌≡◌, ℕ, Bool, List, length, Option, refl, ap, ap₂, ◌∙◌}
use Rattle.std.specs.Option.{option_or}
use Rattle.rje_text.specs.declared.mode.Mode.{Mode}
use Rattle.rje_text.specs.declared.select.Select.{Select}
use Rattle.rje_text.specs.declared.record.Record.{Record}
use Rattle.rje_text.specs.declared.pack_fault.PackFault.{PackFault}
use Rattle.rje_text.specs.Records.{record_of_data}
use Rattle.rje_text.specs.PackFault.{pack_fault, bad_byte, card_length, is_of_cards, action_here}
use Rattle.rje_text.proofs.pack_fault.PackFault.of_data.Goals as goal

by_parts : (select : Select) (mode : Mode) (r : Record) (bytes : List ℕ) (of_cards : Bool) (bad length_fault action later all : Option PackFault)
    → bytes ≡ r.bytes.items → of_cards ≡ is_of_cards select mode → bad ≡ bad_byte mode bytes → length_fault ≡ card_length select mode (length bytes)
    → action ≡ action_here of_cards r.action → later ≡ option_or length_fault action → all ≡ option_or bad later → all ≡ pack_fault select mode r
unfolding pack_fault
by_parts select mode r bytes of_cards bad length_fault action later all same cards bad_is length_is action_is later_is all_is =
    all_is ∙ ap₂ option_or (bad_is ∙ ap (bad_byte mode) same)
    (later_is ∙ ap₂ option_or (length_is ∙ ap (λ xs. card_length select mode (length xs)) same) (action_is ∙ ap (λ b. action_here b r.action) cards))

pub returns : goal.returns
returns c =
    by_parts c.args.select c.args.mode (record_of_data c.args.action c.args.items.now) c.args.items.now _ _ _ _ _ _
    refl c.is_of_cards.ensures c.bad_byte.ensures c.card_length-length.ensures c.action_here-action.ensures c.or.ensures c.or-2.ensures
