use Rattle.std.proofs.Common.{inl, inr, sym, ◌∙◌}
use Rattle.rje_text.proofs.Selections.{no_front, one_front, later_block, empty_text, first_byte, prints, punches, selects_nothing}
use Rattle.rje_text.proofs.unpacking.front_of.Goals as goal
use Rattle.rje_text.proofs.unpacking.front_of.Goals.{then-is_some-via-then-is_some, then-is_some-via-else-is_some+then-is_empty, then-text-eq-DC2-via-then-text-eq-DC2, then-text-eq-DC2-via-else-text-eq-DC2+then-text-eq-DC3}

pub returns-then-is_some : goal.returns-then-is_some
returns-then-is_some c =
    elim c.then-is_some.branch [
      | then-is_some-via-then-is_some w ↦ no_front c.args.so_far c.args.text.now (later_block c.args.so_far c.args.text.now (sym c.is_some.ensures ∙ w.if-is_some.true))
      | then-is_some-via-else-is_some+then-is_empty w ↦
          no_front c.args.so_far c.args.text.now (empty_text c.args.so_far c.args.text.now (sym w.is_empty.ensures ∙ w.if-is_empty.true))
    ]

pub returns-then-text-eq-DC1 : goal.returns-then-text-eq-DC1
returns-then-text-eq-DC1 c =
    let first = first_byte c.args.so_far c.args.text.now (sym c.is_some.ensures ∙ c.if-is_some.false) (sym c.is_empty.ensures ∙ c.if-is_empty.false) in
    one_front c.args.so_far c.args.text.now _ (first ∙ prints _ c.if-text-eq-DC1.true)

pub returns-then-text-eq-DC2 : goal.returns-then-text-eq-DC2
returns-then-text-eq-DC2 c =
    let first = first_byte c.args.so_far c.args.text.now (sym c.is_some.ensures ∙ c.if-is_some.false) (sym c.is_empty.ensures ∙ c.if-is_empty.false) in
    elim c.then-text-eq-DC2.branch [
      | then-text-eq-DC2-via-then-text-eq-DC2 w ↦ one_front c.args.so_far c.args.text.now _ (first ∙ punches _ c.if-text-eq-DC1.false (inl w.if-text-eq-DC2.true))
      | then-text-eq-DC2-via-else-text-eq-DC2+then-text-eq-DC3 w ↦
          one_front c.args.so_far c.args.text.now _ (first ∙ punches _ c.if-text-eq-DC1.false (inr w.if-text-eq-DC3.true))
    ]

pub returns : goal.returns
returns c =
    let first = first_byte c.args.so_far c.args.text.now (sym c.is_some.ensures ∙ c.if-is_some.false) (sym c.is_empty.ensures ∙ c.if-is_empty.false) in
    no_front c.args.so_far c.args.text.now (first ∙ selects_nothing _ c.if-text-eq-DC1.false c.if-text-eq-DC2.false c.if-text-eq-DC3.false)
