use Rattle.std.proofs.Common.{◌≡◌, ◌+◌, [], ◌∷◌, ◌++◌, List, length, sym, ap, refl, ◌∙◌, append-nil, arith}
use Rattle.std.specs.Vec.Iter.{into_iter_items}
use Rattle.rje_files.specs.declared.entry.Entry.{Entry}
use Rattle.rje_commands.proofs.Chosen.{none_left, taken_from, taken_step}
use Rattle.rje_commands.proofs.commands.chosen_jobs.taken_entries.Goals as goal

pub loop-entry-preserved : goal.loop-entry-preserved
loop-entry-preserved c =
    let at = c.loop-entry in
    let e = c.in-Some.entry in
    let rest = into_iter_items c.next.new.self in
    let steps : into_iter_items at.entry-iterator ≡ e ∷ rest = c.in-Some.ensures.steps.0 in record {
      made = ap (λ (xs : List Entry). xs ++ taken_from (at.place + 1) c.args.numbers.now.text.now rest) (c.in_ok-push_taken.ensures.made ∙ (rw c.is_chosen.ensures refl))
          ∙ taken_step at.made.items rest e at.place c.args.numbers.now.text.now ∙ rw steps at at.invariant.made;
      placed = let short = ap length steps in let was = at.invariant.placed in omega arith;
      long = let short = ap length steps in let was = at.invariant.long in let gone = c.in-Some.ensures.steps.1 in omega arith;
    }

pub returns : goal.returns
returns c =
    let at = c.loop-entry in
    let empty : into_iter_items at.entry-iterator ≡ [] = none_left _ (sym at.invariant.long ∙ c.in-None.ensures.steps.0) in
    record { taken = sym (append-nil at.made.items) ∙ rw empty at at.invariant.made }
