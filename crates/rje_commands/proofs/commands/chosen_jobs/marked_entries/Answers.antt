use Rattle.std.proofs.Common.{◌≡◌, ◌+◌, [], ◌∷◌, ◌++◌, List, length, if◌then◌else◌, sym, ap, ◌∙◌, append-nil, arith}
use Rattle.std.specs.Vec.Iter.{into_iter_items}
use Rattle.rje_files.specs.declared.entry.Entry.{Entry}
use Rattle.rje_commands.specs.Chosen.{is_chosen, marked_from}
use Rattle.rje_commands.proofs.Chosen.{marked_step, none_left}
use Rattle.rje_commands.proofs.commands.chosen_jobs.marked_entries.Goals as goal

pub loop-entry-preserved : goal.loop-entry-preserved
loop-entry-preserved c =
    let at = c.loop-entry in
    let e = c.in-Some.entry in
    let rest = into_iter_items c.next.new.self in
    let numbers = c.args.numbers.now.text.now in
    let state = c.args.state in
    let steps : into_iter_items at.entry-iterator ≡ e ∷ rest = c.in-Some.ensures.steps.0 in
    let one : c.entry_with.result ≡ (if is_chosen numbers at.place then record e { state = state } else e) =
    rw c.is_chosen.ensures at c.entry_with.ensures in
    let pushed : c.push.new.self.items ≡ at.made.items ++ (if is_chosen numbers at.place then record e { state = state } else e) ∷ [] =
    c.in_ok-push.ensures.items ∙ ap (λ (x : Entry). at.made.items ++ x ∷ []) one in record {
      made = ap (λ (xs : List Entry). xs ++ marked_from (at.place + 1) numbers state rest) pushed
          ∙ marked_step at.made.items rest e at.place numbers state ∙ rw steps at at.invariant.made;
      placed = let short = ap length steps in let was = at.invariant.placed in omega arith;
      long = let short = ap length steps in let was = at.invariant.long in let gone = c.in-Some.ensures.steps.1 in omega arith;
    }

pub returns : goal.returns
returns c =
    let at = c.loop-entry in
    let empty : into_iter_items at.entry-iterator ≡ [] = none_left _ (sym at.invariant.long ∙ c.in-None.ensures.steps.0) in
    record { marked = sym (append-nil at.made.items) ∙ rw empty at at.invariant.made }
