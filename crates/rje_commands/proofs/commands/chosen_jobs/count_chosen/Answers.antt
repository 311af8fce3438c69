use Rattle.std.proofs.Common.{◌<◌, length, true, false, sym, ◌∙◌, arith}
use Rattle.rje_commands.proofs.Chosen.{count_step}
use Rattle.rje_commands.proofs.commands.chosen_jobs.count_chosen.Goals.{then-is_chosen, else-is_chosen}
use Rattle.rje_commands.proofs.commands.chosen_jobs.count_chosen.Goals as goal

pub loop-place-preserved : goal.loop-place-preserved
loop-place-preserved c =
    let numbers = c.args.numbers.now.text.now in
    let entries = c.args.entries.now in
    let place = c.loop-place.place in
    let within : place < length entries = omega arith in
    let counted = c.loop-place.invariant.counted in
    elim c.if-is_chosen.branch [
      | then-is_chosen w ↦
          let step = count_step numbers entries place true within (sym c.is_chosen.ensures ∙ w.if-is_chosen.true) in
          record { few = omega arith; counted = omega arith }
      | else-is_chosen w ↦
          let step = count_step numbers entries place false within (sym c.is_chosen.ensures ∙ w.if-is_chosen.false) in
          record { few = omega arith; counted = omega arith }
    ]
