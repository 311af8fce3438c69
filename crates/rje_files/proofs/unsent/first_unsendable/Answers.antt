use Rattle.std.proofs.Common.{rules, ◌≡◌, get_or, length, take, subst, ap, ◌∙◌, arith}
use Rattle.std.specs.List.{All}
use Rattle.std.proofs.Math.Seq.{take-length}
use Rattle.std.proofs.lemmas.List.Elements.{All-more}
use Rattle.rje_files.specs.Unsent.{CanPass}
use Rattle.rje_files.proofs.Unsendable.{unsendable_at}
use Rattle.rje_files.proofs.unsent.first_unsendable.Goals as goal

pub returns-then-not-can_pass : goal.returns-then-not-can_pass
returns-then-not-can_pass c =
    let entry = c.index-entries-place.result in
    let here : entry ≡ get_or c.args.entries.now c.loop-place.place entry = search rules in
    let stops : CanPass entry → ⊥ = search rules in
    record { first = unsendable_at c.args.entries.now c.loop-place.place entry c.loop-place.invariant c.loop-place-test.true here stops }

pub loop-place-preserved : goal.loop-place-preserved
loop-place-preserved c =
    let entry = c.index-entries-place.result in
    let passes : CanPass (get_or c.args.entries.now c.loop-place.place entry) = search rules in
    All-more CanPass c.args.entries.now c.loop-place.place entry c.loop-place-test.true c.loop-place.invariant passes

pub returns : goal.returns
returns c =
    let entries = c.args.entries.now in
    let end : c.loop-place.place ≡ length entries = omega (arith, c.loop-place-test.false, c.loop-place.auto.place-end) in
    record { first = subst (λ es. All CanPass es) (ap (λ n. take n entries) end ∙ take-length entries) c.loop-place.invariant }
