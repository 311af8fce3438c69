-- A text has so many records, or its first fault is told with its place.
-- One record after another: those so far read (`piece_is_part`), and a fault within one is the text's, moved by its place (`lift_fault`).
use Rattle.std.proofs.Common.{◌≡◌, ℕ, ◌+◌, ◌++◌, ◌∷◌, [], List, length, arith}
use Rattle.std.proofs.lemmas.List.{length-append}
use Rattle.rje_text.specs.declared.record.Record.{Record}
use Rattle.rje_text.specs.Inside.RecordText.{reads_record, reads_records}
use Rattle.rje_text.proofs.Lifting.{lift_fault}
use Rattle.rje_text.proofs.Fronts.{piece_is_part, checked_step, checked_end, some_of, front_whole}
use Rattle.rje_text.proofs.unpacking.check.Goals as goal

one_more : (rs : List Record) (r : Record) (n : ℕ) → length rs ≡ n → length (rs ++ r ∷ []) ≡ n + 1
one_more rs r n h = omega (arith, h, length-append rs (r ∷ []))

pub returns-in-Err-clause-fault : goal.returns-in-Err-clause-fault
returns-in-Err-clause-fault c =
    let front = c.loop-start.invariant.front in
    let end = c.record_end-end.ensures in
    let part = piece_is_part c.args.text.now c.split_at.result.1.now c.split_at-in-loop-start.result.0.now c.loop-start.start c.record_end-end.result
    c.split_at.ensures.back c.split_at-in-loop-start.ensures.front c.loop-start-test.true end.within end.before end.at front.0 front.1 in
    lift_fault reads_records reads_record c.args.text.now c.split_at-in-loop-start.result.0.now c.loop-start.start part c.args.base c.in-Err.fault c.in-Err.ensures.fault

pub returns-then-end-rest-clause-read : goal.returns-then-end-rest-clause-read
returns-then-end-rest-clause-read c =
    let front = c.loop-start.invariant.front in
    let end = c.record_end-end.ensures in
    let (r, read) = some_of _ c.in_default.ensures.read in
    let is = checked_end c.args.text.now c.split_at.result.1.now c.split_at-in-loop-start.result.0.now c.loop-start.start c.record_end-end.result
    c.split_at.ensures.back c.split_at-in-loop-start.ensures.front c.loop-start-test.true end.within end.before end.at front.0 r front.1 c.if-end-rest.true read in
    (front.0 ++ r ∷ [], is, one_more front.0 r c.loop-start.count front.2)

pub loop-start-preserved : goal.loop-start-preserved
loop-start-preserved c =
    let front = c.loop-start.invariant.front in
    let end = c.record_end-end.ensures in
    let (r, read) = some_of _ c.in_default.ensures.read in
    let step = checked_step c.args.text.now c.split_at.result.1.now c.split_at-in-loop-start.result.0.now c.loop-start.start c.record_end-end.result
    c.split_at.ensures.back c.split_at-in-loop-start.ensures.front c.loop-start-test.true end.within end.before end.at front.0 r front.1 c.if-end-rest.false read in
    record {
      within = step.0;
      front = (front.0 ++ r ∷ [], step.1, one_more front.0 r c.loop-start.count front.2);
      few = omega (arith, c.loop-start.invariant.few);
    }

pub returns-clause-read : goal.returns-clause-read
returns-clause-read c =
    let front = c.loop-start.invariant.front in
    (front.0, front_whole c.args.text.now c.loop-start.start front.0 c.loop-start-test.false front.1, front.2)
