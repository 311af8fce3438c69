-- The records of a text that has so many.
-- One record after another is taken off the front (`piece_reads`), and the records so far are those of the front.
use Rattle.std.proofs.Common.{◌++◌, ◌∷◌, [], List, ℕ, ap, sym, ◌∙◌, Some, arith}
use Rattle.std.proofs.lemmas.List.{append_assoc, append-nil}
use Rattle.rje_text.specs.Reading.{records_in}
use Rattle.rje_text.proofs.Fronts.{piece_reads, collected_step, collected_end, none_left}
use Rattle.rje_text.proofs.unpacking.collect.Goals as goal

pub loop-start-init : goal.loop-start-init
loop-start-init c =
    let (rs, read, many) = c.requires in
    record { within = omega arith; rest = (rs, read, read ∙ ap (λ zs. Some (zs ++ rs)) (sym c.in_ok-records.ensures.empty)) }

pub record_from-requires : goal.record_from-requires
record_from-requires c =
    let end = c.record_end-end.ensures in
    let inv = c.loop-start.invariant.rest in
    piece_reads c.args.text.now c.split_at.result.1.now c.split_at-in-loop-start.result.0.now c.loop-start.start c.record_end-end.result
    c.split_at.ensures.back c.split_at-in-loop-start.ensures.front c.loop-start-test.true end.within end.before end.at inv.0
    (ap (λ (xs : List ℕ). records_in xs) c.split_at.ensures.back ∙ inv.1)

pub returns-then-end-rest : goal.returns-then-end-rest
returns-then-end-rest c =
    let end = c.record_end-end.ensures in
    let inv = c.loop-start.invariant.rest in
    let last = collected_end c.args.text.now c.split_at.result.1.now c.split_at-in-loop-start.result.0.now c.loop-start.start c.record_end-end.result
    c.split_at.ensures.back c.split_at-in-loop-start.ensures.front c.loop-start-test.true end.within end.before end.at inv.0 c.record_from.result
    (ap (λ (xs : List ℕ). records_in xs) c.split_at.ensures.back ∙ inv.1) c.if-end-rest.true c.record_from.ensures in
    inv.2 ∙ ap (λ zs. Some (c.loop-start.records ++ zs)) last ∙ ap (λ zs. Some zs) (sym c.in_ok-push.ensures.ok)

pub loop-start-preserved : goal.loop-start-preserved
loop-start-preserved c =
    let end = c.record_end-end.ensures in
    let inv = c.loop-start.invariant.rest in
    let (within, later, reads, more) = collected_step c.args.text.now c.split_at.result.1.now c.split_at-in-loop-start.result.0.now c.loop-start.start c.record_end-end.result
    c.split_at.ensures.back c.split_at-in-loop-start.ensures.front c.loop-start-test.true end.within end.before end.at inv.0 c.record_from.result
    (ap (λ (xs : List ℕ). records_in xs) c.split_at.ensures.back ∙ inv.1) c.if-end-rest.false c.record_from.ensures in
    record {
      within = within;
      rest = (
        later,
        reads,
        inv.2 ∙ ap (λ zs. Some (c.loop-start.records ++ zs)) more
            ∙ ap (λ zs. Some zs) (sym (append_assoc c.loop-start.records (c.record_from.result ∷ []) later) ∙ ap (λ zs. zs ++ later) (sym c.in_ok-push.ensures.ok)),
      );
    }

pub returns : goal.returns
returns c =
    let inv = c.loop-start.invariant.rest in
    inv.2 ∙ ap (λ zs. Some (c.loop-start.records ++ zs)) (none_left c.args.text.now c.loop-start.start inv.0 c.loop-start-test.false inv.1)
    ∙ ap (λ zs. Some zs) (append-nil c.loop-start.records)
