-- A text is a record's, or its first fault is told with its place.
-- An invariant: the bytes so far read as data, and so many of them (Expanding); each way out is the first byte that doesn't go on so.
use Rattle.std.proofs.Common.{◌+◌, ◌-◌, ◌++◌, [], get_or, replicate, ap, sym, ◌∙◌, arith}
use Rattle.std.specs.Option.{is_some}
use Rattle.std.proofs.lemmas.List.{length-append, length-replicate}
use Rattle.bsc_codes.specs.Bytes.{BLANK}
use Rattle.rje_text.proofs.Expanding.{nothing_behind, stands_front, stands_count, whole_record, lacks_count, passes_count, passes_byte, no_count_past, no_count_at, no_igs_at, igs_at}
use Rattle.rje_text.specs.TextFault.{HasNoCount}
use Rattle.rje_text.proofs.record_text.check_record.Goals as goal
use Rattle.rje_text.proofs.record_text.check_record.Goals.{then-text-i-via-then-text-i, then-text-i-via-else-text-i+then-not-is_blank_count}

pub loop-i-init : goal.loop-i-init
loop-i-init c =
    record {
      behind = omega arith;
      within = omega arith;
      room = omega arith;
      stands = ([], omega arith, nothing_behind c.args.text.now c.head_of-head.result.1 c.head_of-head.ensures.within);
    }

pub returns-then-length-data-clause-fault : goal.returns-then-length-data-clause-fault
returns-then-length-data-clause-fault c =
    let text = c.args.text.now in
    let i = c.loop-i.i in
    let inv = c.loop-i.invariant in
    let first = c.first_place-data in
    let room = 144 - c.loop-i.length in
    let (inside, zs, len, stands) = stands_front text c.split_at.result.1.now inv.stands.0 c.head_of-head.result.1 i first.result room inv.behind inv.within
    c.split_at.ensures.back first.ensures.within first.ensures.before (omega arith) inv.stands.2 in
    let other = no_igs_at text c.split_at.result.1.now i first.result c.split_at.ensures.back first.ensures.before room (omega arith) in (
      i + room,
      omega arith,
      passes_byte text zs c.head_of-head.result.1 (i + room) c.head_of-head.result.0 c.head_of-head.ensures (omega arith)
          (omega arith) other (omega (arith, len, inv.stands.1, inv.room)) stands,
    )

pub returns-then-text-i-clause-fault : goal.returns-then-text-i-clause-fault
returns-then-text-i-clause-fault c =
    let text = c.args.text.now in
    let inv = c.loop-i.invariant in
    let first = c.first_place-data in
    let at = c.loop-i.i + first.result in
    let (inside, zs, len, stands) = stands_front text c.split_at.result.1.now inv.stands.0 c.head_of-head.result.1 c.loop-i.i first.result first.result inv.behind
    inv.within c.split_at.ensures.back first.ensures.within first.ensures.before (omega arith) inv.stands.2 in
    let igs = igs_at text c.split_at.result.1.now c.loop-i.i first.result c.split_at.ensures.back first.ensures.before first.ensures.at c.if-i-text.true in
    let none : HasNoCount text (at + 1) =
    elim c.then-text-i.branch [
      | then-text-i-via-then-text-i w ↦ no_count_past text (at + 1) w.if-text-i.true
      | then-text-i-via-else-text-i+then-not-is_blank_count w ↦
          no_count_at text (at + 1) w.if-text-i.false (sym w.is_blank_count.ensures.value ∙ w.if-not-is_blank_count.true)
    ] in (
      at + 1,
      omega arith,
      lacks_count text zs c.head_of-head.result.1 at c.head_of-head.result.0 c.head_of-head.ensures (omega arith) c.if-i-text.true igs none
          (omega (arith, len, inv.stands.1, inv.room)) stands,
    )

pub returns-then-length-count-gt-MAX_RECORD-clause-fault : goal.returns-then-length-count-gt-MAX_RECORD-clause-fault
returns-then-length-count-gt-MAX_RECORD-clause-fault c =
    let text = c.args.text.now in
    let inv = c.loop-i.invariant in
    let first = c.first_place-data in
    let at = c.loop-i.i + first.result in
    let (inside, zs, len, stands) = stands_front text c.split_at.result.1.now inv.stands.0 c.head_of-head.result.1 c.loop-i.i first.result first.result inv.behind
    inv.within c.split_at.ensures.back first.ensures.within first.ensures.before (omega arith) inv.stands.2 in
    let igs = igs_at text c.split_at.result.1.now c.loop-i.i first.result c.split_at.ensures.back first.ensures.before first.ensures.at c.if-i-text.true in (
      at,
      omega arith,
      passes_count text zs c.head_of-head.result.1 at c.head_of-head.result.0 c.head_of-head.ensures (omega arith) (omega arith) igs
          (sym c.is_blank_count.ensures.value ∙ c.if-not-is_blank_count.false) (omega (arith, len, inv.stands.1, inv.room)) (omega (arith, len, inv.stands.1)) stands,
    )

pub loop-i-preserved-then-i-text : goal.loop-i-preserved-then-i-text
loop-i-preserved-then-i-text c =
    let text = c.args.text.now in
    let inv = c.loop-i.invariant in
    let first = c.first_place-data in
    let at = c.loop-i.i + first.result in
    let n = get_or text (at + 1) 0 - BLANK in
    let (inside, zs, len, stands) = stands_front text c.split_at.result.1.now inv.stands.0 c.head_of-head.result.1 c.loop-i.i first.result first.result inv.behind
    inv.within c.split_at.ensures.back first.ensures.within first.ensures.before (omega arith) inv.stands.2 in
    let igs = igs_at text c.split_at.result.1.now c.loop-i.i first.result c.split_at.ensures.back first.ensures.before first.ensures.at c.if-i-text.true in
    record {
      behind = omega arith;
      within = omega arith;
      room = omega arith;
      stands = (
        zs ++ replicate n BLANK,
        omega (arith, len, inv.stands.1, length-append zs (replicate n BLANK), length-replicate n BLANK),
        stands_count text zs c.head_of-head.result.1 at (omega arith) (omega arith) igs (sym c.is_blank_count.ensures.value ∙ c.if-not-is_blank_count.false) stands,
      );
    }

pub loop-i-preserved : goal.loop-i-preserved
loop-i-preserved c =
    let inv = c.loop-i.invariant in
    let first = c.first_place-data in
    let (inside, zs, len, stands) = stands_front c.args.text.now c.split_at.result.1.now inv.stands.0 c.head_of-head.result.1 c.loop-i.i first.result first.result
    inv.behind inv.within c.split_at.ensures.back first.ensures.within first.ensures.before (omega arith) inv.stands.2 in
    record { behind = omega arith; within = inside; room = omega arith; stands = (zs, omega (arith, len, inv.stands.1), stands) }

pub returns-clause-read : goal.returns-clause-read
returns-clause-read c =
    let inv = c.loop-i.invariant in
    ap is_some (whole_record c.args.text.now inv.stands.0 c.head_of-head.result.1 c.loop-i.i c.head_of-head.result.0 c.head_of-head.ensures inv.behind
    c.loop-i-test.false (omega (arith, inv.stands.1, inv.room)) inv.stands.2)
