-- The bytes become the file of the entries of which so many more are marked as sent.
-- An invariant says which entries are done; each entry's mark is one byte at a place that the lengths before it give (MarkedCopy).
use Rattle.std.proofs.Common.{inl, inr, ◌+◌, ◌-◌, refl, ap, arith}
use Rattle.rje_files.specs.declared.job_file.version.FileVersion.TheVariants.{Second}
use Rattle.rje_files.specs.JobFile.{FitsFields}
use Rattle.rje_files.proofs.MarkedCopy.{became, begun, fits_at, has_end, has_place, is_marked, rest_stays, sent_stays}
use Rattle.rje_files.proofs.marked_copy.mark_first.Goals.{then-is_next, else-is_next}
use Rattle.rje_files.proofs.marked_copy.mark_first.Goals as goal

pub loop-entry-init : goal.loop-entry-init
loop-entry-init c = begun c.args.count c.args.entries.now c.args.bytes.now c.requires.file

pub overflow_add-bytes : goal.overflow_add-bytes
overflow_add-bytes c =
    let fits : FitsFields Second c.entry-item.result = fits_at c.args.entries.now c.loop-entry.entry-index _ c.entry-item.result c.requires.fit.1 c.entry-item.is c.loop-entry-test.true in
    let less = has_place c.loop-entry.bytes c.loop-entry.start (c.loop-entry.start + 8) c.loop-entry.left c.args.entries.now c.loop-entry.entry-index _ c.entry-item.result _
    c.entry-item.is c.loop-entry-test.true fits.2.0 refl c.loop-entry.invariant in
    omega (arith, less, c.loop-entry.auto.bytes)

pub bounds-bytes-start : goal.bounds-bytes-start
bounds-bytes-start c =
    let fits : FitsFields Second c.entry-item.result = fits_at c.args.entries.now c.loop-entry.entry-index _ c.entry-item.result c.requires.fit.1 c.entry-item.is c.loop-entry-test.true in
    has_place c.loop-entry.bytes c.loop-entry.start (c.loop-entry.start + 8) c.loop-entry.left c.args.entries.now c.loop-entry.entry-index _ c.entry-item.result _
    c.entry-item.is c.loop-entry-test.true fits.2.0 refl c.loop-entry.invariant

pub overflow_add-start : goal.overflow_add-start
overflow_add-start c =
    let less = has_end c.loop-entry.bytes c.loop-entry.start c.loop-entry.left c.args.entries.now c.loop-entry.entry-index _ c.entry-item.result _ c.entry-item.is c.loop-entry-test.true
    c.loop-entry.invariant in
    omega (arith, less, c.len-start.ensures, c.loop-entry.auto.bytes)

pub loop-entry-preserved : goal.loop-entry-preserved
loop-entry-preserved c =
    let fits : FitsFields Second c.entry-item.result = fits_at c.args.entries.now c.loop-entry.entry-index _ c.entry-item.result c.requires.fit.1 c.entry-item.is c.loop-entry-test.true in
    let long = ap (λ n. c.loop-entry.start + n) c.len-start.ensures in
    elim c.if-is_next.branch [
      | then-is_next w ↦ let next = w.if-is_next.ensures.marked refl in
          rw (w.bytes-is, w.left-is) (is_marked c.loop-entry.bytes c.loop-entry.start (c.loop-entry.start + 8) (c.loop-entry.start + c.len-start.result) c.loop-entry.left (c.loop-entry.left - 1)
          c.args.entries.now c.loop-entry.entry-index _ c.entry-item.result _ c.entry-item.is c.loop-entry-test.true fits.2.0 next.1 refl long (omega (arith, next.0)) c.loop-entry.invariant)
      | else-is_next w ↦ rw (w.bytes-is, w.left-is) (elim (w.if-is_next.ensures.stays refl) [
        | inl none ↦ rest_stays c.loop-entry.bytes c.loop-entry.start (c.loop-entry.start + c.len-start.result) c.loop-entry.left c.args.entries.now c.loop-entry.entry-index _
            c.entry-item.result _ c.entry-item.is c.loop-entry-test.true none long c.loop-entry.invariant
        | inr sent ↦ sent_stays c.loop-entry.bytes c.loop-entry.start (c.loop-entry.start + c.len-start.result) c.loop-entry.left c.args.entries.now c.loop-entry.entry-index _
            c.entry-item.result _ c.entry-item.is c.loop-entry-test.true sent long c.loop-entry.invariant
      ])
    ]

pub returns : goal.returns
returns c = became c.loop-entry.bytes c.loop-entry.start c.loop-entry.left c.args.entries.now c.loop-entry.entry-index _ (omega (arith, c.loop-entry-test.false)) c.loop-entry.invariant
