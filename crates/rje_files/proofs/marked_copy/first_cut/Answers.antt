use Rattle.std.proofs.Common.{inl, inr, ◌+◌, ◌-◌, refl, sym, ◌∙◌, arith}
use Rattle.rje_files.specs.declared.job_file.version.FileVersion.TheVariants.{Second}
use Rattle.rje_files.specs.JobFile.{FitsFields}
use Rattle.rje_files.proofs.MarkedCopy.{cut_is_first, fits_at, none_is_cut, rest_is_good, sent_is_good, whole_is_good}
use Rattle.rje_files.proofs.marked_copy.first_cut.Goals.{then-is_next+else-not-is_whole, else-is_next}
use Rattle.rje_files.proofs.marked_copy.first_cut.Goals as goal

pub loop-place-init : goal.loop-place-init
loop-place-init c = refl

pub returns-then-not-is_whole : goal.returns-then-not-is_whole
returns-then-not-is_whole c =
    let next = c.if-is_next.ensures.marked refl in
    cut_is_first (c.loop-place.place + 1) c.loop-place.left (c.loop-place.left - 1) c.args.entries.now c.loop-place.place _ c.index-entries-place.result _ c.index-entries-place.is
    c.loop-place-test.true (sym c.is_whole.ensures ∙ c.if-not-is_whole.true) next.1 (omega (arith, next.0)) c.loop-place.invariant

pub loop-place-preserved : goal.loop-place-preserved
loop-place-preserved c =
    let fits : FitsFields Second c.index-entries-place.result = fits_at c.args.entries.now c.loop-place.place _ c.index-entries-place.result c.requires.1 c.index-entries-place.is c.loop-place-test.true in
    elim c.if-is_next.branch [
      | then-is_next+else-not-is_whole w ↦ let next = w.if-is_next.ensures.marked refl in
          rw w.left-is (whole_is_good (c.loop-place.place + 1) c.loop-place.left (c.loop-place.left - 1) c.args.entries.now c.loop-place.place _ c.index-entries-place.result _
          c.index-entries-place.is c.loop-place-test.true fits.2.1 (sym w.is_whole.ensures ∙ w.if-not-is_whole.false) next.1 (omega (arith, next.0)) c.loop-place.invariant)
      | else-is_next w ↦ rw w.left-is (elim (w.if-is_next.ensures.stays refl) [
        | inl none ↦ rest_is_good (c.loop-place.place + 1) c.loop-place.left c.args.entries.now c.loop-place.place _ c.index-entries-place.result _ c.index-entries-place.is
            c.loop-place-test.true fits.2.1 none c.loop-place.invariant
        | inr sent ↦ sent_is_good (c.loop-place.place + 1) c.loop-place.left c.args.entries.now c.loop-place.place _ c.index-entries-place.result _ c.index-entries-place.is
            c.loop-place-test.true fits.2.1 sent c.loop-place.invariant
      ])
    ]

pub returns : goal.returns
returns c = none_is_cut (c.loop-place.place + 1) c.loop-place.left c.args.entries.now c.loop-place.place _ (omega (arith, c.loop-place-test.false)) c.loop-place.invariant
