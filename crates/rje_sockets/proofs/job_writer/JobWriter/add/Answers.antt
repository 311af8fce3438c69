use Rattle.std.proofs.Common.{rules, ◌≡◌, ◌∙◌, ◌++◌, length, map, arith}
use Rattle.std.proofs.lemmas.List.{length-append, length-map}
use Rattle.rje_files.specs.declared.job_file.version.FileVersion.TheVariants.{Second}
use Rattle.rje_files.specs.Entry.{entry_of}
use Rattle.rje_files.specs.JobFile.{IsEntryFileOf}
use Rattle.rje_sockets.proofs.Growing.{first_kept, many_after, next_kept}
use Rattle.rje_sockets.proofs.job_writer.JobWriter.add.Goals.{then-self-eq0+in_ok-write_grown, else-self-eq0+in_ok-self}
use Rattle.rje_sockets.proofs.job_writer.JobWriter.add.Goals as goal

pub returns-clause-kept : goal.returns-clause-kept
returns-clause-kept g c entries jobs files many had kept =
    let file = c.args.self.now.file in
    let name = file.into.jobs.now in
    let front = c.in_ok-growth.growth.front.items in
    let tail = c.in_ok-growth.growth.tail.items in
    let job = c.args.job.now in
    let before = g.S.Store.files c.args.store.now in
    let all : length (entries ++ map entry_of jobs) ≡ c.in-Some.count = many_after entries jobs file.front.jobs c.args.self.now.kept c.in-Some.count had.1 many (search rules) in
    elim c.if-self-eq0.branch [
      | then-self-eq0+in_ok-write_grown w ↦
          let zero : c.args.self.now.kept ≡ 0 = search rules in
          let first : length entries ≡ c.in-Some.count = omega (arith, all, many, zero, length-append entries (map entry_of jobs), length-map jobs entry_of) in
          let base : w.as_slice-front.result.now ≡ file.front.bytes.items = search rules in
          let of : IsEntryFileOf Second entries w.as_slice-front.result.now = rw base had.0 in
          rw (w.store-is, w.self-is)
          (first_kept entries jobs name w.as_slice-front.result.now front tail job c.in-Some.count c.args.self.now.long w.in_ok-write_grown.field-0 files before (g.S.Store.files w.write_grown.new.store) (many ∙ zero)
          of first c.in_ok-growth.ensures.grows kept w.in_ok-write_grown.ensures.sets w.in_ok-write_grown.ensures.length.0 w.in_ok-write_grown.ensures.length.1)
      | else-self-eq0+in_ok-self w ↦
          let some : length jobs ≡ 0 → ⊥ = search rules in
          rw (w.store-is, w.self-is)
          (next_kept entries jobs name front tail job c.in-Some.count c.args.self.now.long w.in_ok-self.field-0 files before (g.S.Store.files w.extend_file.new.store) some all
          c.in_ok-growth.ensures.grows c.in_ok-growth.ensures.front kept w.in_ok-self.ensures.extends w.in_ok-self.ensures.length.0 w.in_ok-self.ensures.length.1)
    ]
