use Rattle.std.proofs.Common.{◌≡◌, ◌∙◌, [], ◌∷◌, ◌++◌, ℕ, List, ap, subst, sym}
use Rattle.rje_files.specs.declared.job_file.version.FileVersion.TheVariants.{Second}
use Rattle.rje_files.specs.Entry.{entry_of}
use Rattle.rje_files.specs.JobFile.{IsEntryFileOf}
use Rattle.rje_spool.proofs.OneEntry.{one_entry_file}
use Rattle.rje_spool.proofs.paper.received_file.Goals as goal

pub returns : goal.returns
returns c =
    let front = c.in_ok-grown.grown.front.items in
    let items : c.extend_from_slice.new.self.items ≡ front ++ c.in_ok-grown.grown.tail.items =
    c.in_ok-extend_from_slice.ensures.items ∙ ap (λ (t : List ℕ). front ++ t) c.as_slice.ensures.value in record {
      file = subst (λ (b : List ℕ). IsEntryFileOf Second (entry_of c.args.job.now ∷ []) b) (sym items)
          (one_entry_file (entry_of c.args.job.now) front c.in_ok-grown.grown.tail.items c.in_ok-grown.ensures.grows c.in_ok-grown.ensures.front);
    }
