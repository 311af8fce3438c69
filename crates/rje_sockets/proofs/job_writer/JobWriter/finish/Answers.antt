use Rattle.std.proofs.Common.{rules, ◌≡◌, ℕ, ◌<◌, arith, length, take, get_or, List}
use Rattle.std.proofs.lemmas.List.{length-take-le}
use Rattle.rje_jobs.specs.declared.job.Job.{Job}
use Rattle.rje_store.specs.declared.store.WriteMode.TheVariants.{Growing}
use Rattle.rje_sockets.proofs.Growing.{made_of, grows_not_once, one_left, none_left}
use Rattle.rje_sockets.proofs.job_writer.JobWriter.finish.Goals.{then-self-len+in_ok-add, else-self-len}
use Rattle.rje_sockets.proofs.job_writer.JobWriter.finish.Goals as goal

pub returns-clause-file : goal.returns-clause-file
returns-clause-file g c files k =
    let jobs : List Job = c.args.jobs.items in
    let kept : ℕ = c.args.self.now.kept in
    let file = c.args.self.now.file in
    let some : length jobs ≡ 0 → ⊥ = search rules in
    let grows : file.place ≡ Growing = grows_not_once file.place (search rules) in
    elim c.if-self-len.branch [
      | then-self-len+in_ok-add w ↦
          let less : kept < length jobs = search rules in
          let there : get_or jobs kept w.index.result.now ≡ w.index.result.now = search rules in
          rw (w.store-is) (made_of k.front file _ jobs w.add.new.self.long files (g.S.Store.files w.add.new.store) k.opened
          (one_left jobs kept w.index.result.now less (omega (arith, k.cut, k.all grows)) there) some
          (w.in_ok-add.ensures.kept k.front (take kept jobs) files (length-take-le kept jobs (omega (arith, less))) k.opened.has k.kept))
      | else-self-len w ↦
          let all : kept < length jobs → ⊥ = search rules in
          rw (w.store-is) (made_of k.front file (take kept jobs) jobs c.args.self.now.long files (g.S.Store.files c.args.store.now) k.opened (none_left jobs kept all) some k.kept)
    ]
