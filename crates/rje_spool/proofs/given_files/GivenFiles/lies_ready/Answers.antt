use Rattle.std.proofs.Common.{◌≡◌, ◌∙◌, sym}
use Rattle.rje_spool.specs.declared.given_file.Standing.{Standing}
use Rattle.rje_spool.specs.GivenFile.{HasSecondName, IsDoubted}
use Rattle.rje_spool.proofs.GivenFiles.{of_found_err, of_found_ok}
use Rattle.rje_spool.proofs.given_files.GivenFiles.lies_ready.Goals as goal

pub returns-in-Some : goal.returns-in-Some
returns-in-Some g c = record {
  ready =
      of_found_ok c.lies_ready.result c.args.job (λ file now. HasSecondName file.place → now.place ≡ Standing.Ready) c.args.self.now.files.items c.in-Some.place c.index_mut.result.now c.lies_ready.new.self
      (sym c.place_of.ensures ∙ c.in-Some.is) c.index_mut.ensures.value c.lies_ready.ensures.ready;
  failed =
      of_found_err c.lies_ready.result c.args.job (λ file now. HasSecondName file.place → IsDoubted now.place) c.args.self.now.files.items c.in-Some.place c.index_mut.result.now c.lies_ready.new.self
      (sym c.place_of.ensures ∙ c.in-Some.is) c.index_mut.ensures.value c.lies_ready.ensures.failed;
  on = c.lies_ready.ensures.on;
  path = c.lies_ready.ensures.path;
}
