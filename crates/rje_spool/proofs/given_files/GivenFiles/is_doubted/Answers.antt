use Rattle.std.proofs.Common.{◌∙◌, sym}
use Rattle.rje_spool.specs.GivenFile.{HasSecondName, IsDoubted}
use Rattle.rje_spool.proofs.GivenFiles.{of_found_err, of_found_ok}
use Rattle.rje_spool.proofs.given_files.GivenFiles.is_doubted.Goals as goal

pub returns-in-Some : goal.returns-in-Some
returns-in-Some g c = record {
  doubted =
      of_found_ok c.is_doubted.result c.args.job (λ file now. IsDoubted now.place) c.args.self.now.files.items c.in-Some.place c.index_mut.result.now c.is_doubted.new.self
      (sym c.place_of.ensures ∙ c.in-Some.is) c.index_mut.ensures.value c.is_doubted.ensures.doubted;
  failed =
      of_found_err c.is_doubted.result c.args.job (λ file now. HasSecondName file.place → IsDoubted now.place) c.args.self.now.files.items c.in-Some.place c.index_mut.result.now c.is_doubted.new.self
      (sym c.place_of.ensures ∙ c.in-Some.is) c.index_mut.ensures.value c.is_doubted.ensures.failed;
  on = c.is_doubted.ensures.on;
  path = c.is_doubted.ensures.path;
}
