use Rattle.std.proofs.Common.{◌∙◌, sym, string_bytes}
use Rattle.rje_spool.specs.GivenFiles.{HasGoneOut}
use Rattle.rje_spool.proofs.GivenFiles.{of_found_ok}
use Rattle.rje_spool.proofs.given_files.GivenFiles.goes_out.Goals as goal

pub returns-in-Some : goal.returns-in-Some
returns-in-Some g c = record {
  out = λ told.
      of_found_ok c.goes_out.result c.args.job
      (λ file now. HasGoneOut g.D.FolderDisk.is_file (string_bytes c.args.folder.now.path) file now (g.D.Disk.asked c.args.folder.now.disk) (g.D.Disk.asked c.goes_out.new.folder.disk))
      c.args.self.now.files.items c.in-Some.place c.index_mut.result.now c.goes_out.new.self
      (sym c.place_of.ensures ∙ c.in-Some.is) c.index_mut.ensures.value (c.goes_out.ensures.gone told);
  on = c.goes_out.ensures.on;
  path = c.goes_out.ensures.path;
}
