use Rattle.std.proofs.Common.{◌≡◌, ◌∙◌, false, sym, string_bytes}
use Rattle.rje_spool.specs.declared.given_file.Standing.{Standing}
use Rattle.rje_spool.specs.GivenFile.{HasSecondName, IsDoubted}
use Rattle.rje_spool.specs.GivenFiles.{HasBeenCounted, WasMarked, is_last_of}
use Rattle.rje_spool.proofs.GivenFiles.{of_found_err, of_found_ok}
use Rattle.rje_spool.proofs.given_files.GivenFiles.is_counted.Goals as goal

pub returns-in-Some-clause-sent : goal.returns-in-Some-clause-sent
returns-in-Some-clause-sent g c told =
    of_found_ok c.was_counted.result c.args.job (λ file now. HasBeenCounted c.args.job (string_bytes c.args.folder.now.path) file now (g.D.Disk.asked c.was_counted.new.folder.disk))
    c.args.self.now.files.items c.in-Some.place c.index_mut.result.now c.was_counted.new.self
    (sym c.place_of.ensures ∙ c.in-Some.is) c.index_mut.ensures.value (c.was_counted.ensures.sent told)

pub returns-in-Some-clause-ready : goal.returns-in-Some-clause-ready
returns-in-Some-clause-ready g c =
    of_found_ok c.was_counted.result c.args.job (λ file now. is_last_of c.args.job file ≡ false → HasSecondName file.place → now.place ≡ Standing.Ready)
    c.args.self.now.files.items c.in-Some.place c.index_mut.result.now c.was_counted.new.self
    (sym c.place_of.ensures ∙ c.in-Some.is) c.index_mut.ensures.value c.was_counted.ensures.ready

pub returns-in-Some-clause-failed : goal.returns-in-Some-clause-failed
returns-in-Some-clause-failed g c =
    of_found_err c.was_counted.result c.args.job (λ file now. HasSecondName file.place → IsDoubted now.place) c.args.self.now.files.items c.in-Some.place c.index_mut.result.now c.was_counted.new.self
    (sym c.place_of.ensures ∙ c.in-Some.is) c.index_mut.ensures.value c.was_counted.ensures.failed

pub returns-in-Some-clause-marked : goal.returns-in-Some-clause-marked
returns-in-Some-clause-marked g c told =
    of_found_ok c.was_counted.result c.args.job (λ file _. WasMarked c.args.job file (g.D.Disk.asked c.args.folder.now.disk) (g.D.Disk.asked c.was_counted.new.folder.disk))
    c.args.self.now.files.items c.in-Some.place c.index_mut.result.now c.was_counted.new.self
    (sym c.place_of.ensures ∙ c.in-Some.is) c.index_mut.ensures.value (c.was_counted.ensures.marked told)
