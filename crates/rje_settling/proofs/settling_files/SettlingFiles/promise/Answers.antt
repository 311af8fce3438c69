use Rattle.std.proofs.Common.{refl}
use Rattle.std.specs.Prelude.{string_bytes}
use Rattle.std.proofs.lemmas.Result.{on_ok_weaker}
use Rattle.rje_settling.specs.Counting.{IsPromised, OutJob}
use Rattle.rje_settling.proofs.settling_files.SettlingFiles.promise.Goals as goal

pub returns-clause-promised : goal.returns-clause-promised
returns-clause-promised g c = λ told.
    let known = c.in-Some-given.ensures in
    let given = c.in-Some-given.given in
    let digest = c.in-Some.digest in
    let out : OutJob = record { name = given.name.now; digest = digest.bytes; place = record { mark = given.mark; is_last = given.is_last } } in
    let station = string_bytes c.args.self.now.accounts.station in
    let before = g.D.Disk.asked c.args.self.now.accounts.disk in
    let after = g.D.Disk.asked c.promise.new.self.disk in
    on_ok_weaker c.promise.result
    (λ (done : IsPromised station out c.args.self.now.accounts.sending c.promise.new.self.sending before after).
    (out, record { file = known.0; digest = digest; of_file = known.1; is_made = c.in-Some.ensures; name = known.2.name; digest_is = refl; mark = known.2.mark; last = known.2.last }, done))
    (c.promise.ensures.on_disk told)
