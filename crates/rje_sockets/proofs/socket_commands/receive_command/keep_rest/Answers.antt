use Rattle.std.proofs.Common.{rules}
use Rattle.std.proofs.lemmas.Result.{on_ok_weaker}
use Rattle.rje_sockets.proofs.Growing.{makes_still}
use Rattle.rje_store.specs.Store.{Discloses, IsSame}
use Rattle.rje_sockets.proofs.socket_commands.receive_command.keep_rest.Goals.{in-Err-File, in_default}
use Rattle.rje_sockets.proofs.socket_commands.receive_command.keep_rest.Goals as goal

pub returns-clause-file : goal.returns-clause-file
returns-clause-file g c =
    elim c.match-left.branch [
      | in-Err-File w ↦ rw w.written-is (λ files never k. absurd (search rules))
      | in_default w ↦
          let kept = g.S.Store.files w.finish-written.new.store in
          let made = g.S.Store.files c.settle.new.self in
          let still : Discloses kept made IsSame = search rules in
          rw w.written-is
          (on_ok_weaker w.finish-written.result (λ m files well k. makes_still c.args.jobs.items c.args.keeper.now.file.into files kept made (m files k) still) w.finish-written.ensures.file)
    ]
