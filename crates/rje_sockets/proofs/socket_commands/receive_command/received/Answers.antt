-- What is kept and printed of a transmission that was received, whichever part of that fails.
-- One goal a clause; what is kept of the turns is what the file has at the end (Received).
use Rattle.std.proofs.Common.{rules, ◌≡◌, ◌∙◌, IfOk, OnOk, IfErr, refl, ap, sym, subst}
use Rattle.rje_station.specs.Receiving.{Receiving}
use Rattle.rje_session.specs.Stations.{LineTells}
use Rattle.rje_sockets.specs.Answering.{KeepsAnswered}
use Rattle.rje_sockets.specs.Patience.{Leaves}
use Rattle.rje_commands.specs.declared.command_fault.CommandFault.{CommandFault}
use Rattle.rje_commands.specs.CommandFault.{IsFailing, status_of}
use Rattle.rje_sockets.specs.declared.socket_commands.ending.Ending.{Ending}
use Rattle.rje_sockets.specs.Ending.{MakesJobFile, Receives, ending_of_left}
use Rattle.std.specs.Prelude.{IfSome}
use Rattle.rje_sockets.specs.declared.kept_file.KeptFile.{KeptFile}
use Rattle.rje_sockets.specs.Inside.Opening.{IsOpened}
use Rattle.rje_sockets.specs.Inside.Keeping.{GoesOnKeeping}
use Rattle.rje_sockets.specs.Inside.BreakingOff.{BreaksOff, of_broken_off}
use Rattle.rje_sockets.specs.NamedFiles.{NamesWritten}
use Rattle.rje_sockets.proofs.NamedFiles.{output_of_none, received_names, text_names}
use Rattle.rje_sockets.proofs.Failing.{text_fails}
use Rattle.rje_sockets.proofs.Received.{ends_well, err_unless_refused, keeper_stays, ok_unless_refused, made_at_end, nothing_kept, received_kept, receives}
use Rattle.rje_sockets.proofs.socket_commands.receive_command.received.Goals as goal

pub returns-in_err-station-clause-kept : goal.returns-in_err-station-clause-kept
returns-in_err-station-clause-kept g c front files opened same =
    nothing_kept c.args.file.into files (g.S.Store.files c.args.store.now) (g.L.Line.transmissions c.args.line.now) (g.L.Line.transmissions c.args.line.now) same refl

pub returns-clause-received : goal.returns-clause-received
returns-clause-received g c front files opened same =
    let keeper = c.new-keeper.result in
    let station = c.receive_all-left.new.station in
    let left = c.receive_all-left.result in
    let written = c.keep_rest-written.result in
    let looked = g.S.Store.files c.args.store.now in
    let made = g.S.Store.files c.keep_rest-written.new.store in
    let start = c.in_ok-station.ensures.ready in
    let was : LineTells = (g.L.Line.talk c.args.line.now, g.L.Line.transmissions c.args.line.now) in
    let is : LineTells = (g.L.Line.talk c.receive_all-left.new.line, g.L.Line.transmissions c.receive_all-left.new.line) in
    let P : Ending → Type 0 = λ ending. Receives c.args.patience ending c.args.file.into (was, files, g.O.Write.contents c.args.out.now) (is, made, g.O.Write.contents c.put-printed.new.out) in
    ok_unless_refused c.unless_refused.result c.map-ending.result P c.unless_refused.ensures.ending
    (ends_well c.map-ending.result c.left_after.result left written c.put-printed.result ending_of_left P c.left_after.ensures.left c.map-ending.ensures.cases c.map-ending.ensures.variant
    (receives c.args.patience g.W.Observer.saw_receiver left written c.put-printed.result was is c.args.watch.now c.receive_all-left.new.watch c.args.file.into files made (g.O.Write.contents c.args.out.now) (g.O.Write.contents c.put-printed.new.out) station
    (subst (λ (s : Receiving). IfOk left (λ l. Leaves c.args.patience g.W.Observer.saw_receiver l (s, was, c.args.watch.now) (station, is, c.receive_all-left.new.watch))) start c.receive_all-left.ensures.left)
    (subst (λ (x : KeptFile). IfOk left (λ _. OnOk written (MakesJobFile station.jobs x.into files made))) c.new-keeper.ensures.file
    (made_at_end written front keeper c.receive_all-left.new.keeper station files looked
    (g.S.Store.files c.receive_all-left.new.store) made left
    (subst (λ (x : KeptFile). IsOpened front x files) (sym c.new-keeper.ensures.file) opened) c.new-keeper.ensures.none same
    (subst (λ (s : Receiving). OnOk left (GoesOnKeeping keeper c.receive_all-left.new.keeper s.jobs station.jobs looked (g.S.Store.files c.receive_all-left.new.store))) start c.receive_all-left.ensures.kept)
    (rw c.take.ensures at c.keep_rest-written.ensures.file)))
    (search rules)))

pub returns-clause-status : goal.returns-clause-status
returns-clause-status g c =
    let Fails : CommandFault → Type 0 = λ fault. IsFailing (status_of fault) in
    let status : IfErr c.map-ending.result Fails = search rules in
    err_unless_refused c.unless_refused.result c.map-ending.result Fails c.unless_refused.ensures.ending status text_fails

pub returns-clause-names : goal.returns-clause-names
returns-clause-names g c =
    let name = c.args.file.into.jobs.now in
    let left = c.receive_all-left.result in
    let first : c.new-keeper.result.file.into.jobs.now ≡ name = ap (λ (x : KeptFile). x.into.jobs.now) c.new-keeper.ensures.file in
    let stays = keeper_stays left c.in_ok-station.station c.receive_all-left.new.station (c.new-keeper.result, g.L.Line.transmissions c.args.line.now, g.S.Store.files c.args.store.now)
    (c.receive_all-left.new.keeper, g.L.Line.transmissions c.receive_all-left.new.line, g.S.Store.files c.receive_all-left.new.store) c.receive_all-left.ensures.kept c.receive_all-left.ensures.broken in
    let named : c.receive_all-left.new.keeper.file.into.jobs.now ≡ name = ap (λ (x : KeptFile). x.into.jobs.now) stays ∙ first in
    err_unless_refused c.unless_refused.result c.map-ending.result (NamesWritten name) c.unless_refused.ensures.ending
    (received_names c.map-ending.result c.left_after.result ending_of_left (NamesWritten name) left c.keep_rest-written.result c.put-printed.result c.map-ending.ensures.cases
    c.left_after.ensures.first c.left_after.ensures.second c.left_after.ensures.third c.left_after.ensures.none
    (subst (λ n. IfErr left (λ broken. NamesWritten n (of_broken_off broken))) first c.receive_all-left.ensures.names)
    (subst (λ n. IfErr c.keep_rest-written.result (NamesWritten n)) named c.keep_rest-written.ensures.names)
    (output_of_none c.put-printed.result (λ _. ⊥) (λ named. named ≡ name) c.put-printed.ensures.fault)) (text_names (λ _. ⊥) (λ named. named ≡ name))

pub returns-clause-kept : goal.returns-clause-kept
returns-clause-kept g c front files opened same =
    let keeper = c.new-keeper.result in
    let station = c.receive_all-left.new.station in
    let left = c.receive_all-left.result in
    let written = c.keep_rest-written.result in
    let looked = g.S.Store.files c.args.store.now in
    let made = g.S.Store.files c.keep_rest-written.new.store in
    let start = c.in_ok-station.ensures.ready in
    let kept = g.S.Store.files c.receive_all-left.new.store in
    let last = c.receive_all-left.new.keeper in
    let was : LineTells = (g.L.Line.talk c.args.line.now, g.L.Line.transmissions c.args.line.now) in
    let is : LineTells = (g.L.Line.talk c.receive_all-left.new.line, g.L.Line.transmissions c.receive_all-left.new.line) in
    subst (λ (x : KeptFile). IfSome files (λ _. KeepsAnswered x.into files made was.1 is.1)) c.new-keeper.ensures.file
    (received_kept c.args.patience g.W.Observer.saw_receiver written front keeper looked station files made was is c.args.watch.now c.receive_all-left.new.watch last kept left
    (subst (λ (x : KeptFile). IsOpened front x files) (sym c.new-keeper.ensures.file) opened) c.new-keeper.ensures.none same
    (subst (λ (s : Receiving). IfOk left (λ l. Leaves c.args.patience g.W.Observer.saw_receiver l (s, was, c.args.watch.now) (station, is, c.receive_all-left.new.watch))) start c.receive_all-left.ensures.left)
    (subst (λ (s : Receiving). OnOk left (GoesOnKeeping keeper last s.jobs station.jobs looked kept)) start c.receive_all-left.ensures.kept)
    (subst (λ (s : Receiving). IfErr left (BreaksOff s station (keeper, was.1, looked) (last, is.1, kept))) start c.receive_all-left.ensures.broken)
    (rw c.take.ensures at c.keep_rest-written.ensures.file) (search rules) (search rules))
