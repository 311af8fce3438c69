-- What is marked, kept and printed at the end of an exchange, whichever part of that fails.
-- Four goals, one a clause; each is led through the steps of the end in their order (Exchanged, LeavingBoth).
use Rattle.std.proofs.Common.{rules, ◌≡◌, ◌⊎◌, Bool, Err, IfOk, ap, inl, inr, length, subst}
use Rattle.std.specs.Prelude.{List}
use Rattle.std.specs.List.{flat_map}
use Rattle.std.specs.Result.{IsOkAnd, MatchResult, result_and}
use Rattle.rje_station.specs.Sending.{outcome_of}
use Rattle.rje_jobs.specs.declared.job.Job.{Job}
use Rattle.rje_files.specs.Unsent.{IsLeft}
use Rattle.rje_commands.specs.CommandFault.{IsFailing, status_of}
use Rattle.rje_commands.specs.declared.command_fault.CommandFault.{CommandFault}
use Rattle.rje_session.specs.Stations.{LineTells}
use Rattle.rje_sockets.specs.BothWays.{ExchangesTo}
use Rattle.rje_sockets.specs.Exchanging.{ending_of_both, is_idle}
use Rattle.rje_sockets.specs.Inside.BothFiles.{HeldSoFar, Exchanges}
use Rattle.rje_sockets.proofs.BothWays.{exchanges_unseen}
use Rattle.std.proofs.lemmas.Result.{IfOk-weaker}
use Rattle.rje_sockets.specs.declared.kept_file.KeptFile.{KeptFile}
use Rattle.rje_sockets.specs.NamedFiles.{NamesOne}
use Rattle.rje_sockets.proofs.Exchanged.{all_exchanged, exchange_fails}
use Rattle.rje_sockets.proofs.Failing.{text_fails}
use Rattle.rje_sockets.proofs.LeavingBoth.{file_stays, leaves_both, marks_as_many, names_stay}
use Rattle.rje_sockets.proofs.NamedFiles.{err_of_both, left_of_both, output_of_none, text_names, told_names}
use Rattle.rje_sockets.proofs.Received.{ends_well, err_unless_refused, ok_unless_refused}
use Rattle.rje_sockets.proofs.socket_commands.exchange_command.exchange_files.Goals as goal

pub returns-clause-status : goal.returns-clause-status
returns-clause-status g c =
    let was : LineTells = (g.L.Line.talk c.args.line.now, g.L.Line.transmissions c.args.line.now) in
    let is : LineTells = (g.L.Line.talk c.exchange_all-left.new.line, g.L.Line.transmissions c.exchange_all-left.new.line) in
    let held : HeldSoFar = (c.args.marker, c.args.keeper, g.S.Store.files c.args.store.now) in
    let holding : HeldSoFar = (c.exchange_all-left.new.marker, c.exchange_all-left.new.keeper, g.S.Store.files c.exchange_all-left.new.store) in
    let exchanges : IfOk c.exchange_all-left.result (λ l. ExchangesTo c.args.patience l c.args.station was c.exchange_all-left.new.station is) =
    IfOk-weaker c.exchange_all-left.result _ _ (λ l. exchanges_unseen c.args.patience g.W.Observer.saw_sender g.W.Observer.saw_receiver l c.args.station c.exchange_all-left.new.station was is c.args.watch.now c.exchange_all-left.new.watch) c.exchange_all-left.ensures.left in
    let idle : c.is_idle-idle.result ≡ is_idle (length c.args.station.sender.jobs) c.exchange_all-left.new.station.receiver.jobs = search rules in
    let told : MatchResult c.left_after.result (λ l. IsOkAnd c.map-ending.result (λ ending. ending ≡ ending_of_both (outcome_of c.exchange_all-left.new.station.sender)
    (is_idle (length c.args.station.sender.jobs) c.exchange_all-left.new.station.receiver.jobs) l)) (λ e. c.map-ending.result ≡ Err e) =
    subst (λ (b : Bool). MatchResult c.left_after.result (λ l. IsOkAnd c.map-ending.result (λ ending. ending ≡ ending_of_both (outcome_of c.exchange_all-left.new.station.sender) b l))
    (λ e. c.map-ending.result ≡ Err e)) idle (search rules) in
    err_unless_refused c.unless_refused.result c.map-ending.result (λ fault. (jobs : List Job) → IsLeft c.args.marker.file.items jobs → IsFailing (status_of fault)) c.unless_refused.ensures.ending
    (exchange_fails c.map-ending.result c.left_after.result c.exchange_all-left.result c.finish-marked.result c.keep_rest-kept.result c.put_lines-printed.result (ending_of_both (outcome_of c.exchange_all-left.new.station.sender) (is_idle (length c.args.station.sender.jobs) c.exchange_all-left.new.station.receiver.jobs))
    c.args.marker c.exchange_all-left.new.marker
    (file_stays c.args.patience c.exchange_all-left.result was is c.args.station c.exchange_all-left.new.station held holding exchanges c.exchange_all-left.ensures.holds c.exchange_all-left.ensures.broken)
    (search rules) told c.map-ending.ensures.variant c.exchange_all-left.ensures.status c.finish-marked.ensures.status c.keep_rest-kept.ensures.status (search rules)) (λ why jobs left. text_fails why)

pub returns-clause-exchanged : goal.returns-clause-exchanged
returns-clause-exchanged g c =
    let was : LineTells = (g.L.Line.talk c.args.line.now, g.L.Line.transmissions c.args.line.now) in
    let is : LineTells = (g.L.Line.talk c.exchange_all-left.new.line, g.L.Line.transmissions c.exchange_all-left.new.line) in
    let held : HeldSoFar = (c.args.marker, c.args.keeper, g.S.Store.files c.args.store.now) in
    let holding : HeldSoFar = (c.exchange_all-left.new.marker, c.exchange_all-left.new.keeper, g.S.Store.files c.exchange_all-left.new.store) in
    let exchanges : IfOk c.exchange_all-left.result (λ l. ExchangesTo c.args.patience l c.args.station was c.exchange_all-left.new.station is) =
    IfOk-weaker c.exchange_all-left.result _ _ (λ l. exchanges_unseen c.args.patience g.W.Observer.saw_sender g.W.Observer.saw_receiver l c.args.station c.exchange_all-left.new.station was is c.args.watch.now c.exchange_all-left.new.watch) c.exchange_all-left.ensures.left in
    let idle : c.is_idle-idle.result ≡ is_idle (length c.args.station.sender.jobs) c.exchange_all-left.new.station.receiver.jobs = search rules in
    let told : MatchResult c.left_after.result (λ l. IsOkAnd c.map-ending.result (λ ending. ending ≡ ending_of_both (outcome_of c.exchange_all-left.new.station.sender)
    (is_idle (length c.args.station.sender.jobs) c.exchange_all-left.new.station.receiver.jobs) l)) (λ e. c.map-ending.result ≡ Err e) =
    subst (λ (b : Bool). MatchResult c.left_after.result (λ l. IsOkAnd c.map-ending.result (λ ending. ending ≡ ending_of_both (outcome_of c.exchange_all-left.new.station.sender) b l))
    (λ e. c.map-ending.result ≡ Err e)) idle (search rules) in
    let station = c.exchange_all-left.new.station in
    let marker = c.exchange_all-left.new.marker in
    let mid = g.S.Store.files c.exchange_all-left.new.store in
    let written = g.S.Store.files c.finish-marked.new.store in
    let sets = marks_as_many c.finish-marked.result marker.file.items _ station.sender.counted marker.name.now mid written c.finish-marked.ensures.marked (search rules) in
    rw (c.parts_in_step-in_step.ensures.talk, c.parts_in_step-in_step.ensures.none)
    (ok_unless_refused c.unless_refused.result c.map-ending.result (λ ending. Exchanges ending c.args.patience c.args.station (c.args.marker, c.args.keeper) (was, g.S.Store.files c.args.store.now, g.O.Write.contents c.args.out.now) (is, g.S.Store.files c.keep_rest-kept.new.store, g.O.Write.contents c.put_lines-printed.new.out)) c.unless_refused.ensures.ending
    (ends_well c.map-ending.result c.left_after.result c.exchange_all-left.result (result_and c.finish-marked.result c.keep_rest-kept.result) c.put_lines-printed.result (ending_of_both (outcome_of station.sender) (is_idle (length c.args.station.sender.jobs) station.receiver.jobs))
    (λ ending. Exchanges ending c.args.patience c.args.station (c.args.marker, c.args.keeper) (was, g.S.Store.files c.args.store.now, g.O.Write.contents c.args.out.now) (is, g.S.Store.files c.keep_rest-kept.new.store, g.O.Write.contents c.put_lines-printed.new.out))
    (search rules) told c.map-ending.ensures.variant
    (all_exchanged c.args.patience c.exchange_all-left.result c.finish-marked.result c.keep_rest-kept.result c.put_lines-printed.result was is c.args.station station held holding
    (g.S.Store.files c.finish-marked.new.store) (g.S.Store.files c.keep_rest-kept.new.store)
    (g.O.Write.contents c.args.out.now) (g.O.Write.contents c.put_lines-printed.new.out)
    (flat_map (λ line. line.items) c.lines_of_both-lines.result) exchanges c.exchange_all-left.ensures.holds
    sets (rw c.take.ensures at c.keep_rest-kept.ensures.file) (search rules)
    (search rules))))

pub returns-clause-files : goal.returns-clause-files
returns-clause-files g c =
    let was : LineTells = (g.L.Line.talk c.args.line.now, g.L.Line.transmissions c.args.line.now) in
    let is : LineTells = (g.L.Line.talk c.exchange_all-left.new.line, g.L.Line.transmissions c.exchange_all-left.new.line) in
    let held : HeldSoFar = (c.args.marker, c.args.keeper, g.S.Store.files c.args.store.now) in
    let holding : HeldSoFar = (c.exchange_all-left.new.marker, c.exchange_all-left.new.keeper, g.S.Store.files c.exchange_all-left.new.store) in
    let exchanges : IfOk c.exchange_all-left.result (λ l. ExchangesTo c.args.patience l c.args.station was c.exchange_all-left.new.station is) =
    IfOk-weaker c.exchange_all-left.result _ _ (λ l. exchanges_unseen c.args.patience g.W.Observer.saw_sender g.W.Observer.saw_receiver l c.args.station c.exchange_all-left.new.station was is c.args.watch.now c.exchange_all-left.new.watch) c.exchange_all-left.ensures.left in
    let station = c.exchange_all-left.new.station in
    let marker = c.exchange_all-left.new.marker in
    let mid = g.S.Store.files c.exchange_all-left.new.store in
    let written = g.S.Store.files c.finish-marked.new.store in
    let sets = marks_as_many c.finish-marked.result marker.file.items _ station.sender.counted marker.name.now mid written c.finish-marked.ensures.marked (search rules) in
    leaves_both c.args.patience c.exchange_all-left.result c.finish-marked.result c.keep_rest-kept.result was is c.args.station station held holding
    (g.S.Store.files c.finish-marked.new.store) (g.S.Store.files c.keep_rest-kept.new.store)
    exchanges c.exchange_all-left.ensures.holds c.exchange_all-left.ensures.broken c.exchange_all-left.ensures.count sets c.finish-marked.ensures.same
    (rw c.take.ensures at c.keep_rest-kept.ensures.file) c.keep_rest-kept.ensures.refused c.keep_rest-kept.ensures.same

pub returns-clause-names : goal.returns-clause-names
returns-clause-names g c =
    let was : LineTells = (g.L.Line.talk c.args.line.now, g.L.Line.transmissions c.args.line.now) in
    let is : LineTells = (g.L.Line.talk c.exchange_all-left.new.line, g.L.Line.transmissions c.exchange_all-left.new.line) in
    let held : HeldSoFar = (c.args.marker, c.args.keeper, g.S.Store.files c.args.store.now) in
    let holding : HeldSoFar = (c.exchange_all-left.new.marker, c.exchange_all-left.new.keeper, g.S.Store.files c.exchange_all-left.new.store) in
    let exchanges : IfOk c.exchange_all-left.result (λ l. ExchangesTo c.args.patience l c.args.station was c.exchange_all-left.new.station is) =
    IfOk-weaker c.exchange_all-left.result _ _ (λ l. exchanges_unseen c.args.patience g.W.Observer.saw_sender g.W.Observer.saw_receiver l c.args.station c.exchange_all-left.new.station was is c.args.watch.now c.exchange_all-left.new.watch) c.exchange_all-left.ensures.left in
    let idle : c.is_idle-idle.result ≡ is_idle (length c.args.station.sender.jobs) c.exchange_all-left.new.station.receiver.jobs = search rules in
    let told : MatchResult c.left_after.result (λ l. IsOkAnd c.map-ending.result (λ ending. ending ≡ ending_of_both (outcome_of c.exchange_all-left.new.station.sender)
    (is_idle (length c.args.station.sender.jobs) c.exchange_all-left.new.station.receiver.jobs) l)) (λ e. c.map-ending.result ≡ Err e) =
    subst (λ (b : Bool). MatchResult c.left_after.result (λ l. IsOkAnd c.map-ending.result (λ ending. ending ≡ ending_of_both (outcome_of c.exchange_all-left.new.station.sender) b l))
    (λ e. c.map-ending.result ≡ Err e)) idle (search rules) in
    let one = c.args.marker.name.now in
    let other = c.args.keeper.file.into.jobs.now in
    let Names : CommandFault → Type 0 = NamesOne (λ _. ⊥) (λ n. (n ≡ one) ⊎ (n ≡ other)) in
    let stay = names_stay c.args.patience c.exchange_all-left.result was is c.args.station c.exchange_all-left.new.station held holding exchanges c.exchange_all-left.ensures.holds c.exchange_all-left.ensures.broken in
    err_unless_refused c.unless_refused.result c.map-ending.result Names c.unless_refused.ensures.ending
    (told_names c.map-ending.result c.left_after.result (ending_of_both (outcome_of c.exchange_all-left.new.station.sender) (is_idle (length c.args.station.sender.jobs) c.exchange_all-left.new.station.receiver.jobs)) Names c.exchange_all-left.result c.finish-marked.result c.keep_rest-kept.result
    c.put_lines-printed.result told c.left_after.ensures.first (search rules) (search rules) (search rules)
    (left_of_both c.exchange_all-left.result one other c.exchange_all-left.ensures.names) (err_of_both c.finish-marked.result c.exchange_all-left.new.marker.name.now one other (inl stay.0) c.finish-marked.ensures.names)
    (err_of_both c.keep_rest-kept.result c.exchange_all-left.new.keeper.file.into.jobs.now one other (inr (ap (λ (x : KeptFile). x.into.jobs.now) stay.1)) c.keep_rest-kept.ensures.names)
    (output_of_none c.put_lines-printed.result (λ _. ⊥) (λ n. (n ≡ one) ⊎ (n ≡ other)) c.put_lines-printed.ensures.fault)) (text_names (λ _. ⊥) (λ n. (n ≡ one) ⊎ (n ≡ other)))
