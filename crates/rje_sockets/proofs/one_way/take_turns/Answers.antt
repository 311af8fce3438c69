use Rattle.std.proofs.Common.{rules, ◌≡◌, subst, [], ◌∷◌, refl, arith, Err, None}
use Rattle.line_world.specs.AnyLines.{BothTake}
use Rattle.rje_sockets.proofs.Watched.{both_fault, both_over}
use Rattle.rje_sockets.proofs.one_way.take_turns.Goals as goal

pub loop-init : goal.loop-init
loop-init g c = ([], refl, refl)

pub returns-in_err-turn-clause-fault : goal.returns-in_err-turn-clause-fault
returns-in_err-turn-clause-fault g c =
    let told : c.from_residual.result ≡ Err c.in_err-turn.field-0.0 = search rules in
    rw told (both_fault g.W.Observer.saw_both (c.args.sender.now, c.args.receiver.now, c.args.watch.now) (c.loop.sender, c.loop.receiver, c.loop.watch) c.loop.invariant.0 c.loop.invariant.1
    c.take_turn.new.sender c.take_turn.new.receiver _ c.in_err-turn.ensures.fault)

pub returns-in_default-clause-took : goal.returns-in_default-clause-took
returns-in_default-clause-took g c =
    let none : BothTake None c.loop.sender c.take_turn.new.sender c.loop.receiver c.take_turn.new.receiver = search rules in
    rw (none.1, none.2) (both_over g.W.Observer.saw_both (c.args.sender.now, c.args.receiver.now, c.args.watch.now) (c.loop.sender, c.loop.receiver, c.loop.watch) c.loop.invariant.0 c.loop.invariant.1 none.0)

pub loop-preserved : goal.loop-preserved
loop-preserved g c =
    let takes = subst (λ o. BothTake o c.loop.sender c.take_turn.new.sender c.loop.receiver c.take_turn.new.receiver) c.in-Some.is c.in_ok-turn.ensures.takes in
    let past = c.loop.invariant in
    (c.in-Some.turn ∷ past.0, ((c.loop.sender, c.loop.receiver, c.loop.watch), past.1, (takes, c.both_took.ensures.saw)), omega (arith, past.2))
