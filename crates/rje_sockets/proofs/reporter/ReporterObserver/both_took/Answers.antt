use Rattle.std.proofs.Common.{◌≡◌, None, refl, subst}
use Rattle.rje_sockets.specs.Tracing.{TracesTurn}
use Rattle.rje_sockets.specs.declared.tracer.Tracer.{Tracer}
use Rattle.rje_print.specs.TurnTexts.{both_line}
use Rattle.rje_sockets.proofs.reporter.ReporterObserver.both_took.Goals as goal

pub returns-in-Tracer : goal.returns-in-Tracer
returns-in-Tracer g c = record {
  saw = λ t is.
      let new = c.both_took.new.self in
      let same : c.in-Tracer.tracer ≡ t = cc in
      let saw = subst (λ (x : Tracer g.row.C.Denot g.row.W.Denot). TracesTurn new.start (g.W.Write.contents x.out) (g.W.Write.contents new.out) (λ nanos place. both_line nanos c.args.turn.now place)
      × (x.start ≡ None → new ≡ x)) same c.both_took.ensures.saw in
      (new, refl, saw.0, saw.1);
}
