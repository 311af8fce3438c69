use Rattle.std.proofs.Common.{◌∷◌}
use Rattle.rje_net.specs.Hearing.{brought_by}
use Rattle.rje_net.proofs.Hearing.{brings_more}
use Rattle.rje_net.proofs.socket_line.await_given.Goals as goal

pub returns-in_default : goal.returns-in_default
returns-in_default g c =
    let inv = c.loop.invariant in
    let newest = brought_by c.in_ok-came.came c.came_in.new.piece in
    record {
      read = (
        newest ∷ inv.0,
        (brings_more (g.S.Read.remaining c.args.stream.now) (g.S.Read.remaining c.loop.stream) (g.S.Read.remaining c.came_in.new.stream) newest inv.0 inv.1 c.in_ok-came.ensures.read.0, tt),
        (c.loop.answers, inv.2, c.happen.ensures),
      );
    }

pub returns-in_default-2 : goal.returns-in_default-2
returns-in_default-2 g c =
    let inv = c.loop.invariant in
    let newest = brought_by c.in_ok-came.came c.came_in.new.piece in
    record {
      read = (
        newest ∷ inv.0,
        (brings_more (g.S.Read.remaining c.args.stream.now) (g.S.Read.remaining c.loop.stream) (g.S.Read.remaining c.came_in.new.stream) newest inv.0 inv.1 c.in_ok-came.ensures.read.0, tt),
        (c.loop.answers, inv.2, c.happen.ensures),
      );
    }

pub loop-preserved : goal.loop-preserved
loop-preserved g c =
    let inv = c.loop.invariant in
    let newest = brought_by c.in_ok-came.came c.came_in.new.piece in (
      newest ∷ inv.0,
      brings_more (g.S.Read.remaining c.args.stream.now) (g.S.Read.remaining c.loop.stream) (g.S.Read.remaining c.came_in.new.stream) newest inv.0 inv.1 c.in_ok-came.ensures.read.0,
      (c.loop.answers, inv.2, c.in-Nothing.ensures),
    )
