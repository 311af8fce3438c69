use Rattle.rje_net.proofs.Hearing.{rest_fits, writes_rest}
use Rattle.rje_net.proofs.socket_line.write_through.Goals as goal

pub loop-preserved : goal.loop-preserved
loop-preserved g c =
    let n = c.in_ok-place.field-0 in
    let bytes = c.args.bytes.now in (
      rest_fits c.loop.place n bytes c.if-place-bytes.false c.in_ok-place.ensures.within,
      writes_rest (g.S.Write.contents c.args.stream.now) (g.S.Write.contents c.loop.stream) (g.S.Write.contents c.write_some.new.stream) c.loop.place n bytes
          c.loop.invariant.1 c.in_ok-place.ensures.written,
    )
