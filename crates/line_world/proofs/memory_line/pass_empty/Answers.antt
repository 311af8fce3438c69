use Rattle.std.proofs.Common.{rules, ◌≡◌, ◌<◌, length, get_or, ◌∙◌}
use Rattle.line_world.proofs.Pieces.{in_hand}
use Rattle.line_world.proofs.memory_line.pass_empty.Goals as goal

pub returns-else-len-given : goal.returns-else-len-given
returns-else-len-given c =
    let q = c.index-pieces-piece.result in
    let here : get_or c.args.pieces.now c.loop-piece.piece q ≡ q = search rules in
    let more : c.loop-piece.given < length q.items = search rules in
    record { ready = in_hand (λ p. p.items) c.args.pieces.now c.loop-piece.piece c.loop-piece.given q c.loop-piece-test.true (rw here more) ∙ c.loop-piece.invariant }
