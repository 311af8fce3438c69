-- What a listen on a line in memory gives, and what is left of its pieces.
-- Two cases: the piece at the front fits into the room, or as much of it is given as fits; `left_in` says what is left of it then.
use Rattle.std.proofs.Common.{rules, ◌≡◌, ◌<◌, ◌≤◌, ◌++◌, length, take, drop, get_or, sym, ap, ◌∙◌, arith, length-append}
use Rattle.line_world.specs.MemoryLine.{ready, pieces_in}
use Rattle.line_world.proofs.Pieces.{left_in, counted, came, parts, no_piece, nothing_comes}
use Rattle.line_world.proofs.memory_line.MemoryLineLine.listen.Goals as goal

pub copy_front-n-requires : goal.copy_front-n-requires
copy_front-n-requires c =
    let q = c.index.result.now in
    let ps = c.self.inside.pieces.items in
    let here : get_or ps c.pass_empty.new.piece q ≡ q = search rules in
    let at : pieces_in (λ p. p.items) c.pass_empty.new.given (drop c.pass_empty.new.piece ps) ≡ ready c.args.self.now.waiting = search rules in
    let within : c.pass_empty.new.piece < length ps = search rules in
    let more : c.pass_empty.new.given < length q.items = rw here at (left_in (λ p. p.items) ps c.pass_empty.new.piece c.pass_empty.new.given q c.args.self.now.waiting within at) in
    let same : c.as_slice-then-self-len.result.now ≡ q.items = search rules in
    rw same (omega (arith, more))

pub returns-then-self-len-clause-within : goal.returns-then-self-len-clause-within
returns-then-self-len-clause-within c =
    let q = c.index.result.now in
    let ps = c.self.inside.pieces.items in
    let room = length c.args.piece.now in
    let here : get_or ps c.pass_empty.new.piece q ≡ q = search rules in
    let same : c.as_slice-then-self-len.result.now ≡ q.items = search rules in
    let at : pieces_in (λ p. p.items) c.pass_empty.new.given (drop c.pass_empty.new.piece ps) ≡ ready c.args.self.now.waiting = search rules in
    let within : c.pass_empty.new.piece < length ps = search rules in
    let bytes = take room (drop c.pass_empty.new.given q.items) in
    let count : c.copy_front-n.result ≡ length bytes = rw same at c.copy_front-n.ensures.count in
    let laid : c.copy_front-n.new.out ≡ bytes ++ drop (length bytes) c.args.piece.now = rw same at c.copy_front-n.ensures.laid in (
      counted (λ p. p.items) ps c.pass_empty.new.piece c.pass_empty.new.given q c.args.self.now.waiting room c.copy_front-n.result within at (rw here count) c.requires.room,
      omega (arith, count, ap length laid, length-append bytes (drop (length bytes) c.args.piece.now)),
    )

pub returns-then-self-len-clause-heard : goal.returns-then-self-len-clause-heard
returns-then-self-len-clause-heard c =
    let q = c.index.result.now in
    let ps = c.self.inside.pieces.items in
    let room = length c.args.piece.now in
    let here : get_or ps c.pass_empty.new.piece q ≡ q = search rules in
    let same : c.as_slice-then-self-len.result.now ≡ q.items = search rules in
    let at : pieces_in (λ p. p.items) c.pass_empty.new.given (drop c.pass_empty.new.piece ps) ≡ ready c.args.self.now.waiting = search rules in
    let within : c.pass_empty.new.piece < length ps = search rules in
    let bytes = take room (drop c.pass_empty.new.given q.items) in
    let count : c.copy_front-n.result ≡ length bytes = rw same at c.copy_front-n.ensures.count in
    let laid : c.copy_front-n.new.out ≡ bytes ++ drop (length bytes) c.args.piece.now = rw same at c.copy_front-n.ensures.laid in (
      parts (λ p. p.items) ps c.pass_empty.new.piece c.pass_empty.new.given q c.args.self.now.waiting room c.copy_front-n.result within at (rw here count) (drop (length bytes) c.args.piece.now) c.copy_front-n.new.out (rw here laid),
      search rules,
    )

pub returns-then-self-len-clause-came : goal.returns-then-self-len-clause-came
returns-then-self-len-clause-came c =
    let q = c.index.result.now in
    let ps = c.self.inside.pieces.items in
    let room = length c.args.piece.now in
    let here : get_or ps c.pass_empty.new.piece q ≡ q = search rules in
    let same : c.as_slice-then-self-len.result.now ≡ q.items = search rules in
    let at : pieces_in (λ p. p.items) c.pass_empty.new.given (drop c.pass_empty.new.piece ps) ≡ ready c.args.self.now.waiting = search rules in
    let within : c.pass_empty.new.piece < length ps = search rules in
    let bytes = take room (drop c.pass_empty.new.given q.items) in
    let count : c.copy_front-n.result ≡ length bytes = rw same at c.copy_front-n.ensures.count in
    came (λ p. p.items) ps c.pass_empty.new.piece c.pass_empty.new.given q c.args.self.now.waiting room c.copy_front-n.result within at (rw here count) c.requires.room

pub returns-clause-heard : goal.returns-clause-heard
returns-clause-heard c =
    let ps = c.self.inside.pieces.items in
    let at : pieces_in (λ p. p.items) c.pass_empty.new.given (drop c.pass_empty.new.piece ps) ≡ ready c.args.self.now.waiting = search rules in
    let past : length ps ≤ c.pass_empty.new.piece = search rules in (
      nothing_comes c.args.self.now.waiting (sym at ∙ no_piece (λ p. p.items) ps c.pass_empty.new.piece c.pass_empty.new.given past),
      search rules,
    )
