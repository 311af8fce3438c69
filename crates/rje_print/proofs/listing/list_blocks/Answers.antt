-- The lines of the blocks of a job, block by block.
-- An invariant: what is printed is the listing of the cards so far, but for those in the block in hand (BlockListings).
use Rattle.std.proofs.Common.{rules, ◌≡◌, true, ap, length, arith}
use Rattle.std.proofs.lemmas.Result.{on_ok_weaker}
use Rattle.rje_text.specs.Packing.{Packing, with_record}
use Rattle.rje_print.proofs.BlockListings.{full_next, can_print, may_count, printed, can_print_last, may_count_last, printed_all, begun_printing}
use Rattle.rje_print.proofs.listing.list_blocks.Goals as goal

pub loop-item-init : goal.loop-item-init
loop-item-init g c =
    begun_printing (g.O.Write.contents c.args.out.now) c.args.cards c.new-packer.result _ c.new-listing.result.piece.bytes.items c.new-listing.result.lines
    c.new-listing.result.so_far c.new-listing.result.count
    c.cut_reads_back.ensures c.packing_is_the_cut.ensures c.requires.fits c.requires.few c.new-packer.ensures
    c.into_iter-item-iterator.ensures.into_iter_gives c.new-listing.ensures.piece c.new-listing.ensures.lines
    c.new-listing.ensures.so_far c.new-listing.ensures.count

pub add-requires-clause-can : goal.add-requires-clause-can
add-requires-clause-can g c =
    let p = c.loop-item.packer in
    let closed = c.close.new.self in
    let item = c.in-Some.item in
    can_print _ _ c.args.cards p _ _ c.loop-item.listing.lines _ _ c.loop-item.invariant
    (with_record closed item) item c.next.new.self c.close.result c.in-Some.ensures.steps
    (full_next p c.push_sendable.new.self closed item c.next.new.self c.close.result (search rules) (search rules) c.close.ensures.block c.close.ensures.after)

pub add-requires-clause-few : goal.add-requires-clause-few
add-requires-clause-few g c =
    let p = c.loop-item.packer in
    let closed = c.close.new.self in
    let item = c.in-Some.item in
    may_count _ _ c.args.cards p _ _ c.loop-item.listing.lines _ _ c.loop-item.invariant
    (with_record closed item) item c.next.new.self c.close.result c.in-Some.ensures.steps
    (full_next p c.push_sendable.new.self closed item c.next.new.self c.close.result (search rules) (search rules) c.close.ensures.block c.close.ensures.after)
    (λ short. let e = c.push_sendable.ensures.short short in cc) c.requires.few

pub loop-item-preserved-then-not-push_sendable : goal.loop-item-preserved-then-not-push_sendable
loop-item-preserved-then-not-push_sendable g c =
    let p = c.loop-item.packer in
    let closed = c.close.new.self in
    let item = c.in-Some.item in
    let taken : c.push_sendable-then-not-push_sendable.result ≡ true = c.push_sendable-then-not-push_sendable.ensures.short (omega (arith, ap (λ (x : Packing). length x.text) c.close.ensures.after)) in
    let next_is : c.push_sendable-then-not-push_sendable.new.self ≡ with_record closed item = rw taken at c.push_sendable-then-not-push_sendable.ensures.taken in
    rw next_is (printed _ _ c.args.cards p _ _ c.loop-item.listing.lines _ _ c.loop-item.invariant
    (with_record closed item) item c.next.new.self c.close.result c.in-Some.ensures.steps
    (full_next p c.push_sendable.new.self closed item c.next.new.self c.close.result (search rules) (search rules) c.close.ensures.block c.close.ensures.after)
    (g.O.Write.contents c.add.new.out) c.add.new.self.piece.bytes.items c.add.new.self.lines c.add.new.self.so_far c.add.new.self.count
    (search rules) (search rules) (λ short. let e = c.push_sendable.ensures.short short in cc) c.in_ok-add.ensures.puts c.in_ok-add.ensures.lines c.in_ok-add.ensures.reads)

pub add-requires-2-clause-can : goal.add-requires-2-clause-can
add-requires-2-clause-can g c =
    can_print_last _ _ c.args.cards c.loop-item.packer _ _ c.loop-item.listing.lines _ _ c.loop-item.invariant c.close-2.result c.in-None.ensures.steps.0 c.close-2.ensures.block

pub add-requires-2-clause-few : goal.add-requires-2-clause-few
add-requires-2-clause-few g c =
    may_count_last _ _ c.args.cards c.loop-item.packer _ _ c.loop-item.listing.lines _ _ c.loop-item.invariant c.close-2.result c.in-None.ensures.steps.0 c.close-2.ensures.block c.requires.few

pub returns : goal.returns
returns g c =
    on_ok_weaker c.end.result (λ end.
    printed_all _ _ c.args.cards c.loop-item.packer _ _ c.loop-item.listing.lines _ _ c.loop-item.invariant c.close-2.result c.in-None.ensures.steps.0 c.close-2.ensures.block
    (g.O.Write.contents c.add-2.new.out) (g.O.Write.contents c.end.new.out) c.add-2.new.self.piece.bytes.items c.add-2.new.self.so_far c.add-2.new.self.count
    c.in_ok-add-2.ensures.puts c.in_ok-add-2.ensures.reads end) c.end.ensures
