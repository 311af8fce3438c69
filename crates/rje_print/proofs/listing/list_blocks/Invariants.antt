use Rattle.rje_print.proofs.BlockListings.{IsPrinting}
use Rattle.rje_print.proofs.listing.list_blocks.Given as goal

abbrev pub invariant-loop-item : goal.invariant-loop-item
invariant-loop-item g l =
    IsPrinting (g.O.Write.contents l.fn.out) (g.O.Write.contents l.out) l.fn.cards l.packer l.item-iterator l.listing.piece.bytes.items l.listing.lines l.listing.so_far l.listing.count
