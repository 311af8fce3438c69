use Rattle.std.proofs.Common.{rules, ◌≡◌, ◌++◌, leb, length, true, get_or}
use Rattle.rje_text.specs.Spelling.{spelling}
use Rattle.rje_text.proofs.NextBlocks.{packed_on}
use Rattle.rje_text.proofs.block_at.next_block.Goals as goal

pub loop-place-preserved : goal.loop-place-preserved
loop-place-preserved c =
    let r = c.index-records-place.result in
    let here : r ≡ get_or c.args.records.now c.loop-place.place r = search rules in
    let room : leb (length (c.loop-place.in_hand.items ++ spelling c.args.mode r)) 510 ≡ true = search rules in
    let taken : c.take_record.new.text.items ≡ c.loop-place.in_hand.items ++ spelling c.args.mode r = search rules in
    rw taken (packed_on c.args.select c.args.mode c.loop-place.in_hand.items c.args.records.now c.args.from c.loop-place.place r c.loop-place.invariant c.loop-place-test.true here room)
