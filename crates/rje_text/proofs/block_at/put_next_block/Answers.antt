use Rattle.std.proofs.Common.{rules, ◌≡◌, ◌<◌, ◌++◌, leb, length, true, arith}
use Rattle.std.proofs.lemmas.List.{get_or_default}
use Rattle.rje_text.specs.Spelling.{spelling}
use Rattle.rje_text.specs.Records.{record_at}
use Rattle.rje_text.proofs.NextBlocks.{packed_on}
use Rattle.rje_text.proofs.block_at.put_next_block.Goals as goal

pub loop-place-preserved : goal.loop-place-preserved
loop-place-preserved c =
    let r = record_at c.args.records.now c.loop-place.place in
    let more : c.loop-place.place < length c.args.records.now = omega (arith, c.loop-place-test.true, c.len.ensures) in
    let room : leb (length (c.loop-place.in_hand.items ++ spelling c.args.mode r)) 510 ≡ true = search rules in
    let taken : c.take_at.new.text.items ≡ c.loop-place.in_hand.items ++ spelling c.args.mode r = search rules in
    rw taken (packed_on c.args.select c.args.mode c.loop-place.in_hand.items c.args.records.now c.args.from c.loop-place.place r c.loop-place.invariant more (get_or_default _ _ _ _ more) room)
