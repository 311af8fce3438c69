use Rattle.std.proofs.Common.{arith, rules}
use Rattle.std.proofs.lemmas.Map.Text.{text_keys}
use Rattle.std.specs.Vec.{with_item}
use Rattle.rje_store.proofs.memory_store.MemoryStoreStore.set_byte.Goals as goal

pub returns-then-len-place-clause-same : goal.returns-then-len-place-clause-same
returns-then-len-place-clause-same c = λ other. grind (arith, text_keys, (c.get_mut.follows.holds c.in-Some.bytes.now).3 (search rules))

pub returns-clause-sets : goal.returns-clause-sets
returns-clause-sets c =
    let set = with_item c.in-Some.bytes.now c.args.place c.args.byte in
    (c.in-Some.bytes.now.items, grind arith, omega arith, λ other. grind (arith, text_keys, (c.get_mut.follows.holds set).3 (search rules)))
