use Rattle.std.proofs.Common.{arith}
use Rattle.std.proofs.lemmas.Map.Text.{text_keys}
use Rattle.rje_store.proofs.memory_store.MemoryStoreStore.write.Goals as goal

pub returns-in-Ok-insert-clause-sets : goal.returns-in-Ok-insert-clause-sets
returns-in-Ok-insert-clause-sets c = λ other. grind (arith, text_keys)
