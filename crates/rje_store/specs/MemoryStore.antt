-- The files of a store in memory.
use Rattle.std.specs.Prelude.{option_map, ⊤}
use Rattle.std.specs.BTreeMap.{get_by_text}
use Rattle.rje_store.specs.declared.memory_store.MemoryStore.{MemoryStore}
use Rattle.rje_store.specs.declared.store.StoreFault.{StoreFault}
use Rattle.rje_store.specs.Store.{FileMap}

-- the files that the store has
abbrev pub files_of : MemoryStore → FileMap
files_of store name = option_map (λ bytes. bytes.items) (get_by_text store.files name)

-- what such a store can fail of: of its files and of memory, as nobody else has them, and no system can fail
abbrev pub IsOfMemory : StoreFault → Type 0
IsOfMemory StoreFault.InUse = ⊥
IsOfMemory StoreFault.Unsynced = ⊥
IsOfMemory (StoreFault.Failed kind) = ⊥
IsOfMemory _ = ⊤
