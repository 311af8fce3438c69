-- Why a file of a name isn't read, or not written (own profile).
use Rattle.std.specs.Prelude.{◌≡◌, ◌≢◌, ℕ, List, Option, ⊤}
use Rattle.rje_files.specs.FileFault.{IsFileFault}
use Rattle.rje_files.specs.JobFile.{IsEntryFile}
use Rattle.rje_commands.specs.declared.command_fault.CommandFault.{CommandFault}
use Rattle.rje_commands.specs.declared.write_cause.WriteCause.{WriteCause}
use Rattle.rje_commands.specs.Commands.{OfFile}
use Rattle.rje_store.specs.declared.store.StoreFault.{StoreFault}
use Rattle.rje_store.specs.Store.{FileMap}

-- there is no memory for what has this name, or it can't be read
abbrev pub IsReadFault : List ℕ → CommandFault → Type 0
IsReadFault name CommandFault.OutOfMemory = ⊤
IsReadFault name (CommandFault.CannotRead named fault) = named.now ≡ name
IsReadFault name _ = ⊥

-- it is that which comes of this fault of a store
abbrev pub IsReadFaultOf : List ℕ → StoreFault → CommandFault → Type 0
IsReadFaultOf name fault CommandFault.OutOfMemory = fault ≡ StoreFault.OutOfMemory
IsReadFaultOf name fault (CommandFault.CannotRead named why) = (fault ≢ StoreFault.OutOfMemory) × (named.now ≡ name) × (why ≡ fault)
IsReadFaultOf name fault _ = ⊥

-- or it is no job file
abbrev pub IsInputFault : List ℕ → Option FileMap → CommandFault → Type 0
IsInputFault name files (CommandFault.File fault) = OfFile name files (λ file. IsFileFault IsEntryFile file fault)
IsInputFault name files fault = IsReadFault name fault

-- there is no memory to write what has this name, it can't be written, another process has it, or it is written and the disk may not have it
abbrev pub IsWriteFault : List ℕ → CommandFault → Type 0
IsWriteFault name CommandFault.OutOfMemory = ⊤
IsWriteFault name (CommandFault.CannotWrite named cause) = named.now ≡ name
IsWriteFault name (CommandFault.InUse named) = named.now ≡ name
IsWriteFault name (CommandFault.Unsynced named) = named.now ≡ name
IsWriteFault name _ = ⊥

-- a fault of a store that has no line of its own where a file is written
abbrev pub IsOther : StoreFault → Type 0
IsOther StoreFault.OutOfMemory = ⊥
IsOther StoreFault.InUse = ⊥
IsOther StoreFault.Unsynced = ⊥
IsOther _ = ⊤

-- it is that which comes of this fault of a store
abbrev pub IsWriteFaultOf : List ℕ → StoreFault → CommandFault → Type 0
IsWriteFaultOf name fault CommandFault.OutOfMemory = fault ≡ StoreFault.OutOfMemory
IsWriteFaultOf name fault (CommandFault.CannotWrite named cause) = IsOther fault × (named.now ≡ name) × (cause ≡ WriteCause.Store fault)
IsWriteFaultOf name fault (CommandFault.InUse named) = (fault ≡ StoreFault.InUse) × (named.now ≡ name)
IsWriteFaultOf name fault (CommandFault.Unsynced named) = (fault ≡ StoreFault.Unsynced) × (named.now ≡ name)
IsWriteFaultOf name fault _ = ⊥

-- what has this name can't be had for the command alone, or not be read then
abbrev pub IsHoldFault : List ℕ → CommandFault → Type 0
IsHoldFault name (CommandFault.CannotRead named fault) = named.now ≡ name
IsHoldFault name fault = IsWriteFault name fault
