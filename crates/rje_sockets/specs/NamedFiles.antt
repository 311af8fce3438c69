-- Which files the fault of a transmission names (own profile).
use Rattle.std.specs.Prelude.{◌≡◌, ℕ, List, ⊤}
use Rattle.rje_commands.specs.declared.command_fault.CommandFault.{CommandFault}

-- where a file can't be read or written, is in use or perhaps not on disk, it is one of these
abbrev pub NamesOne : (Read Written : List ℕ → Type 0) → CommandFault → Type 0
NamesOne Read Written (CommandFault.CannotRead name fault) = Read name.now
NamesOne Read Written (CommandFault.CannotWrite name cause) = Written name.now
NamesOne Read Written (CommandFault.InUse name) = Written name.now
NamesOne Read Written (CommandFault.Unsynced name) = Written name.now
NamesOne Read Written _ = ⊤

-- it is this, which can't be written
abbrev pub NamesWritten : (name : List ℕ) → CommandFault → Type 0
NamesWritten name = NamesOne (λ _. ⊥) (λ named. named ≡ name)
