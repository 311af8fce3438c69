-- Why words ask for nothing that can be done.
use Rattle.std.specs.Prelude.{◌≡◌}
use Rattle.clap.specs.Words.{kind_of}
use Rattle.clap.specs.declared.error.kind.ErrorKind.{ErrorKind}
use Rattle.clap.specs.declared.error.kind.ErrorKind.TheVariants.{OutOfMemory}
use Rattle.rje_cli.specs.declared.words_fault.WordsFault.{WordsFault}
use Rattle.rje_cli.specs.declared.words_fault.WordsFault.TheVariants.{Refused}

-- clap refuses the words for this
abbrev pub IsRefusedFor : ErrorKind → WordsFault → Type 0
IsRefusedFor kind (Refused error) = kind_of error ≡ kind
IsRefusedFor kind _ = ⊥

-- memory ran out
abbrev pub IsWantOfMemory : WordsFault → Type 0
IsWantOfMemory = IsRefusedFor OutOfMemory
