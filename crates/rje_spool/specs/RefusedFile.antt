-- Why a file of out/ isn't sent (own profile).
use Rattle.std.specs.Prelude.{Bool, true, false}
use Rattle.rje_jobs.specs.declared.deck_fault.DeckFault.{DeckFault}
use Rattle.rje_jobs.specs.declared.file_fault.FileFault.{FileFault}
use Rattle.rje_spool.specs.declared.refused_file.RefusedFile.{RefusedFile}

-- for want of memory alone: it stays in out/
abbrev pub is_want_of_memory : RefusedFile → Bool
is_want_of_memory RefusedFile.OutOfMemory = true
is_want_of_memory (RefusedFile.Deck DeckFault.OutOfMemory) = true
is_want_of_memory (RefusedFile.File FileFault.OutOfMemory) = true
is_want_of_memory _ = false
