-- The exit status that a fault ends the program with (own profile).
use Rattle.std.specs.Prelude.{◌≡◌, ◌⊎◌, ℕ, Bool, true, false}
use Rattle.std.specs.declared.io.ErrorKind.{ErrorKind}
use Rattle.std.specs.declared.io.ErrorKind.TheVariants.{BrokenPipe}
use Rattle.rje_jobs.specs.declared.deck_fault.DeckFault.{DeckFault}
use Rattle.rje_jobs.specs.declared.file_fault.FileFault.{FileFault}
use Rattle.rje_monitor.specs.declared.hex_fault.HexFault.{HexFault}
use Rattle.rje_print.specs.declared.script_fault.ScriptFault.{ScriptFault}
use Rattle.rje_text.specs.declared.text_fault.TextFault.{TextFault}
use Rattle.rje_station.specs.declared.station_fault.StationFault.{StationFault}
use Rattle.line_world.specs.declared.world_fault.WorldFault.{WorldFault}
use Rattle.rje_commands.specs.declared.command_fault.CommandFault.{CommandFault}
use Rattle.rje_commands.specs.declared.command_fault.CommandFault.TheVariants.{OutOfMemory, Deck, File, BadJob, NoJob, NotHex, Script, NotDamage, BadCut, HoldsJobs, NoJobFile, NoCommand, LineFailed, Unreadable, Babble, OutOfStep, CannotRead, CannotWrite, InUse, Unsynced, Output, Closed}

-- an input that is refused has status 1, out of memory 5
abbrev pub deck_status : DeckFault → ℕ
deck_status DeckFault.OutOfMemory = 5
deck_status (DeckFault.LongLine line) = 1
deck_status (DeckFault.BadCharacter line column) = 1

abbrev pub file_status : FileFault → ℕ
file_status FileFault.OutOfMemory = 5
file_status _ = 1

-- words that name no command over files, or none over sockets, have status 2, a file, a line or an output that fails 3, an output that nobody
-- reads any more 141, which is that of a program that SIGPIPE ended
abbrev pub status_of : CommandFault → ℕ
status_of OutOfMemory = 5
status_of (Deck fault) = deck_status fault
status_of (File fault) = file_status fault
status_of (BadJob number) = 1
status_of (NoJob number) = 1
status_of (NotHex line) = 1
status_of (Script line) = 1
status_of (NotDamage turn) = 1
status_of (BadCut turn) = 1
status_of (HoldsJobs name) = 1
status_of (NoJobFile name) = 1
status_of NoCommand = 2
status_of LineFailed = 3
status_of (Unreadable fault) = 3
status_of Babble = 3
status_of OutOfStep = 3
status_of (CannotRead name fault) = 3
status_of (CannotWrite name cause) = 3
status_of (InUse name) = 3
status_of (Unsynced name) = 3
status_of (Output kind) = 3
status_of Closed = 141

-- the fault of standard output, by the kind of its error: a pipe that nobody reads any more, or a failure of just that kind
abbrev pub of_output : ErrorKind → CommandFault
of_output BrokenPipe = Closed
of_output kind = Output kind

-- standard output failed, or nobody reads it any more
abbrev pub is_of_output : CommandFault → Bool
is_of_output (Output kind) = true
is_of_output Closed = true
is_of_output _ = false

-- what the faults of the layers below are reported as
abbrev pub of_script : ScriptFault → CommandFault
of_script ScriptFault.OutOfMemory = OutOfMemory
of_script (ScriptFault.NotATurn line) = Script line

abbrev pub of_hex : HexFault → CommandFault
of_hex HexFault.OutOfMemory = OutOfMemory
of_hex (HexFault.NotHex line) = NotHex line

abbrev pub of_text : TextFault → CommandFault
of_text TextFault.OutOfMemory = OutOfMemory
of_text fault = Unreadable fault

abbrev pub of_station : StationFault → CommandFault
of_station StationFault.OutOfMemory = OutOfMemory
of_station (StationFault.BadJob number) = BadJob number
of_station StationFault.Babble = Babble
of_station (StationFault.Line fault) = LineFailed
of_station StationFault.Over = LineFailed

abbrev pub of_world : WorldFault → CommandFault
of_world WorldFault.OutOfMemory = OutOfMemory
of_world (WorldFault.NotDamage attempt turn) = NotDamage turn
of_world (WorldFault.BadCut attempt turn) = BadCut turn
of_world (WorldFault.BadJob number) = BadJob number

-- the statuses of a transmission that fails, whatever its fault: of a file, a line or an output, of memory, of an output that nobody reads
abbrev pub IsFailing : ℕ → Type 0
IsFailing status = (status ≡ 3) ⊎ ((status ≡ 5) ⊎ (status ≡ 141))
