-- What one run of the program over sockets does, by the words that it was given (own profile).
use Rattle.std.specs.Prelude.{◌≡◌, ◌⊎◌, ℕ, List, [], ◌∷◌, Option, codes}
use Rattle.rje_requests.specs.declared.order.FileOrder.{FileOrder}
use Rattle.rje_requests.specs.declared.order.Order.TheVariants.{Files, Sockets}
use Rattle.rje_requests.specs.declared.order.SocketOrder.{SocketOrder}
use Rattle.rje_cli.specs.Asking.{AsksFor}
use Rattle.rje_commands.specs.declared.command_fault.CommandFault.{CommandFault}
use Rattle.rje_commands.specs.CommandFault.{IsFailing, status_of}
use Rattle.rje_sockets.specs.declared.socket_commands.ending.Ending.{Ending}
use Rattle.rje_sockets.specs.Ending.{ending_status}
use Rattle.rje_sockets.specs.SocketCommand.{LeavesFiles, Refuses, Transmits}
use Rattle.rje_program.specs.Command.{AreMistaken, AsksForHelp, AsksForStation}
use Rattle.rje_store.specs.Store.{FileMap, Discloses, IsSame}

-- the first word names a command over sockets
abbrev pub NamesSockets : List (List ℕ) → Type 0
NamesSockets [] = ⊥
NamesSockets (word ∷ words) = (word ≡ codes "loop") ⊎ ((word ≡ codes "send") ⊎ ((word ≡ codes "receive") ⊎ (word ≡ codes "exchange")))

-- the first word names a station
abbrev pub NamesStation : List (List ℕ) → Type 0
NamesStation [] = ⊥
NamesStation (word ∷ words) = word ≡ codes "station"

-- the first word names a look at the folder of a station
abbrev pub NamesStatus : List (List ℕ) → Type 0
NamesStatus [] = ⊥
NamesStatus (word ∷ words) = word ≡ codes "status"

-- the words ask for a command over sockets, this is what it does, and this is the status of how it ended; or they ask for help or the version
abbrev pub TransmitsAsAsked : (status : ℕ) → List (List ℕ) → (files made : Option FileMap) → (before after : Option (List ℕ)) → Type 0
TransmitsAsAsked status words files made before after =
    ((order : SocketOrder) × (ending : Ending) × AsksFor words (Sockets order) × (status ≡ ending_status ending) × Transmits order ending files made before after)
    ⊎ ((status ≡ 0) × AsksForHelp words)

-- the words ask for a command over sockets, and a job file that it sends or receives into is refused
abbrev pub RefusesAsAsked : List (List ℕ) → Option FileMap → Type 0
RefusesAsAsked words files =
    (order : SocketOrder) × (fault : CommandFault) × AsksFor words (Sockets order) × Refuses order files fault × (status_of fault ≡ 1)

-- there is a mistake in the words, or they ask for a command over files, or they ask for a station or for a look at its folder
abbrev pub AsksForNoSockets : List (List ℕ) → Type 0
AsksForNoSockets words = AreMistaken words ⊎ (((order : FileOrder) × AsksFor words (Files order)) ⊎ AsksForStation words)

-- the exit statuses of a command over sockets
abbrev pub IsSocketStatus : ℕ → Type 0
IsSocketStatus status = (status ≡ 0) ⊎ ((status ≡ 4) ⊎ ((status ≡ 1) ⊎ ((status ≡ 2) ⊎ IsFailing status)))

-- no file changed, or the words ask for a command over sockets, which leaves the files so
abbrev pub LeavesFilesAsAsked : List (List ℕ) → (files made : Option FileMap) → Type 0
LeavesFilesAsAsked words files made =
    Discloses files made IsSame ⊎ ((order : SocketOrder) × AsksFor words (Sockets order) × LeavesFiles order files made)
