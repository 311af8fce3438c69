-- What one run of the program over files does, by the words that it was given (own profile).
use Rattle.std.specs.Prelude.{◌≡◌, ◌⊎◌, ℕ, List, Option}
use Rattle.clap.specs.Words.{kind_of}
use Rattle.clap.specs.declared.error.Error.{Error}
use Rattle.clap.specs.declared.error.kind.ErrorKind.{ErrorKind}
use Rattle.clap.specs.declared.error.kind.ErrorKind.TheVariants.{DisplayHelp, DisplayVersion, OutOfMemory}
use Rattle.rje_requests.specs.declared.order.CardsOrder.{CardsOrder}
use Rattle.rje_requests.specs.declared.order.FileOrder.{FileOrder}
use Rattle.rje_requests.specs.declared.order.MarkOrder.{MarkOrder}
use Rattle.rje_requests.specs.declared.order.TakeOrder.{TakeOrder}
use Rattle.rje_requests.specs.declared.order.Order.TheVariants.{Files, Sockets, Station, Status}
use Rattle.rje_requests.specs.declared.order.SocketOrder.{SocketOrder}
use Rattle.rje_requests.specs.declared.station.StationOrder.{StationOrder}
use Rattle.rje_requests.specs.declared.status.StatusOrder.{StatusOrder}
use Rattle.rje_cli.specs.declared.words_fault.WordsFault.{WordsFault}
use Rattle.rje_cli.specs.Asking.{AsksFor, IsWordsFault}
use Rattle.rje_commands.specs.declared.command_fault.CommandFault.{CommandFault}
use Rattle.rje_commands.specs.CommandFault.{status_of}
use Rattle.rje_commands.specs.Commands.{Does, IsFault, MakesFile, MarksFile, OfDeck, OfFile, TakesFile}
use Rattle.rje_store.specs.Store.{FileMap, Discloses, IsSame}

-- clap's error gives help, or the version
abbrev pub IsHelpError : Error → Type 0
IsHelpError error = (kind_of error ≡ DisplayHelp) ⊎ (kind_of error ≡ DisplayVersion)

-- the words ask for help
abbrev pub IsHelp : WordsFault → Type 0
IsHelp (WordsFault.Refused error) = IsHelpError error
IsHelp _ = ⊥

-- the exit status of words that ask for nothing that can be done: after help and the version 0, where memory ran out 5, of a mistake 2
abbrev pub error_status : ErrorKind → ℕ
error_status DisplayHelp = 0
error_status DisplayVersion = 0
error_status OutOfMemory = 5
error_status _ = 2

abbrev pub words_status : WordsFault → ℕ
words_status (WordsFault.Refused error) = error_status (kind_of error)
words_status _ = 2

-- there is a mistake in the words
abbrev pub AreMistaken : List (List ℕ) → Type 0
AreMistaken words = (fault : WordsFault) × IsWordsFault words fault × (words_status fault ≡ 2)

-- the words ask for help, or for the version
abbrev pub AsksForHelp : List (List ℕ) → Type 0
AsksForHelp words = (fault : WordsFault) × IsWordsFault words fault × IsHelp fault

-- the words ask for a command over files, and this is what it does; or they ask for help or the version
abbrev pub DoesAsAsked : List (List ℕ) → (files made : Option FileMap) (input before after : Option (List ℕ)) → Type 0
DoesAsAsked words files made input before after =
    ((order : FileOrder) × AsksFor words (Files order) × Does order files made input before after) ⊎ AsksForHelp words

-- the words ask for a command over files, and what it reads is refused
abbrev pub IsRefused : List (List ℕ) → Option FileMap → (input : Option (List ℕ)) → Type 0
IsRefused words files input =
    (order : FileOrder) × (fault : CommandFault) × AsksFor words (Files order) × IsFault order files input fault × (status_of fault ≡ 1)

-- the words ask for a station, or for a look at its folder
abbrev pub AsksForStation : List (List ℕ) → Type 0
AsksForStation words = ((order : StationOrder) × AsksFor words (Station order)) ⊎ ((order : StatusOrder) × AsksFor words (Status order))

-- there is a mistake in the words, or they ask for a command over sockets, or they ask for a station or for a look at its folder
abbrev pub AsksForNoFiles : List (List ℕ) → Type 0
AsksForNoFiles words = AreMistaken words ⊎ (((order : SocketOrder) × AsksFor words (Sockets order)) ⊎ AsksForStation words)

-- the exit statuses of a command over files
abbrev pub IsStatus : ℕ → Type 0
IsStatus status = (status ≡ 0) ⊎ ((status ≡ 1) ⊎ ((status ≡ 2) ⊎ ((status ≡ 3) ⊎ ((status ≡ 5) ⊎ (status ≡ 141)))))

-- all files are as they were, or the words ask for `cards`, `take` or `mark` and just the file that it makes was made
abbrev pub LeavesAsAsked : List (List ℕ) → (files made : Option FileMap) (input : Option (List ℕ)) → Type 0
LeavesAsAsked words files made input =
    Discloses files made IsSame
    ⊎ (((order : CardsOrder) × AsksFor words (Files (FileOrder.Cards order))
    × OfDeck order.deck.now files input (λ deck. MakesFile order deck files made))
    ⊎ (((order : TakeOrder) × AsksFor words (Files (FileOrder.Take order))
    × OfFile order.jobs.now files (λ file. TakesFile order file files made))
    ⊎ ((order : MarkOrder) × AsksFor words (Files (FileOrder.Mark order))
    × OfFile order.jobs.now files (λ file. MarksFile order file files made))))
