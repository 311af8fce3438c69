-- What a command over sockets does, by its order (own profile).
use Rattle.std.specs.Prelude.{◌≡◌, ◌⊎◌, ℕ, List, Option, IfSome, ⊤}
use Rattle.rje_requests.specs.declared.order.SocketOrder.{SocketOrder}
use Rattle.rje_commands.specs.declared.command_fault.CommandFault.{CommandFault}
use Rattle.rje_commands.specs.CommandFault.{IsFailing, status_of}
use Rattle.rje_commands.specs.Commands.{OfFile}
use Rattle.rje_sockets.specs.declared.socket_commands.ending.Ending.{Ending}
use Rattle.rje_sockets.specs.Answering.{KeepsAnswered}
use Rattle.rje_sockets.specs.Ending.{IsUnsentFault, Receives, SendsLeft}
use Rattle.rje_sockets.specs.Exchanging.{ExchangesLeft}
use Rattle.rje_sockets.specs.LeavingBoth.{LeavesExchange}
use Rattle.rje_sockets.specs.InFront.{HasStandingFault, LooksInto}
use Rattle.rje_sockets.specs.Looping.{IsUnloopedFault, Loops}
use Rattle.rje_sockets.specs.Marking.{MarksNoMore}
use Rattle.rje_sockets.specs.NamedFiles.{NamesOne}
use Rattle.rje_sockets.specs.OverLine.{OverConnection}
use Rattle.rje_sockets.specs.Patience.{most_quiet}
use Rattle.rje_store.specs.Store.{FileMap, Discloses, IsSame}

-- WHAT A COMMAND DOES

-- what is done where an order over sockets is carried out to this ending: what the files were and are then, and what was printed before
-- and after
abbrev pub Transmits : SocketOrder → Ending → (files made : Option FileMap) → (before after : Option (List ℕ)) → Type 0
Transmits (SocketOrder.Loop order) ending files made before after = OfFile order.jobs.now files (λ file. Loops ending file before after)
Transmits (SocketOrder.Send order) ending files made before after =
    OverConnection (λ t u. SendsLeft ending order.jobs.now (t, files, before) (u, made, after))
Transmits (SocketOrder.Receive order) ending files made before after = OverConnection (λ t u. Receives (most_quiet order.patience) ending order.into (t, files, before) (u, made, after))
Transmits (SocketOrder.Exchange order) ending files made before after =
    OverConnection (λ t u. ExchangesLeft ending (order.rank, most_quiet order.patience) order.send.now order.received (t, files, before) (u, made, after))

-- Whatever ends it: `loop` changes no file, `send` marks just what was counted, in its file `receive` has what had come whole, and `exchange`
-- does both.
abbrev pub LeavesFiles : SocketOrder → (files made : Option FileMap) → Type 0
LeavesFiles (SocketOrder.Loop order) files made = Discloses files made IsSame
LeavesFiles (SocketOrder.Send order) files made = MarksNoMore ⊤ order.jobs.now files made
LeavesFiles (SocketOrder.Receive order) files made = IfSome files (λ _. (after : ℕ) × KeepsAnswered order.into files made 0 after)
LeavesFiles (SocketOrder.Exchange order) files made =
    IfSome files (λ _. LeavesExchange ⊤ order.rank order.send.now order.received files made)

-- WHY IT ISN'T CARRIED OUT

-- a job file is refused for this: that of `loop`, what is left of that of `send` or `exchange`, or that which `receive` or `exchange` receives into
abbrev pub Refuses : SocketOrder → Option FileMap → CommandFault → Type 0
Refuses (SocketOrder.Loop order) files fault = OfFile order.jobs.now files (λ file. IsUnloopedFault file fault)
Refuses (SocketOrder.Send order) files fault = OfFile order.jobs.now files (λ file. IsUnsentFault file fault)
Refuses (SocketOrder.Receive order) files fault = HasStandingFault order.into files fault
Refuses (SocketOrder.Exchange order) files fault =
    OfFile order.send.now files (λ file. IsUnsentFault file fault) ⊎ HasStandingFault order.received files fault

-- the order reads the file of this name
abbrev pub ReadsFile : SocketOrder → List ℕ → Type 0
ReadsFile (SocketOrder.Loop order) name = name ≡ order.jobs.now
ReadsFile (SocketOrder.Send order) name = name ≡ order.jobs.now
ReadsFile (SocketOrder.Receive order) name = LooksInto order.into name
ReadsFile (SocketOrder.Exchange order) name = (name ≡ order.send.now) ⊎ LooksInto order.received name

-- the order writes it
abbrev pub WritesFile : SocketOrder → List ℕ → Type 0
WritesFile (SocketOrder.Loop order) name = ⊥
WritesFile (SocketOrder.Send order) name = name ≡ order.jobs.now
WritesFile (SocketOrder.Receive order) name = name ≡ order.into.jobs.now
WritesFile (SocketOrder.Exchange order) name = (name ≡ order.send.now) ⊎ (name ≡ order.received.jobs.now)

-- or a file that it reads or writes, a line, an output or memory fails
abbrev pub IsSocketFault : SocketOrder → Option FileMap → CommandFault → Type 0
IsSocketFault order files fault =
    (IsFailing (status_of fault) × NamesOne (ReadsFile order) (WritesFile order) fault) ⊎ ((status_of fault ≡ 1) × Refuses order files fault)
