-- What canonical words ask for (own profile).
use Rattle.std.specs.Prelude.{◌≡◌, Bool, true, false, List, [], ◌∷◌, ◌++◌, None, Some, Option, codes}
use Rattle.std.specs.List.{AllByRecursion}
use Rattle.clap.specs.Words.{Text}
use Rattle.bsc_link.specs.declared.rank.Rank.{Rank}
use Rattle.rje_requests.specs.declared.device.Device.{Device}
use Rattle.rje_requests.specs.declared.order.Order.{Order}
use Rattle.rje_cli.specs.declared.words_fault.WordsFault.{WordsFault}
use Rattle.rje_requests.specs.declared.connection.Connection.{Connection}
use Rattle.rje_requests.specs.declared.order.Existing.{Existing}
use Rattle.rje_requests.specs.declared.order.Order.TheVariants.{Sockets, Station}
use Rattle.rje_requests.specs.declared.order.SocketOrder.TheVariants.{Receive, Send}
use Rattle.rje_requests.specs.declared.station.StationOrder.{StationOrder}
use Rattle.rje_requests.specs.Choice.{devices_chosen}
use Rattle.rje_cli.specs.Asking.{AsksFor, form_chosen, IsGivenName, IsMeetingOf, IsPartnerOf, IsPatienceOf, IsProgressOf, IsTimeoutOf, IsWordsFault}
use Rattle.rje_cli.specs.Address.{IsHostAddress, IsSomeAddress}
use Rattle.rje_cli.specs.CommandLine.{is_file, names_file}
use Rattle.rje_cli.specs.Orders.{IsBlocks, IsCards, IsShow, IsCheck, IsPrint, IsTry, IsMonitor, IsStatus}
use Rattle.rje_cli.specs.WordsFault.{IsWantOfMemory}

-- each order that the words ask for is such a one, and they have no fault but out of memory
pub record AskOnlyFor (words : List Text) (IsOne : Order → Type 0) : Type 0 where
  pub order : (order : Order) → AsksFor words order → IsOne order
  pub fault : (fault : WordsFault) → IsWordsFault words fault → IsWantOfMemory fault

-- `blocks DECK` asks for the blocks of the deck
abbrev pub BlocksAsked : Type 0
BlocksAsked = (deck : Text) → is_file deck ≡ true → AskOnlyFor (codes "blocks" ∷ deck ∷ []) (IsBlocks deck)

-- an option where it is given
abbrev pub flag_words : (given : Bool) → Text → List Text
flag_words false option = []
flag_words true option = option ∷ []

-- `show JOBS` asks to show the jobs of the file, with `--records` their records too
abbrev pub ShowAsked : Type 0
ShowAsked =
    (jobs : Text) (records : Bool) → names_file jobs ≡ true
    → AskOnlyFor (codes "show" ∷ jobs ∷ flag_words records (codes "--records")) (IsShow jobs records)

-- `check JOBS` asks to check them
abbrev pub CheckAsked : Type 0
CheckAsked = (jobs : Text) → names_file jobs ≡ true → AskOnlyFor (codes "check" ∷ jobs ∷ []) (IsCheck jobs)

-- the options of `print` for devices and for the form of cards
abbrev pub print_words : (printer punch raw : Bool) → List Text
print_words printer punch raw = flag_words printer (codes "--printer") ++ (flag_words punch (codes "--punch") ++ flag_words raw (codes "--raw"))

-- `print JOBS` asks to print them: those for the devices that `--printer` and `--punch` choose, and with `--raw` cards as they are
abbrev pub PrintAsked : Type 0
PrintAsked =
    (jobs : Text) (printer punch raw : Bool) → names_file jobs ≡ true
    → AskOnlyFor (codes "print" ∷ jobs ∷ print_words printer punch raw) (IsPrint jobs (devices_chosen printer punch) (form_chosen raw))

-- `try JOBS SCRIPT` asks to try the jobs of the file over the script
abbrev pub TryAsked : Type 0
TryAsked =
    (jobs script : Text) → names_file jobs ≡ true → names_file script ≡ true → AskOnlyFor (codes "try" ∷ jobs ∷ script ∷ []) (IsTry jobs script)

-- `monitor CAPTURE`, or `monitor` for standard input, asks for what is heard of the capture, which is text with `--hex`
pub record MonitorAsked : Type 0 where
  pub named : (capture : Text) (hex : Bool) → is_file capture ≡ true
      → AskOnlyFor (codes "monitor" ∷ capture ∷ flag_words hex (codes "--hex")) (IsMonitor capture hex)
  pub unnamed : (hex : Bool) → AskOnlyFor (codes "monitor" ∷ flag_words hex (codes "--hex")) (IsMonitor (codes "-") hex)

-- the words that choose a device
abbrev pub device_words : Device → List Text
device_words Device.Default = []
device_words Device.Printer = codes "--printer" ∷ []
device_words Device.Punch = codes "--punch" ∷ []
device_words Device.Transparent = codes "--transparent" ∷ []

-- the words that give a name
abbrev pub name_words : Option Text → List Text
name_words None = []
name_words (Some text) = codes "--name" ∷ text ∷ []

-- the words that ask that a job is added to those of the file
abbrev pub append_words : Bool → List Text
append_words false = []
append_words true = codes "--append" ∷ []

-- three lists one after another, in each order
abbrev pub in_each_order : {X : Type 0} → (a b c : List X) → List (List X)
in_each_order a b c =
    (a ++ (b ++ c)) ∷ (a ++ (c ++ b)) ∷ (b ++ (a ++ c)) ∷ (b ++ (c ++ a)) ∷ (c ++ (a ++ b)) ∷ (c ++ (b ++ a)) ∷ []

-- the options of `cards` for this device and this name, and the one to add the job where it is asked for: each once, in each order
abbrev pub cards_options : Device → Option Text → Bool → List (List Text)
cards_options device given adds = in_each_order (device_words device) (name_words given) (append_words adds)

-- `cards DECK JOBS` and then its options, each at most once and in any order, asks for a job file of this deck for this device, with this
-- name; with `--append` its job is added to those of the file
abbrev pub CardsWithOptionsAsked : Type 0
CardsWithOptionsAsked =
    (deck jobs : Text) (device : Device) (given : Option Text) (name : Text) (adds : Bool) → is_file deck ≡ true → names_file jobs ≡ true
    → IsGivenName given (Some name)
    → AllByRecursion (λ options. AskOnlyFor (codes "cards" ∷ deck ∷ jobs ∷ options) (IsCards deck jobs device name adds)) (cards_options device given adds)

-- the words that choose what becomes of the jobs that the file which is received into holds already
abbrev pub existing_words : Existing → List Text
existing_words Existing.Replace = []
existing_words Existing.Refuse = codes "--new" ∷ []
existing_words Existing.Append = codes "--append" ∷ []

-- the connection is come to by these texts for the two addresses, with anyone's calls taken, and has the usual time-out, no line adapter and
-- no trace, and how far it is is shown
pub record IsUsual (to listen : Option Text) (link : Connection) : Type 0 where
  pub place : IsMeetingOf to listen None link.place
  pub timeout : IsTimeoutOf (Some (codes "3000")) link.timeout
  pub adapter : link.adapter ≡ false
  pub trace : link.trace ≡ false
  pub quiet : link.quiet ≡ false

-- the order is to send this file to this address over a usual connection
abbrev pub IsSend : (jobs address : Text) → Order → Type 0
IsSend jobs address (Sockets (Send order)) = (order.jobs.now ≡ jobs) × IsUsual (Some address) None order.connection
IsSend jobs address _ = ⊥

-- `send JOBS --to ADDR` asks to send the job file so
abbrev pub SendAsked : Type 0
SendAsked =
    (jobs address : Text) → names_file jobs ≡ true → names_file address ≡ true → IsSomeAddress address
    → AskOnlyFor (codes "send" ∷ jobs ∷ codes "--to" ∷ address ∷ []) (IsSend jobs address)

-- the order is to receive into this file, at this address over a usual connection, with this choice for the jobs that it holds already,
-- with the usual patience, whatever the call brings
abbrev pub IsReceive : (jobs address : Text) → Existing → Order → Type 0
IsReceive jobs address existing (Sockets (Receive order)) =
    (order.into.jobs.now ≡ jobs) × (order.into.existing ≡ existing) × IsUsual None (Some address) order.connection
    × (order.waits ≡ false) × IsPatienceOf (Some (codes "40")) order.patience
IsReceive jobs address existing _ = ⊥

-- `receive JOBS --listen ADDR`, with `--new`, with `--append` or with neither, asks to receive into the job file so
abbrev pub ReceiveAsked : Type 0
ReceiveAsked =
    (jobs address : Text) (existing : Existing) → names_file jobs ≡ true → names_file address ≡ true → IsSomeAddress address
    → AskOnlyFor (codes "receive" ∷ jobs ∷ codes "--listen" ∷ address ∷ existing_words existing) (IsReceive jobs address existing)

-- the station of the folder of this name calls this host, is the primary, and has all else as usual: 60 seconds between its calls, the usual time-out,
-- patience and time without a job, no line adapter, one connection after another, no receipts, and how far it is is shown
pub record IsUsualStation (named host : Text) (order : StationOrder) : Type 0 where
  pub folder : order.folder.now ≡ named
  pub partner : IsPartnerOf (Some host) None None order.partner
  pub rank : order.rank ≡ Rank.Primary
  pub every : order.every ≡ 60
  pub timeout : IsTimeoutOf (Some (codes "3000")) order.timeout
  pub patience : IsPatienceOf (Some (codes "40")) order.patience
  pub progress : IsProgressOf (Some (codes "21600")) order.progress
  pub adapter : order.adapter ≡ false
  pub once : order.once ≡ false
  pub settle : order.settle ≡ false
  pub quiet : order.quiet ≡ false

-- the order is for that station
abbrev pub IsStation : (folder host : Text) → Order → Type 0
IsStation folder host (Station order) = IsUsualStation folder host order
IsStation folder host _ = ⊥

-- `station FOLDER --to HOST` asks for that station
abbrev pub StationAsked : Type 0
StationAsked =
    (folder host : Text) → names_file folder ≡ true → names_file host ≡ true → IsHostAddress host
    → AskOnlyFor (codes "station" ∷ folder ∷ codes "--to" ∷ host ∷ []) (IsStation folder host)

-- `status FOLDER` asks for a look at the folder, told as JSON with `--json`
abbrev pub StatusAsked : Type 0
StatusAsked =
    (folder : Text) (json : Bool) → names_file folder ≡ true
    → AskOnlyFor (codes "status" ∷ folder ∷ flag_words json (codes "--json")) (IsStatus folder json)
