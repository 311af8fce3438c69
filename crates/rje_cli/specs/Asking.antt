-- What words ask for (own profile): clap finds a command's name and its rows, and these are read.
use Rattle.std.specs.Prelude.{◌≡◌, ◌≢◌, ◌<◌, ◌^◌, ◌⊎◌, ℕ, Bool, true, false, is_none, if◌then◌else◌, ⊤, List, [], ◌∷◌, Option, None, Some, codes, unwrap_or}
use Rattle.std.specs.Option.{IsSomeAnd, option_map_or}
use Rattle.std.specs.Str.{bytes_eq}
use Rattle.std.specs.Str.Parse.{IsNumeral, digits_value, without_leading_plus}
use Rattle.clap.specs.Words.{HasKind, Row, Text, fault_of, first_of, one_of, subcommand_of}
use Rattle.bsc_link.specs.declared.rank.Rank.{Rank}
use Rattle.rje_files.specs.Entry.{IsNameOf, blank_name}
use Rattle.rje_jobs.specs.declared.punch.Form.{Form}
use Rattle.rje_jobs.specs.declared.punch.Form.TheVariants.{Ascii, Raw}
use Rattle.rje_requests.specs.declared.callers.Callers.{Callers}
use Rattle.rje_requests.specs.declared.callers.Callers.TheVariants.{Anyone, These}
use Rattle.rje_requests.specs.declared.choice.Devices.TheVariants.{All}
use Rattle.rje_requests.specs.declared.connection.Connection.{Connection}
use Rattle.rje_requests.specs.declared.connection.Meeting.{Meeting}
use Rattle.rje_requests.specs.declared.connection.Meeting.TheVariants.{Calls, Listens}
use Rattle.rje_requests.specs.declared.device.Device.{Device}
use Rattle.rje_requests.specs.declared.order.CardsOrder.{CardsOrder}
use Rattle.rje_requests.specs.declared.order.Destination.{Destination}
use Rattle.rje_requests.specs.declared.order.ExchangeOrder.{ExchangeOrder}
use Rattle.rje_requests.specs.declared.order.Existing.{Existing}
use Rattle.rje_requests.specs.declared.order.LoopOrder.{LoopOrder}
use Rattle.rje_requests.specs.declared.order.Order.{Order}
use Rattle.rje_requests.specs.declared.order.Order.TheVariants.{Files, Sockets, Station, Status}
use Rattle.rje_requests.specs.declared.order.MonitorOrder.{MonitorOrder}
use Rattle.rje_requests.specs.declared.order.FileOrder.TheVariants.{Blocks, Cards, Show, Check, Print, Try, Monitor, Take, Mark}
use Rattle.rje_requests.specs.declared.order.SocketOrder.TheVariants.{Loop, Send, Receive, Exchange}
use Rattle.rje_requests.specs.declared.order.MarkOrder.{MarkOrder}
use Rattle.rje_requests.specs.declared.order.PrintOrder.{PrintOrder}
use Rattle.rje_requests.specs.declared.order.ReceiveOrder.{ReceiveOrder}
use Rattle.rje_requests.specs.declared.order.SendOrder.{SendOrder}
use Rattle.rje_requests.specs.declared.order.ShowOrder.{ShowOrder}
use Rattle.rje_requests.specs.declared.order.TakeOrder.{TakeOrder}
use Rattle.rje_requests.specs.declared.order.TryOrder.{TryOrder}
use Rattle.rje_requests.specs.declared.job_numbers.JobNumbers.{JobNumbers}
use Rattle.rje_requests.specs.declared.station.Partner.{Partner}
use Rattle.rje_requests.specs.declared.station.Partner.TheVariants as ways
use Rattle.rje_requests.specs.declared.station.StationOrder.{StationOrder}
use Rattle.rje_requests.specs.declared.status.StatusOrder.{StatusOrder}
use Rattle.rje_cli.specs.declared.words_fault.WordsFault.{WordsFault}
use Rattle.rje_cli.specs.declared.words_fault.WordsFault.TheVariants.{Refused, TwoDevices, BadName, BadNumbers, NoMark, BadAddress, NoMeeting, CallersCalled, BadCallers, BadHost, EveryListens, WaitCalled, TwoRanks, NewAndAppend, SettlesWithAdapter, SettlesForEver, SettlesWithCallers}
use Rattle.rje_cli.specs.Address.{IsAddressOf, IsHostAddress, IsSomeAddress}
use Rattle.rje_cli.specs.CommandLine.{rje_app}
use Rattle.rje_requests.specs.Callers.{AreAddresses}
use Rattle.rje_requests.specs.Choice.{devices_chosen}
use Rattle.rje_requests.specs.Connection.{rank_chosen}
use Rattle.rje_requests.specs.Device.{chosen}
use Rattle.rje_requests.specs.Existing.{existing_chosen}
use Rattle.rje_requests.specs.JobNumbers.{AreJobNumbers}
use Rattle.rje_requests.specs.Mark.{mark_chosen}
use Rattle.rje_requests.specs.Station.{has_callers, station_rank}
use Rattle.rje_cli.specs.Orders.{IsBlocks}

-- the word that was found for a value, and no character where none was
abbrev pub word_in : Text → List Row → Text
word_in id rows = unwrap_or (first_of id rows) []

-- whether an option was given: clap finds `true` where it was
abbrev pub is_on : Text → List Row → Bool
is_on id rows = option_map_or (λ text. bytes_eq text (codes "true")) (one_of id rows) false

-- the device that the options choose
abbrev pub device_in : List Row → Option Device
device_in rows = chosen (is_on (codes "printer") rows) (is_on (codes "punch") rows) (is_on (codes "transparent") rows)

-- the name of a job, by the text that was found for it: blanks where none was, and none where the text isn't one
abbrev pub IsGivenName : Option Text → Option Text → Type 0
IsGivenName None name = name ≡ Some blank_name
IsGivenName (Some text) name = IsNameOf text name

-- the order has the deck, the job file, the device and the name that were found, and adds to the file where that option was
pub record IsCardsOrderOf (rows : List Row) (order : CardsOrder) : Type 0 where
  pub deck : order.deck.now ≡ word_in (codes "DECK") rows
  pub jobs : order.jobs.now ≡ word_in (codes "JOBS") rows
  pub device : device_in rows ≡ Some order.device
  pub name : IsGivenName (first_of (codes "name") rows) (Some order.name)
  pub append : order.append ≡ is_on (codes "append") rows

-- what was found for a name is this word, and not a name
abbrev pub IsBadName : Option Text → Text → Type 0
IsBadName found word = IsGivenName found None × (found ≡ Some word)

-- the options that were found choose two devices, or they choose one and the name, by its word, is not a name
abbrev pub IsCardsFaultOf : List Row → WordsFault → Type 0
IsCardsFaultOf rows TwoDevices = device_in rows ≡ None
IsCardsFaultOf rows (BadName word) = (device_in rows ≢ None) × IsBadName (first_of (codes "name") rows) word.now
IsCardsFaultOf rows _ = ⊥

-- the number of the one job, by the text that was found for it: the decimal number that it writes, which a plus may precede; none where
-- none was found
abbrev pub IsNumberOf : Option Text → Option ℕ → Type 0
IsNumberOf (Some text) job =
    let digits = without_leading_plus text in IsNumeral 10 digits → digits_value 10 digits < 2 ^ 64 → job ≡ Some (digits_value 10 digits)
IsNumberOf None job = job ≡ None

-- the order has the job file and the number of the one job that were found, whatever its device, and shows records where that option was
pub record IsShowOrderOf (rows : List Row) (order : ShowOrder) : Type 0 where
  pub jobs : order.jobs.now ≡ word_in (codes "JOBS") rows
  pub job : IsNumberOf (one_of (codes "job") rows) order.choice.job
  pub devices : order.choice.devices ≡ All
  pub records : order.records ≡ is_on (codes "records") rows

-- the form of cards that the option chooses: each a line of ASCII, or raw
abbrev pub form_chosen : (raw : Bool) → Form
form_chosen raw = if raw then Raw else Ascii

-- the order has the job file and the number of the one job that were found, the devices and the form that the options choose
pub record IsPrintOrderOf (rows : List Row) (order : PrintOrder) : Type 0 where
  pub jobs : order.jobs.now ≡ word_in (codes "JOBS") rows
  pub job : IsNumberOf (one_of (codes "job") rows) order.choice.job
  pub devices : order.choice.devices ≡ devices_chosen (is_on (codes "printer") rows) (is_on (codes "punch") rows)
  pub form : order.form ≡ form_chosen (is_on (codes "raw") rows)

-- the order has the job file and the script that were found
pub record IsTryOrderOf (rows : List Row) (order : TryOrder) : Type 0 where
  pub jobs : order.jobs.now ≡ word_in (codes "JOBS") rows
  pub script : order.script.now ≡ word_in (codes "SCRIPT") rows

-- the order has the capture that was found, or standard input where none was, which is text where that option was given
pub record IsMonitorOrderOf (rows : List Row) (order : MonitorOrder) : Type 0 where
  pub capture : order.capture.now ≡ unwrap_or (first_of (codes "CAPTURE") rows) (codes "-")
  pub hex : order.hex ≡ is_on (codes "hex") rows

-- the numbers of jobs are those of the text that was found, which are numbers from 1, each once
abbrev pub AreNumbersIn : List Row → JobNumbers → Type 0
AreNumbersIn rows numbers = (numbers.text.now ≡ word_in (codes "job") rows) × AreJobNumbers (word_in (codes "job") rows)

-- what was found for them is this word, and they aren't so
abbrev pub IsBadNumbersIn : List Row → WordsFault → Type 0
IsBadNumbersIn rows (BadNumbers word) = (word.now ≡ word_in (codes "job") rows) × ¬ (AreJobNumbers (word_in (codes "job") rows))
IsBadNumbersIn rows _ = ⊥

-- the order has the two job files and the numbers that were found, and adds to the second where that option was
pub record IsTakeOrderOf (rows : List Row) (order : TakeOrder) : Type 0 where
  pub jobs : order.jobs.now ≡ word_in (codes "JOBS") rows
  pub new : order.new.now ≡ word_in (codes "NEW") rows
  pub numbers : AreNumbersIn rows order.numbers
  pub append : order.append ≡ is_on (codes "append") rows

-- the order has the job file and the numbers that were found, and the mark that the options choose
pub record IsMarkOrderOf (rows : List Row) (order : MarkOrder) : Type 0 where
  pub jobs : order.jobs.now ≡ word_in (codes "JOBS") rows
  pub numbers : AreNumbersIn rows order.numbers
  pub mark : mark_chosen (is_on (codes "sent") rows) (is_on (codes "waiting") rows) ≡ Some order.mark

-- what was found is no numbers of jobs; or it is some, and the options choose no mark
abbrev pub IsMarkFaultOf : List Row → WordsFault → Type 0
IsMarkFaultOf rows NoMark =
    AreJobNumbers (word_in (codes "job") rows) × (mark_chosen (is_on (codes "sent") rows) (is_on (codes "waiting") rows) ≡ None)
IsMarkFaultOf rows fault = IsBadNumbersIn rows fault

-- the number of this text, where it is below the bound: the decimal number that it writes, which a plus may precede, and the usual one where
-- no text was found
abbrev pub IsGivenNumber : (bound usual : ℕ) → Option Text → ℕ → Type 0
IsGivenNumber bound usual (Some text) number =
    let digits = without_leading_plus text in IsNumeral 10 digits → digits_value 10 digits < bound → number ≡ digits_value 10 digits
IsGivenNumber bound usual None number = number ≡ usual

-- the time-out of a hearing, in milliseconds, by the text that was found for it
abbrev pub IsTimeoutOf : Option Text → ℕ → Type 0
IsTimeoutOf = IsGivenNumber (2 ^ 16) 3000

-- after how many hearings in a row without a word it leaves, by the text that was found for it
abbrev pub IsPatienceOf : Option Text → ℕ → Type 0
IsPatienceOf = IsGivenNumber (2 ^ 32) 40

-- the order has the job file and the time-out that were found, reports each turn where that option was, and shows nothing of how far it is
-- where that one was
pub record IsLoopOrderOf (rows : List Row) (order : LoopOrder) : Type 0 where
  pub jobs : order.jobs.now ≡ word_in (codes "JOBS") rows
  pub timeout : IsTimeoutOf (one_of (codes "timeout") rows) order.timeout
  pub trace : order.trace ≡ is_on (codes "trace") rows
  pub quiet : order.quiet ≡ is_on (codes "quiet") rows

-- what was found for an address is this word, and not an address
abbrev pub IsBadAddress : (found word : Text) → Type 0
IsBadAddress found word = IsAddressOf found None × (word ≡ found)

-- whose calls are taken, by the text that was found for them: anyone's where none was, and else those from its addresses
abbrev pub IsCallersOf : Option Text → Callers → Type 0
IsCallersOf None Anyone = ⊤
IsCallersOf (Some text) (These addresses) = AreAddresses text × (addresses.now ≡ text)
IsCallersOf _ _ = ⊥

-- what was found for callers is this word, and not addresses
abbrev pub IsBadCallers : Option Text → Text → Type 0
IsBadCallers found word = (found ≡ Some word) × ¬ (AreAddresses word)

-- the other end is called at the address of the one option, or the call of these callers is awaited at that of the other one, by the texts
-- that were found: just one of the two was, and callers go with the second
abbrev pub IsMeetingOf : (to listen from : Option Text) → Meeting → Type 0
IsMeetingOf (Some text) None None (Calls address) = IsAddressOf text (Some address)
IsMeetingOf None (Some text) from (Listens address callers) = IsAddressOf text (Some address) × IsCallersOf from callers
IsMeetingOf _ _ _ _ = ⊥

-- there are two texts for addresses or none, or the one is no address; or it is one, and callers were found where it calls, or bad ones
abbrev pub IsMeetingFault : (to listen from : Option Text) → WordsFault → Type 0
IsMeetingFault None None from NoMeeting = ⊤
IsMeetingFault (Some to) (Some listen) from NoMeeting = ⊤
IsMeetingFault (Some text) None from (BadAddress word) = IsBadAddress text word.now
IsMeetingFault None (Some text) from (BadAddress word) = IsBadAddress text word.now
IsMeetingFault (Some text) None (Some from) CallersCalled = IsSomeAddress text
IsMeetingFault None (Some text) from (BadCallers word) = IsSomeAddress text × IsBadCallers from word.now
IsMeetingFault _ _ _ _ = ⊥

-- this was found for how the connection is come to
abbrev pub IsMeetingIn : List Row → Meeting → Type 0
IsMeetingIn rows = IsMeetingOf (first_of (codes "to") rows) (first_of (codes "listen") rows) (first_of (codes "from") rows)

-- the connection is come to as the options for it say and has the time-out that was found, with a line adapter at the other end, with reports
-- of each turn, and with nothing shown of how far it is, where these options were
pub record IsConnectionOf (rows : List Row) (link : Connection) : Type 0 where
  pub place : IsMeetingIn rows link.place
  pub timeout : IsTimeoutOf (one_of (codes "timeout") rows) link.timeout
  pub adapter : link.adapter ≡ is_on (codes "adapter") rows
  pub trace : link.trace ≡ is_on (codes "trace") rows
  pub quiet : link.quiet ≡ is_on (codes "quiet") rows

-- what was found is no connection
abbrev pub IsConnectionFault : List Row → WordsFault → Type 0
IsConnectionFault rows = IsMeetingFault (first_of (codes "to") rows) (first_of (codes "listen") rows) (first_of (codes "from") rows)

-- the order has the job file and the connection that were found
pub record IsSendOrderOf (rows : List Row) (order : SendOrder) : Type 0 where
  pub jobs : order.jobs.now ≡ word_in (codes "JOBS") rows
  pub connection : IsConnectionOf rows order.connection

-- what the options choose for the jobs that the file which is received into holds already
abbrev pub existing_in : List Row → Option Existing
existing_in rows = existing_chosen (is_on (codes "new") rows) (is_on (codes "append") rows)

-- it is received into the job file that was found for this word, and the options choose this for the jobs that it holds already
pub record IsDestinationOf (id : Text) (rows : List Row) (into : Destination) : Type 0 where
  pub jobs : into.jobs.now ≡ word_in id rows
  pub existing : existing_in rows ≡ Some into.existing

-- whether a call that brings nothing is followed by the next, where that option was given: an end that calls can't be asked for it
abbrev pub waits_in : Meeting → List Row → Option Bool
waits_in (Calls address) rows = if is_on (codes "wait") rows then None else Some false
waits_in (Listens address callers) rows = Some (is_on (codes "wait") rows)

-- the order has the job file with the choice for its jobs, the connection and the patience that were found, and waits where that option was
-- given
pub record IsReceiveOrderOf (rows : List Row) (order : ReceiveOrder) : Type 0 where
  pub into : IsDestinationOf (codes "JOBS") rows order.into
  pub connection : IsConnectionOf rows order.connection
  pub waits : waits_in order.connection.place rows ≡ Some order.waits
  pub patience : IsPatienceOf (one_of (codes "patience") rows) order.patience

-- an end that calls was to wait for calls; or not, but both options for the jobs of the file which is received into were given
abbrev pub IsReceivingFault : Meeting → List Row → WordsFault → Type 0
IsReceivingFault place rows WaitCalled = waits_in place rows ≡ None
IsReceivingFault place rows NewAndAppend = (waits_in place rows ≢ None) × (existing_in rows ≡ None)
IsReceivingFault place rows _ = ⊥

-- what was found is no connection, or it is one and there is a fault in what else was chosen
abbrev pub IsReceiveFaultOf : List Row → WordsFault → Type 0
IsReceiveFaultOf rows fault = IsConnectionFault rows fault ⊎ ((link : Connection) × IsConnectionOf rows link × IsReceivingFault link.place rows fault)

-- the rank that the options choose for this end of a connection that is come to so
abbrev pub rank_in : Meeting → List Row → Option Rank
rank_in place rows = rank_chosen place (is_on (codes "primary") rows) (is_on (codes "secondary") rows)

-- the order has the two job files, the second with the choice for its jobs, the connection and the patience that were found, and the rank
-- that the options choose
pub record IsExchangeOrderOf (rows : List Row) (order : ExchangeOrder) : Type 0 where
  pub send : order.send.now ≡ word_in (codes "SEND") rows
  pub received : IsDestinationOf (codes "RECEIVED") rows order.received
  pub connection : IsConnectionOf rows order.connection
  pub rank : rank_in order.connection.place rows ≡ Some order.rank
  pub patience : IsPatienceOf (one_of (codes "patience") rows) order.patience

-- both options for a rank were given; or not both, but both for the jobs of the file which is received into were
abbrev pub IsChoiceFault : Meeting → List Row → WordsFault → Type 0
IsChoiceFault place rows TwoRanks = rank_in place rows ≡ None
IsChoiceFault place rows NewAndAppend = (rank_in place rows ≢ None) × (existing_in rows ≡ None)
IsChoiceFault place rows _ = ⊥

-- what was found is no connection, or it is one and there is a fault in what else was chosen
abbrev pub IsExchangeFaultOf : List Row → WordsFault → Type 0
IsExchangeFaultOf rows fault =
    IsConnectionFault rows fault ⊎ ((link : Connection) × IsConnectionOf rows link × IsChoiceFault link.place rows fault)

-- what was found for where the other end is called is this word, and no host with a port
abbrev pub IsBadHost : (found word : Text) → Type 0
IsBadHost found word = ¬ (IsHostAddress found) × (word ≡ found)

-- a station calls the other end at the host and port of the one option, or awaits the calls of these callers at the address of the other
-- one, by the texts that were found: just one of the two was, and callers go with the second
abbrev pub IsPartnerOf : (to listen from : Option Text) → Partner → Type 0
IsPartnerOf (Some text) None None (ways.Calls host) = IsHostAddress text × (host.now ≡ text)
IsPartnerOf None (Some text) from (ways.Listens address callers) = IsAddressOf text (Some address) × IsCallersOf from callers
IsPartnerOf _ _ _ _ = ⊥

-- both texts were found or none, or the one is no host with a port, or no address; or it is one, and callers were found where it calls, or
-- bad ones
abbrev pub IsPartnerFault : (to listen from : Option Text) → WordsFault → Type 0
IsPartnerFault None None from NoMeeting = ⊤
IsPartnerFault (Some to) (Some listen) from NoMeeting = ⊤
IsPartnerFault (Some text) None from (BadHost word) = IsBadHost text word.now
IsPartnerFault None (Some text) from (BadAddress word) = IsBadAddress text word.now
IsPartnerFault (Some text) None (Some from) CallersCalled = IsHostAddress text
IsPartnerFault None (Some text) from (BadCallers word) = IsSomeAddress text × IsBadCallers from word.now
IsPartnerFault _ _ _ _ = ⊥

-- this was found for how a station comes to its connections
abbrev pub IsPartnerIn : List Row → Partner → Type 0
IsPartnerIn rows = IsPartnerOf (first_of (codes "to") rows) (first_of (codes "listen") rows) (first_of (codes "from") rows)

-- what was found is no way to come to them
abbrev pub IsPartnerFaultIn : List Row → WordsFault → Type 0
IsPartnerFaultIn rows = IsPartnerFault (first_of (codes "to") rows) (first_of (codes "listen") rows) (first_of (codes "from") rows)

-- a station that calls may be given a time between its calls, and one that listens none
abbrev pub every_goes : Partner → List Row → Bool
every_goes (ways.Calls host) rows = true
every_goes (ways.Listens address callers) rows = is_none (first_of (codes "every") rows)

-- how long a station waits before its next call, in seconds, by the text that was found for it
abbrev pub IsEveryOf : Option Text → ℕ → Type 0
IsEveryOf = IsGivenNumber (2 ^ 32) 60

-- how long another end has the line while no job comes whole and none is counted, in seconds, by the text that was found for it
abbrev pub IsProgressOf : Option Text → ℕ → Type 0
IsProgressOf = IsGivenNumber (2 ^ 32) 21600

-- the rank that the options choose for a station that comes to its connections so
abbrev pub station_rank_in : Partner → List Row → Option Rank
station_rank_in partner rows = station_rank partner (is_on (codes "primary") rows) (is_on (codes "secondary") rows)

-- Doubt can be settled by receipts with a partner that is no line adapter, with patience that ends, and where no calls of more than one address
-- are taken.
pub record CanSettle (partner : Partner) (adapter : Bool) (patience : ℕ) : Type 0 where
  pub no_adapter : adapter ≡ false
  pub ends : patience ≢ 0
  pub one : has_callers partner ≡ false

-- why it can't be
abbrev pub IsSettlingFault : Partner → (adapter : Bool) → (patience : ℕ) → WordsFault → Type 0
IsSettlingFault partner adapter patience SettlesWithAdapter = adapter ≡ true
IsSettlingFault partner adapter patience SettlesForEver = (adapter ≡ false) × (patience ≡ 0)
IsSettlingFault partner adapter patience SettlesWithCallers = (adapter ≡ false) × (patience ≢ 0) × (has_callers partner ≡ true)
IsSettlingFault partner adapter patience _ = ⊥

-- the order has the folder, the way to its connections, the time-out, the patience, the time between calls and the time without a job that
-- were found, the rank that the options choose, a line adapter at the other end, an end after one connection, doubt settled by receipts, and
-- nothing shown of how far it is, where these options were
pub record IsStationOrderOf (rows : List Row) (order : StationOrder) : Type 0 where
  pub folder : order.folder.now ≡ word_in (codes "FOLDER") rows
  pub partner : IsPartnerIn rows order.partner
  pub timeout : IsTimeoutOf (one_of (codes "timeout") rows) order.timeout
  pub patience : IsPatienceOf (one_of (codes "patience") rows) order.patience
  pub rank : station_rank_in order.partner rows ≡ Some order.rank
  pub adapter : order.adapter ≡ is_on (codes "adapter") rows
  pub goes : every_goes order.partner rows ≡ true
  pub every : IsEveryOf (one_of (codes "every") rows) order.every
  pub progress : IsProgressOf (one_of (codes "progress") rows) order.progress
  pub once : order.once ≡ is_on (codes "once") rows
  pub settle : order.settle ≡ is_on (codes "settle") rows
  pub settles : order.settle ≡ true → CanSettle order.partner order.adapter order.patience
  pub quiet : order.quiet ≡ is_on (codes "quiet") rows

-- a station that listens was given a time between calls; or not, but both options for a rank were given
abbrev pub IsStandingFault : Partner → List Row → WordsFault → Type 0
IsStandingFault partner rows EveryListens = every_goes partner rows ≡ false
IsStandingFault partner rows TwoRanks = (every_goes partner rows ≡ true) × (station_rank_in partner rows ≡ None)
IsStandingFault partner rows _ = ⊥

-- neither, but doubt was to be settled by receipts, which can't be
abbrev pub IsSettlingFaultIn : Partner → List Row → WordsFault → Type 0
IsSettlingFaultIn partner rows fault =
    (every_goes partner rows ≡ true) × (station_rank_in partner rows ≢ None) × (is_on (codes "settle") rows ≡ true)
    × ((patience : ℕ) × IsPatienceOf (one_of (codes "patience") rows) patience × IsSettlingFault partner (is_on (codes "adapter") rows) patience fault)

-- what was found is no way to connections, or it is one and there is a fault in what else was chosen
abbrev pub IsStationFaultOf : List Row → WordsFault → Type 0
IsStationFaultOf rows fault =
    IsPartnerFaultIn rows fault
    ⊎ ((partner : Partner) × IsPartnerIn rows partner × (IsStandingFault partner rows fault ⊎ IsSettlingFaultIn partner rows fault))

-- the order has the folder that was found, and is told as JSON where that option was given
pub record IsStatusOrderOf (rows : List Row) (order : StatusOrder) : Type 0 where
  pub folder : order.folder.now ≡ word_in (codes "FOLDER") rows
  pub json : order.json ≡ is_on (codes "json") rows

-- the order is that of the command of this name, with the values that were found
abbrev pub IsOrderOf : Text → List Row → Order → Type 0
IsOrderOf name rows (Files (Blocks deck)) = (name ≡ codes "blocks") × (deck.now ≡ word_in (codes "DECK") rows)
IsOrderOf name rows (Files (Cards order)) = (name ≡ codes "cards") × IsCardsOrderOf rows order
IsOrderOf name rows (Files (Show order)) = (name ≡ codes "show") × IsShowOrderOf rows order
IsOrderOf name rows (Files (Check jobs)) = (name ≡ codes "check") × (jobs.now ≡ word_in (codes "JOBS") rows)
IsOrderOf name rows (Files (Print order)) = (name ≡ codes "print") × IsPrintOrderOf rows order
IsOrderOf name rows (Files (Try order)) = (name ≡ codes "try") × IsTryOrderOf rows order
IsOrderOf name rows (Files (Monitor order)) = (name ≡ codes "monitor") × IsMonitorOrderOf rows order
IsOrderOf name rows (Files (Take order)) = (name ≡ codes "take") × IsTakeOrderOf rows order
IsOrderOf name rows (Files (Mark order)) = (name ≡ codes "mark") × IsMarkOrderOf rows order
IsOrderOf name rows (Sockets (Loop order)) = (name ≡ codes "loop") × IsLoopOrderOf rows order
IsOrderOf name rows (Sockets (Send order)) = (name ≡ codes "send") × IsSendOrderOf rows order
IsOrderOf name rows (Sockets (Receive order)) = (name ≡ codes "receive") × IsReceiveOrderOf rows order
IsOrderOf name rows (Sockets (Exchange order)) = (name ≡ codes "exchange") × IsExchangeOrderOf rows order
IsOrderOf name rows (Station order) = (name ≡ codes "station") × IsStationOrderOf rows order
IsOrderOf name rows (Status order) = (name ≡ codes "status") × IsStatusOrderOf rows order

-- the values that were found for the command of this name can't be carried out
abbrev pub IsFaultOf : Text → List Row → WordsFault → Type 0
IsFaultOf name rows fault =
    ((name ≡ codes "cards") × IsCardsFaultOf rows fault)
    ⊎ (((name ≡ codes "send") × IsConnectionFault rows fault)
    ⊎ (((name ≡ codes "receive") × IsReceiveFaultOf rows fault)
    ⊎ (((name ≡ codes "exchange") × IsExchangeFaultOf rows fault) ⊎ (((name ≡ codes "station") × IsStationFaultOf rows fault)
    ⊎ (((name ≡ codes "take") × IsBadNumbersIn rows fault) ⊎ ((name ≡ codes "mark") × IsMarkFaultOf rows fault))))))

-- the words are taken, and what is found of the command that they name is this
abbrev pub IsFound : List Text → (Text → List Row → Type 0) → Type 0
IsFound words Found = (fault_of rje_app words ≡ []) × IsSomeAnd (subcommand_of rje_app words) (λ met. Found met.0 met.1)

-- the words ask for this order; no words ask for the blocks of the deck on standard input
abbrev pub AsksFor : List Text → Order → Type 0
AsksFor [] order = IsBlocks (codes "-") order
AsksFor (word ∷ words) order = IsFound (word ∷ words) (λ name rows. IsOrderOf name rows order)

-- this is why the words ask for nothing that can be done: clap refuses them, memory ran out, or the values that it finds can't be carried out
abbrev pub IsWordsFault : List Text → WordsFault → Type 0
IsWordsFault [] fault = ⊥
IsWordsFault words (Refused error) = HasKind (fault_of rje_app words) error
IsWordsFault words fault = IsFound words (λ name rows. IsFaultOf name rows fault)
