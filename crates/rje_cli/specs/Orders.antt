-- What an order is for.
use Rattle.std.specs.Prelude.{◌≡◌, Bool, None}
use Rattle.clap.specs.Words.{Text}
use Rattle.rje_jobs.specs.declared.punch.Form.{Form}
use Rattle.rje_requests.specs.declared.choice.Choice.{Choice}
use Rattle.rje_requests.specs.declared.choice.Devices.{Devices}
use Rattle.rje_requests.specs.declared.choice.Devices.TheVariants.{All}
use Rattle.rje_requests.specs.declared.device.Device.{Device}
use Rattle.rje_requests.specs.declared.order.Order.{Order}
use Rattle.rje_requests.specs.declared.order.Order.TheVariants.{Files, Status}
use Rattle.rje_requests.specs.declared.order.FileOrder.TheVariants.{Blocks, Cards, Show, Check, Print, Try, Monitor}

-- the order is for the blocks of this deck
abbrev pub IsBlocks : Text → Order → Type 0
IsBlocks deck (Files (Blocks named)) = named.now ≡ deck
IsBlocks deck _ = ⊥

-- the order is for a file of this name, of the job of this deck for this device, with this name; it says whether the job is added to those
-- of the file
abbrev pub IsCards : Text → Text → Device → Text → Bool → Order → Type 0
IsCards deck jobs device name adds (Files (Cards order)) =
    (order.deck.now ≡ deck) × (order.jobs.now ≡ jobs) × (order.device ≡ device) × (order.name ≡ name) × (order.append ≡ adds)
IsCards deck jobs device name adds _ = ⊥

-- the jobs for these devices are chosen, whatever their number
abbrev pub IsAnyJob : Devices → Choice → Type 0
IsAnyJob devices choice = (choice.job ≡ None) × (choice.devices ≡ devices)

-- the order is to show all jobs of this file, and says whether their records are shown
abbrev pub IsShow : Text → (records : Bool) → Order → Type 0
IsShow jobs records (Files (Show order)) = (order.jobs.now ≡ jobs) × IsAnyJob All order.choice × (order.records ≡ records)
IsShow jobs records _ = ⊥

-- the order is to check the jobs of this file
abbrev pub IsCheck : Text → Order → Type 0
IsCheck jobs (Files (Check named)) = named.now ≡ jobs
IsCheck jobs _ = ⊥

-- the order is to print the jobs of this file for these devices, with cards in this form
abbrev pub IsPrint : Text → Devices → Form → Order → Type 0
IsPrint jobs devices form (Files (Print order)) = (order.jobs.now ≡ jobs) × IsAnyJob devices order.choice × (order.form ≡ form)
IsPrint jobs devices form _ = ⊥

-- the order is to try the jobs of this file over this script
abbrev pub IsTry : Text → Text → Order → Type 0
IsTry jobs script (Files (Try order)) = (order.jobs.now ≡ jobs) × (order.script.now ≡ script)
IsTry jobs script _ = ⊥

-- the order is to monitor this capture, and says whether it is text
abbrev pub IsMonitor : Text → (hex : Bool) → Order → Type 0
IsMonitor capture hex (Files (Monitor order)) = (order.capture.now ≡ capture) × (order.hex ≡ hex)
IsMonitor capture hex _ = ⊥

-- the order is for a look at this folder, and says whether it is told as JSON
abbrev pub IsStatus : Text → (json : Bool) → Order → Type 0
IsStatus folder json (Status order) = (order.folder.now ≡ folder) × (order.json ≡ json)
IsStatus folder json _ = ⊥
