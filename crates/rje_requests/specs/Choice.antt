-- Which jobs of a job file `print` and `show` are for, as their words choose them (own profile).
use Rattle.std.specs.Prelude.{ℕ, ◌==◌, ◌&&◌, Bool, true, false}
use Rattle.std.specs.Option.{option_map_or}
use Rattle.rje_text.specs.declared.select.Select.{Select}
use Rattle.rje_requests.specs.declared.choice.Choice.{Choice}
use Rattle.rje_requests.specs.declared.choice.Devices.{Devices}

-- the devices that the options for the printer and for the punch choose: all where both are given, or neither
abbrev pub devices_chosen : (printer punch : Bool) → Devices
devices_chosen true false = Devices.Printer
devices_chosen false true = Devices.Punch
devices_chosen true true = Devices.All
devices_chosen false false = Devices.All

-- a job of this selection is for one of these devices: the default device prints
abbrev pub is_of : Devices → Select → Bool
is_of Devices.All select = true
is_of Devices.Printer Select.Punch = false
is_of Devices.Printer Select.Printer = true
is_of Devices.Printer Select.Unset = true
is_of Devices.Punch Select.Punch = true
is_of Devices.Punch Select.Printer = false
is_of Devices.Punch Select.Unset = false

-- the job of this number, from 1, and this selection is chosen: it is the one job, where one is named, and for one of the devices
abbrev pub takes : Choice → ℕ → Select → Bool
takes choice number select = option_map_or (λ job. job == number) choice.job true && is_of choice.devices select
