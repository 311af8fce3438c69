-- The devices that a deck's job may be for, as the words of `cards` choose them (own profile).
use Rattle.std.specs.Prelude.{Bool, true, false, Option, Some, None}
use Rattle.rje_text.specs.declared.mode.Mode.{Mode}
use Rattle.rje_text.specs.declared.select.Select.{Select}
use Rattle.rje_requests.specs.declared.device.Device.{Device}

-- the selection of the job
abbrev pub select_of : Device → Select
select_of Device.Default = Select.Unset
select_of Device.Printer = Select.Printer
select_of Device.Punch = Select.Punch
select_of Device.Transparent = Select.Punch

-- how its texts are written
abbrev pub writing : Device → Mode
writing Device.Default = Mode.Normal
writing Device.Printer = Mode.Normal
writing Device.Punch = Mode.Normal
writing Device.Transparent = Mode.Transparent

-- the device that the options for the printer, the punch and transparent cards choose: none where there are two
abbrev pub chosen : Bool → Bool → Bool → Option Device
chosen false false false = Some Device.Default
chosen true false false = Some Device.Printer
chosen false true false = Some Device.Punch
chosen false false true = Some Device.Transparent
chosen _ _ _ = None
