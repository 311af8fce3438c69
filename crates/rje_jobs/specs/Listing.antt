-- The listing of a job: its lines, each with what the carriage does after it (own profile).
use Rattle.std.specs.Prelude.{ℕ, List, [], ◌∷◌, ◌++◌, codes}
use Rattle.std.specs.List.{flat_map}
use Rattle.rje_text.specs.declared.action.Action.{Action}
use Rattle.rje_text.specs.declared.action.Action.TheVariants.{Plain, Single, Double, Triple, Suppress, Ch1, Ch2, Ch3, Ch4, Ch5, Ch6, Ch7, Ch8, Ch9, Ch10, Ch11, Ch12}
use Rattle.rje_text.specs.declared.record.Record.{Record}
use Rattle.rje_jobs.specs.declared.job.Job.{Job}
use Rattle.rje_jobs.specs.Ascii.{ascii}

-- a skip to this channel: `[channel `, its number and `]`, in a line of its own
abbrev pub channel : List ℕ → List ℕ
channel number = 0x0A ∷ codes "[channel " ++ (number ++ (codes "]" ++ 0x0A ∷ []))

-- what is written after a line: line feeds for spaces, a carriage return for none, a form feed for channel 1
abbrev pub carriage : Action → List ℕ
carriage Plain = 0x0A ∷ []
carriage Single = 0x0A ∷ []
carriage Double = 0x0A ∷ 0x0A ∷ []
carriage Triple = 0x0A ∷ 0x0A ∷ 0x0A ∷ []
carriage Suppress = 0x0D ∷ []
carriage Ch1 = 0x0A ∷ 0x0C ∷ []
carriage Ch2 = channel (codes "2")
carriage Ch3 = channel (codes "3")
carriage Ch4 = channel (codes "4")
carriage Ch5 = channel (codes "5")
carriage Ch6 = channel (codes "6")
carriage Ch7 = channel (codes "7")
carriage Ch8 = channel (codes "8")
carriage Ch9 = channel (codes "9")
carriage Ch10 = channel (codes "10")
carriage Ch11 = channel (codes "11")
carriage Ch12 = channel (codes "12")

-- a record's line: its data in ASCII, and then its carriage control
abbrev pub line : Record → List ℕ
line r = ascii r.bytes.items ++ carriage r.action

-- the listing of a job: the lines of its records, whether it is whole or cut
abbrev pub listing : Job → List ℕ
listing job = flat_map line job.records
