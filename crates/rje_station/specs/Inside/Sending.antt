-- What the fields of a sending station mean. No promise rests on this file.
use Rattle.std.specs.Prelude.{◌≡◌, ◌≢◌, false, []}
use Rattle.bsc_link.specs.declared.say.Say.TheVariants as Say
use Rattle.bsc_link.specs.Sender.{say_in}
use Rattle.rje_station.specs.declared.sending.SendingStation.TheInside.{Inside}
use Rattle.rje_station.specs.Sending.{Sending}

-- what the fields stand for
abbrev pub sending_in : Inside → Sending
sending_in a = record {
  jobs = a.blocks.jobs;
  rest = a.blocks.rest;
  counted = a.blocks.counted;
  core = a.core;
  over = a.over;
  trace = a.trace;
}

-- while it isn't over something is due, and where no block is outstanding EOT is
pub record IsSending (a : Inside) : Type 0 where
  pub ready : a.over ≡ false → a.blocks.rest ≡ [] → say_in a.core.place ≡ Say.End
  pub live : a.over ≡ false → say_in a.core.place ≢ Say.Nothing
