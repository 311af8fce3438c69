-- What is due is one transmission.
use Rattle.std.proofs.Common.{◌≡◌, ◌≢◌, ℕ, refl}
use Rattle.bsc_link.specs.declared.say.Say.{Say}
use Rattle.rje_station.specs.Line.{one_more}
use Rattle.rje_station.specs.Station.{with_said}

pub said_once : (say : Say) (n : ℕ) → say ≢ Say.Nothing → one_more n ≡ with_said say n
said_once Say.Nothing n some = absurd (some refl)
said_once _ n some = refl
