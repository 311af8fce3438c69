-- What an ear heard, of which a block's text is kept apart. Private functions cite this; no promise rests on it.
use Rattle.std.specs.Prelude.{ℕ, List}
use Rattle.bsc_frame.specs.declared.heard.Heard.{Heard}
use Rattle.bsc_frame.specs.declared.heard.Heard.TheVariants as heard
use Rattle.bsc_frame.specs.FrameKind.{frame_of}
use Rattle.rje_station.specs.declared.heard_kind.HeardKind.{HeardKind}
use Rattle.rje_station.specs.declared.heard_kind.HeardKind.TheVariants as kind

-- what was heard, with this text where it is a block
abbrev pub heard_of : HeardKind → List ℕ → Heard
heard_of (kind.Frame whole) text = heard.Frame (frame_of whole text)
heard_of kind.Bad text = heard.Bad
heard_of kind.Noise text = heard.Noise
heard_of kind.Quiet text = heard.Quiet
