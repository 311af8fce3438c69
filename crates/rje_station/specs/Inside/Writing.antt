-- Frames that a station writes. Private functions cite this; no promise rests on it.
use Rattle.bsc_frame.specs.declared.frame.Frame.{Frame}
use Rattle.bsc_frame.specs.declared.frame.Frame.TheVariants as frame
use Rattle.rje_text.specs.NextBlock.{IsSendable}

-- no Abort, and of blocks one whose text can be sent
abbrev pub CanBeWritten : Frame → Type 0
CanBeWritten frame.Abort = ⊥
CanBeWritten (frame.Block b) = IsSendable b
CanBeWritten _ = Unit {0}
