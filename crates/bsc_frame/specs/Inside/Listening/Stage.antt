-- The plain listener on lists: a device of the proofs; no promise rests on this file.
-- What the listener's fields mean in its words.
use Rattle.std.specs.Prelude.{ℕ, Option, Some, None, List}
use Rattle.bsc_check.specs.Check.{IsCheckOf}
use Rattle.bsc_frame.specs.declared.frame_kind.FrameKind.{FrameKind}
use Rattle.bsc_frame.specs.FrameKind.{frame_of}
use Rattle.bsc_frame.specs.declared.listener.stage.Stage.{Stage}
use Rattle.bsc_frame.specs.declared.listener.stage.Stage.TheVariants as stage
use Rattle.bsc_frame.specs.Body.{covered}
use Rattle.bsc_frame.specs.Inside.Listening.HeardSoFar.{HeardSoFar, Pads, OneSyn, Syns, Dle, Text, TextDle, AwaitsCheck, AwaitsSecondCheck, BadText, OnlyPads, OnlyNoise, Progress, On, Got, block_of}

-- what has come at a stage, with these data bytes
abbrev pub so_far_of : Stage → List ℕ → HeardSoFar
so_far_of stage.Pads text = Pads
so_far_of stage.OneSyn text = OneSyn
so_far_of stage.Syns text = Syns
so_far_of stage.Dle text = Dle
so_far_of (stage.Text transparent) text = Text transparent text
so_far_of stage.TextDle text = TextDle text
so_far_of (stage.AwaitsCheck transparent closing) text = AwaitsCheck (block_of transparent text closing)
so_far_of (stage.AwaitsSecondCheck transparent closing first) text = AwaitsSecondCheck (block_of transparent text closing) first
so_far_of stage.BadText text = BadText
so_far_of stage.OnlyPads text = OnlyPads
so_far_of stage.OnlyNoise text = OnlyNoise

-- a frame of this kind is whole, or what has come, with these data bytes
abbrev pub progress_of : Option FrameKind → Stage → List ℕ → Progress
progress_of None reached text = On (so_far_of reached text)
progress_of (Some whole) reached text = Got (frame_of whole text)

-- the running check is the check of what it has to cover at this stage
abbrev pub CheckRuns : Stage → List ℕ → ℕ → Type 0
CheckRuns (stage.Text transparent) text check = IsCheckOf check text
CheckRuns stage.TextDle text check = IsCheckOf check text
CheckRuns (stage.AwaitsCheck transparent closing) text check = IsCheckOf check (covered text closing)
CheckRuns (stage.AwaitsSecondCheck transparent closing first) text check = IsCheckOf check (covered text closing)
CheckRuns stage.Pads text check = Unit {0}
CheckRuns stage.OneSyn text check = Unit {0}
CheckRuns stage.Syns text check = Unit {0}
CheckRuns stage.Dle text check = Unit {0}
CheckRuns stage.BadText text check = Unit {0}
CheckRuns stage.OnlyPads text check = Unit {0}
CheckRuns stage.OnlyNoise text check = Unit {0}
