-- What a station is given, in bytes of the line.
use Rattle.std.specs.Prelude.{◌≡◌, ℕ, List, []}
use Rattle.bsc_frame.specs.declared.frame.Frame.{Frame}
use Rattle.bsc_frame.specs.declared.frame.Frame.TheVariants as frame
use Rattle.bsc_frame.specs.declared.heard.Heard.{Heard}
use Rattle.bsc_frame.specs.declared.heard.Heard.TheVariants as heard
use Rattle.bsc_frame.specs.Heard.{IsHeard}
use Rattle.bsc_link.specs.declared.reply.Reply.{Reply}
use Rattle.rje_answers.specs.declared.given.Given.{Given}
use Rattle.rje_answers.specs.declared.rest.Rest.{Rest}

-- the frame of an answer
abbrev pub frame_of : Reply → Frame
frame_of Reply.Ack0 = frame.Ack0
frame_of Reply.Ack1 = frame.Ack1
frame_of Reply.Nak = frame.Nak
frame_of Reply.Wack = frame.Wack
frame_of Reply.Rvi = frame.Rvi

-- what is heard where no answer came
abbrev pub heard_of : Rest → Heard
heard_of Rest.Quiet = heard.Quiet
heard_of Rest.Noise = heard.Noise
heard_of Rest.Bad = heard.Bad

-- a control sequence, whose bytes depend on no text
abbrev pub IsControl : Frame → Type 0
IsControl (frame.Block block) = ⊥
IsControl frame.Abort = ⊥
IsControl _ = Unit {0}

-- by these bytes a station hears what it is given
abbrev pub Spells : Given Reply → List ℕ → Type 0
Spells Given.Nothing bytes = bytes ≡ []
Spells (Given.Answer reply) bytes = IsHeard bytes (heard.Frame (frame_of reply))
Spells Given.Bid bytes = IsHeard bytes (heard.Frame frame.Enq)
Spells Given.End bytes = IsHeard bytes (heard.Frame frame.Eot)
Spells (Given.InVain rest) bytes = IsHeard bytes (heard_of rest)
