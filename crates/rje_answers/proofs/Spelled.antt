-- By what is written for it a station hears what it is given.
use Rattle.std.proofs.Common.{refl, ℕ, List, [], ◌∷◌, false}
use Rattle.bsc_codes.specs.Bytes.{PAD, STX, SYN}
use Rattle.bsc_frame.specs.declared.frame.Frame.{Frame}
use Rattle.bsc_frame.specs.declared.heard.Heard.TheVariants as heard
use Rattle.bsc_frame.specs.Heard.{IsHeard}
use Rattle.bsc_frame.specs.Inside.Listening.HeardSoFar.{Pads, Text}
use Rattle.bsc_frame.specs.Written.{Written}
use Rattle.bsc_frame.proofs.Quiet.{heard_lem}
use Rattle.bsc_frame.proofs.Sending.{written_lem}

pub written_heard : (f : Frame) (bytes : List ℕ) → Written f bytes → IsHeard bytes (heard.Frame f)
written_heard f bytes written =
    let parts = written_lem f bytes written in
    record { front = parts.0; rest = PAD ∷ []; holds = parts.1; whole = parts.2 }

pub start_is_bad : IsHeard (SYN ∷ SYN ∷ STX ∷ []) heard.Bad
start_is_bad = heard_lem _ (Text false []) refl

pub nothing_is_quiet : IsHeard [] heard.Quiet
nothing_is_quiet = heard_lem _ Pads refl
