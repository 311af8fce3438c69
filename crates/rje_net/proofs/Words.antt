-- What is heard of bytes: a frame in front of them is heard; and it is one thing, so they have a word just where it is one.
use Rattle.std.proofs.Common.{◌≡◌, ℕ, List, true, sym, ap, ◌∙◌}
use Rattle.std.specs.Prelude.{take, drop}
use Rattle.std.proofs.lemmas.List.{take-append-drop}
use Rattle.bsc_frame.specs.declared.frame.Frame.{Frame}
use Rattle.bsc_frame.specs.declared.heard.Heard.{Heard}
use Rattle.bsc_frame.specs.Heard.{IsHeard}
use Rattle.bsc_frame.specs.Laws.{OneHearing}
use Rattle.bsc_frame.specs.Transmission.{Transmission}
use Rattle.rje_net.specs.Words.{HasWord, is_word}

pub frame_heard : (bytes : List ℕ) (f : Frame) (used : ℕ) → Transmission f (take used bytes) → IsHeard bytes (Heard.Frame f)
frame_heard bytes f used h = record { front = take used bytes; rest = drop used bytes; holds = h; whole = sym (take-append-drop used bytes) }

pub has_word : (bytes : List ℕ) (heard : Heard) → IsHeard bytes heard → is_word heard ≡ true → HasWord bytes
has_word bytes heard h word = (heard, h, word)

pub lacks_word : (bytes : List ℕ) (heard : Heard) → OneHearing → IsHeard bytes heard → HasWord bytes → is_word heard ≡ true
lacks_word bytes heard one h (other, k, word) = ap is_word (one bytes heard other h k) ∙ word
