-- The plain listener on lists: a device of the proofs; no promise rests on this file.
-- What a whole list of bytes does.
use Rattle.std.specs.Prelude.{ℕ, List, [], ◌∷◌}
use Rattle.bsc_frame.specs.declared.frame.Frame.{Frame}
use Rattle.bsc_frame.specs.Inside.Listening.HeardSoFar.{HeardSoFar, On, Got, next}

-- what a whole list of bytes does: what has come then, or the first frame and the bytes after it
pub data Run : Type 0 where
  Waits : HeardSoFar → Run
  Hears : Frame → List ℕ → Run

-- what a whole list of bytes does where this has come
abbrev pub run : HeardSoFar → List ℕ → Run
run so_far [] = Waits so_far
run so_far (byte ∷ bytes) = elim (next so_far byte) [ On more ↦ run more bytes | Got f ↦ Hears f bytes ]
