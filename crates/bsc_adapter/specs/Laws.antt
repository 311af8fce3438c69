-- What holds of what is said to an adapter, and of what is made of what comes from it.
use Rattle.std.specs.Prelude.{ℕ, ◌≡◌, ◌↔◌, List, [], ◌∷◌, ◌++◌}
use Rattle.std.specs.List.{AllByRecursion}
use Rattle.bsc_codes.specs.Bytes.{SYN, PAD}
use Rattle.bsc_frame.specs.declared.frame.Frame.{Frame}
use Rattle.bsc_frame.specs.declared.heard.Heard.{Heard}
use Rattle.bsc_frame.specs.Transmission.{Transmission}
use Rattle.bsc_frame.specs.Heard.{IsPadOrSyn, IsHeard}
use Rattle.bsc_frame.specs.Written.{Written}
use Rattle.bsc_adapter.specs.declared.from_adapter.FromAdapter.{FromAdapter}
use Rattle.bsc_adapter.specs.Form.{check_bytes, AdapterForm, IsSaid}
use Rattle.bsc_adapter.specs.Heard.{IsHeardFrom}
use Rattle.bsc_adapter.specs.Made.{Makes, HasMade}

-- what is said of a frame that is written is an adapter's form of it
abbrev pub SaidIsForm : Type 0
SaidIsForm = (f : Frame) (bytes said : List ℕ) → Written f bytes → IsSaid f said → AdapterForm f said

-- first two SYN, this body of the frame and the check were made, which are a transmission of it; then it is as if the rest alone had come
pub record IsMadeFirst (adapter : FromAdapter) (f : Frame) (body rest out : List ℕ) : Type 0 where
  pub more : List ℕ
  pub is_transmission : Transmission f (SYN ∷ SYN ∷ (body ++ check_bytes f))
  pub of_rest : HasMade adapter rest more
  pub whole : out ≡ SYN ∷ SYN ∷ ((body ++ check_bytes f) ++ more)

-- of an adapter's form of a frame a transmission of that frame is made, with the body as it came, whatever comes behind the form
abbrev pub FormIsMade : Type 0
FormIsMade =
    (adapter : FromAdapter) (f : Frame) (form rest out : List ℕ) (h : AdapterForm f form) → HasMade adapter (form ++ rest) out
    → IsMadeFirst adapter f h.body rest out

-- of what is said of a frame just that is made which was written, but for the pad
abbrev pub SaidComesBack : Type 0
SaidComesBack = (f : Frame) (bytes said out : List ℕ) → Written f bytes → IsSaid f said → Makes said out → bytes ≡ out ++ PAD ∷ []

-- what a listener hears of what was made is what is heard of the bytes that came, and nothing else
abbrev pub SameIsHeard : Type 0
SameIsHeard = (taken out : List ℕ) (h : Heard) → Makes taken out → IsHeard out h ↔ IsHeardFrom taken h

-- of any bytes that came at most one thing is heard
abbrev pub OneHearing : Type 0
OneHearing = (bytes : List ℕ) (h k : Heard) → IsHeardFrom bytes h → IsHeardFrom bytes k → h ≡ k

-- of any bytes that came something is heard
abbrev pub EveryHearing : Type 0
EveryHearing = (bytes : List ℕ) → (h : Heard) × IsHeardFrom bytes h

-- of the same bytes the same is made, however they were cut
abbrev pub OneMaking : Type 0
OneMaking = (taken out more : List ℕ) → Makes taken out → Makes taken more → out ≡ more

-- nothing is made of pads and SYN alone, and something of all else
abbrev pub NothingIsIdle : Type 0
NothingIsIdle = (taken : List ℕ) → Makes taken [] ↔ AllByRecursion IsPadOrSyn taken
