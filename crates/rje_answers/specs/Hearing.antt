-- What comes over a connection, in any pieces, as what happens at its end.
use Rattle.std.specs.Prelude.{◌≡◌, ◌⊎◌, ℕ, List, [], ◌∷◌, ◌++◌, length, map, take}
use Rattle.bsc_frame.specs.declared.frame.Frame.{Frame}
use Rattle.bsc_frame.specs.declared.frame.Frame.TheVariants as frame
use Rattle.bsc_frame.specs.declared.heard.Heard.{Heard}
use Rattle.bsc_frame.specs.declared.heard.Heard.TheVariants as heard
use Rattle.bsc_frame.specs.Heard.{IsHeard}
use Rattle.bsc_frame.specs.Listener.{HasTaken}
use Rattle.bsc_frame.specs.Transmission.{HasNoFrame, Transmission}
use Rattle.bsc_frame.specs.Inside.Listening.HeardSoFar.{HeardSoFar}
use Rattle.bsc_link.specs.declared.reply.Reply.{Reply}
use Rattle.rje_answers.specs.declared.link_event.LinkEvent.{LinkEvent}
use Rattle.rje_answers.specs.declared.given.Given.{Given}
use Rattle.rje_answers.specs.declared.rest.Rest.{Rest}
use Rattle.rje_answers.specs.declared.taken.Taken.{Taken}
use Rattle.rje_answers.specs.Awaiting.{Kept, given_at, kept_after}

-- what a listener has taken since the last frame or hearing, and what is kept of the answers
pub record HeardAndKept : Type 0 where
  pub listener : HeardSoFar
  pub kept : Kept Reply

-- what happens where a frame comes
abbrev pub event_in : Frame → LinkEvent Reply
event_in frame.Enq = LinkEvent.Bid
event_in frame.Ack0 = LinkEvent.Answer Reply.Ack0
event_in frame.Ack1 = LinkEvent.Answer Reply.Ack1
event_in frame.Nak = LinkEvent.Answer Reply.Nak
event_in frame.Wack = LinkEvent.Answer Reply.Wack
event_in frame.Rvi = LinkEvent.Answer Reply.Rvi
event_in frame.Eot = LinkEvent.End
event_in _ = LinkEvent.Text

-- what was heard where no frame came
abbrev pub rest_in : Heard → Rest
rest_in heard.Bad = Rest.Bad
rest_in heard.Noise = Rest.Noise
rest_in _ = Rest.Quiet

-- these bytes came after those taken before: up to the end of a frame, from which the station is given what belongs to it; or all, and there is
-- no frame in them
pub record TakesFrame (a : HeardAndKept) (before piece : List ℕ) (taken : Taken) (b : HeardAndKept) : Type 0 where
  pub what : Frame
  pub ends : Transmission what (before ++ take taken.used piece)
  pub given : taken.given ≡ given_at (event_in what) a.kept
  pub kept : b.kept ≡ kept_after (event_in what) a.kept
  pub listens : HasTaken b.listener []

pub record TakesNoFrame (a : HeardAndKept) (before piece : List ℕ) (taken : Taken) (b : HeardAndKept) : Type 0 where
  pub none : HasNoFrame (before ++ piece)
  pub all : taken.used ≡ length piece
  pub given : taken.given ≡ Given.Nothing
  pub kept : b.kept ≡ a.kept
  pub listens : HasTaken b.listener (before ++ piece)

abbrev pub Takes : HeardAndKept → List ℕ → Taken → HeardAndKept → Type 0
Takes a piece taken b = (before : List ℕ) → HasTaken a.listener before → TakesFrame a before piece taken b ⊎ TakesNoFrame a before piece taken b

-- a hearing is over: the station is given what belongs to a hearing in vain, in which the bytes after the last frame were heard as this
abbrev pub GoesQuiet : HeardAndKept → Given Reply → HeardAndKept → Type 0
GoesQuiet a given b = (before : List ℕ) → HasTaken a.listener before
    → ((what : Heard) × IsHeard before what × (given ≡ given_at (LinkEvent.Vain (rest_in what)) a.kept)
    × (b.kept ≡ kept_after (LinkEvent.Vain (rest_in what)) a.kept) × HasTaken b.listener [])

-- of these bytes just these frames came, the newest first, and the bytes after the last of them are left
abbrev pub ComeIn : List ℕ → List Frame → (left : List ℕ) → Type 0
ComeIn bytes [] left = left ≡ bytes
ComeIn bytes (f ∷ past) left = (front : List ℕ) × ComeIn bytes past (front ++ left) × Transmission f front

-- this happened, the newest first; nothing was given before the newest
abbrev pub Happened : Kept Reply → List (LinkEvent Reply) → Kept Reply → Given Reply → Type 0
Happened k [] k' given = (k' ≡ k) × (given ≡ Given.Nothing)
Happened k (e ∷ past) k' given = (mid : Kept Reply) × Happened k past mid Given.Nothing × (k' ≡ kept_after e mid) × (given ≡ given_at e mid)

-- Of a piece that came after these bytes, its frames happened, one after another: up to the first that gives the station something, or
-- all, and no frame is in the bytes that are left.
pub record Heeds (a : HeardAndKept) (before piece : List ℕ) (given : Given Reply) (b : HeardAndKept) : Type 0 where
  pub frames : List Frame
  pub left : List ℕ
  pub come : ComeIn (before ++ piece) frames left
  pub happened : Happened a.kept (map event_in frames) b.kept given
  pub listens : given ≡ Given.Nothing → HasTaken b.listener left

abbrev pub Hears : HeardAndKept → List ℕ → Given Reply → HeardAndKept → Type 0
Hears a piece given b = (before : List ℕ) → HasTaken a.listener before → Heeds a before piece given b
