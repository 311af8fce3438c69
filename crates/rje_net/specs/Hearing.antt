-- What a line over a connection reads of its stream, and what of that it hands to its station (own profile).
use Rattle.std.specs.Prelude.{◌≡◌, ◌≢◌, ◌⊎◌, ℕ, Bool, true, false, ◌&&◌, not, List, [], ◌∷◌, ◌++◌, length, take, Option, Result, Ok, Err, MatchResult, IfErr}
use Rattle.std.specs.Io.KnownBytes.{Appends, Consumes, IsAtEnd}
use Rattle.bsc_frame.specs.declared.frame.Frame.{Frame}
use Rattle.bsc_frame.specs.Listener.{HasTaken}
use Rattle.bsc_frame.specs.Written.{Written}
use Rattle.bsc_link.specs.declared.reply.Reply.{Reply}
use Rattle.rje_answers.specs.Awaiting.{has_answer, kept_after, said_in}
use Rattle.rje_answers.specs.declared.link_event.LinkEvent.{LinkEvent}
use Rattle.rje_answers.specs.declared.given.Given.{Given}
use Rattle.rje_answers.specs.declared.handover.Handed.{Handed}
use Rattle.rje_answers.specs.Handover.{Hands, IsHandedOn, Waiting, nothing_waits}
use Rattle.rje_answers.specs.Hearing.{GoesQuiet, HeardAndKept, Hears}
use Rattle.rje_station.specs.declared.came.Came.{Came}
use Rattle.rje_station.specs.declared.line_fault.LineFault.{LineFault}

-- what one read brings: some bytes, or none in its time
pub data Brought : Type 0 where
  Piece : List ℕ → Brought
  Vain : Brought

-- the bytes of what was brought, the newest first
abbrev pub bytes_of : List Brought → List ℕ
bytes_of [] = []
bytes_of (Brought.Piece bytes ∷ past) = bytes_of past ++ bytes
bytes_of (Brought.Vain ∷ past) = bytes_of past

-- what a read brought that came to this
abbrev pub brought_by : Came → List ℕ → Brought
brought_by (Came.Bytes n) piece = Brought.Piece (take n piece)
brought_by Came.Quiet piece = Brought.Vain

-- what it brought, if it didn't fail
abbrev pub brought_in : Result Came LineFault → List ℕ → List Brought
brought_in (Ok came) piece = brought_by came piece ∷ []
brought_in (Err fault) piece = []

-- it happens at the end that awaits an answer, and the station is given this of it
abbrev pub Happens : HeardAndKept → Brought → Given Reply → HeardAndKept → Type 0
Happens a (Brought.Piece bytes) given b = Hears a bytes given b
Happens a Brought.Vain given b = GoesQuiet a given b

-- all this happens, the newest first; nothing is given of what came before the newest
abbrev pub HappensInTurn : HeardAndKept → List Brought → Given Reply → HeardAndKept → Type 0
HappensInTurn a [] given b = (given ≡ Given.Nothing) × (b ≡ a)
HappensInTurn a (newest ∷ past) given b = (mid : HeardAndKept) × HappensInTurn a past Given.Nothing mid × Happens mid newest given b

-- what a line keeps from one call to the next: what it knows of answers, what waits for its station, and whether too much came
pub record LineKeeps : Type 0 where
  pub answers : HeardAndKept
  pub waiting : Waiting
  pub babbles : Bool

-- the same, part by part
abbrev pub keeps : HeardAndKept → Waiting → Bool → LineKeeps
keeps answers waiting babbles = record { answers = answers; waiting = waiting; babbles = babbles }

-- an answer is awaited, and not too much came for it
abbrev pub awaits_answer : LineKeeps → Bool
awaits_answer l = has_answer l.answers.kept.said && not l.babbles

-- What comes happens until the station is given something, which then waits for it. If it is given nothing, too much came.
pub record AwaitsAnswer (a : LineKeeps) (brought : List Brought) (b : LineKeeps) : Type 0 where
  pub given : Given Reply
  pub happens : HappensInTurn a.answers brought given b.answers
  pub waits : given ≢ Given.Nothing → IsHandedOn given b.waiting × (b.babbles ≡ a.babbles)
  pub too_much : given ≡ Given.Nothing → (b.waiting ≡ a.waiting) × (b.babbles ≡ true)

-- so it is if an answer is awaited; else nothing is read and nothing changes
abbrev pub MayAwait : LineKeeps → List Brought → LineKeeps → Type 0
MayAwait a brought b =
    (awaits_answer a ≡ true → AwaitsAnswer a brought b) × (awaits_answer a ≡ false → (brought ≡ []) × (b ≡ a))

-- the station hears what one read brings; only bytes that come after EOT was said are looked through for answers
abbrev pub ReadsThrough : HeardAndKept → Came → List ℕ → HeardAndKept → Type 0
ReadsThrough a (Came.Bytes n) piece b =
    (a.kept.has_ended ≡ true → (given : Given Reply) × Hears a (take n piece) given b) × (a.kept.has_ended ≡ false → b ≡ a)
ReadsThrough a Came.Quiet piece b = (given : Given Reply) × GoesQuiet a given b

-- what the station is handed of what waits for it
abbrev pub handed_by : Came → Handed
handed_by (Came.Bytes n) = Handed.Bytes n
handed_by Came.Quiet = Handed.Quiet

-- bytes without an end, if too much came; or the next part of what waits; or, if nothing does, what one read brings
abbrev pub HandsOn : LineKeeps → List Brought → Came → List ℕ → LineKeeps → Type 0
HandsOn a brought came piece b =
    ((a.babbles ≡ true) × (brought ≡ []) × (came ≡ Came.Bytes (length piece)) × (b ≡ a))
    ⊎ ((a.babbles ≡ false) × (brought ≡ []) × Hands a.waiting piece (handed_by came) b.waiting × (b ≡ record a { waiting = b.waiting }))
    ⊎ ((a.babbles ≡ false) × (brought ≡ brought_by came piece ∷ []) × (a.waiting ≡ nothing_waits)
    × ReadsThrough a.answers came piece b.answers × (b ≡ record a { answers = b.answers }))

-- THE ACCOUNT OF EACH CALL

-- One call of `listen`: an answer is awaited, if one is due, and then the station is handed something.
pub record Listens (a : LineKeeps) (brought : List Brought) (came : Came) (piece : List ℕ) (b : LineKeeps) : Type 0 where
  pub mid : LineKeeps
  pub first : List Brought
  pub second : List Brought
  pub all : brought ≡ second ++ first
  pub awaits : MayAwait a first mid
  pub hands : HandsOn mid second came piece b

-- just this was read of what the stream gives, and the line is closed only if that gives no more
abbrev pub ReadsJust : (before after : Option (List ℕ)) → {A : Type 0} → Result A LineFault → List Brought → Type 0
ReadsJust before after result brought = Consumes before after (bytes_of brought) × IfErr result (λ fault. fault ≡ LineFault.Closed → IsAtEnd after)

-- all of these bytes were written, or, if that failed, a front of them
abbrev pub WritesThrough : (before after : Option (List ℕ)) → {A E : Type 0} → Result A E → List ℕ → Type 0
WritesThrough before after result bytes = MatchResult result (λ _. Appends before after bytes) (λ _. (count : ℕ) × Appends before after (take count bytes))

-- a frame is said: its answer is awaited, if it has one, and nothing that came before is of any account
pub record Says (a : LineKeeps) (bytes : List ℕ) (b : LineKeeps) : Type 0 where
  pub kept : (f : Frame) → Written f bytes → b.answers.kept ≡ kept_after (LinkEvent.Says (said_in f)) a.answers.kept
  pub listens : HasTaken b.answers.listener []
  pub waiting : b.waiting ≡ nothing_waits
  pub calm : b.babbles ≡ false
