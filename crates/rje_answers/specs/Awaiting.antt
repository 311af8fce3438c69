-- An end of a connection that says things and awaits the answers: what it keeps, and what its station is given, event by event (own profile; that
-- an ENQ between two that bid at once is no answer is GA27-3004's contention).
use Rattle.std.specs.Prelude.{ℕ, ◌+◌, Bool, true, false, ◌&&◌, ◌||◌, not, nat_lt, if◌then◌else◌, Option, Some, None}
use Rattle.bsc_frame.specs.declared.frame.Frame.{Frame}
use Rattle.bsc_frame.specs.declared.frame.Frame.TheVariants as frame
use Rattle.rje_answers.specs.declared.link_event.LinkEvent.{LinkEvent}
use Rattle.rje_answers.specs.declared.given.Given.{Given}
use Rattle.rje_answers.specs.declared.rest.Rest.{Rest}
use Rattle.rje_answers.specs.declared.said.Said.{Said}

-- what a frame says
abbrev pub said_in : Frame → Said
said_in frame.Enq = Said.Enquiry
said_in frame.Ttd = Said.Text
said_in (frame.Block block) = Said.Text
said_in frame.Eot = Said.End
said_in _ = Said.Reply

-- the other end answers an ENQ, a text and a delay of one
abbrev pub has_answer : Said → Bool
has_answer Said.Enquiry = true
has_answer Said.Text = true
has_answer _ = false

abbrev pub is_enquiry : Said → Bool
is_enquiry Said.Enquiry = true
is_enquiry _ = false

abbrev pub is_end : Said → Bool
is_end Said.End = true
is_end _ = false

-- What an end keeps that awaits answers of type A.
pub record Kept (A : Type 0) : Type 0 where
  -- whether it gives way to a bid that crosses its own
  pub gives_way : Bool
  -- what it said, as long as that may be answered
  pub said : Said
  -- whether the last thing to be answered was awaited in vain: an answer too many may be on its way
  pub is_late : Bool
  -- the hearings in vain since it spoke, or since the answer that is held
  pub vain : ℕ
  -- an answer that counts once the line has been quiet after it
  pub held : Option A
  -- what else was heard since it spoke
  pub rest : Rest
  -- whether it has said EOT, and whether an answer came after that
  pub has_ended : Bool
  pub strayed : Bool

-- an end that has said nothing
abbrev pub first_kept : {A : Type 0} → Bool → Kept A
first_kept gives_way = record { gives_way = gives_way; said = Said.Reply; is_late = false; vain = 0; held = None; rest = Rest.Quiet; has_ended = false; strayed = false }

-- no answer is awaited any more
abbrev pub settled : {A : Type 0} → Kept A → Kept A
settled k = record k { said = Said.Reply; vain = 0; held = None; rest = Rest.Quiet }

-- an answer is held, until the line has been quiet after it
abbrev pub holding : {A : Type 0} → A → Kept A → Kept A
holding a k = record k { vain = 0; held = Some a }

-- it takes the bid of an end to which it gives way
abbrev pub takes_bid : {A : Type 0} → Kept A → Bool
takes_bid k = is_enquiry k.said && k.gives_way

-- the last thing heard that says something
abbrev pub louder : Rest → Rest → Rest
louder Rest.Quiet before = before
louder heard before = heard

-- How many hearings in vain an answer is awaited for, and how many have to be quiet after one that is held: things are said two hearings apart,
-- or three where a secondary listens before it bids again, and their answers may come as far apart.
abbrev pub hearings : {A : Type 0} → Option A → ℕ
hearings None = 2
hearings (Some a) = 4

-- nothing more is awaited after this hearing in vain
abbrev pub is_over : {A : Type 0} → Kept A → Bool
is_over k = not (nat_lt (k.vain + 1) (hearings k.held))

-- THE TABLE: what is kept after an event, and what the station is given

-- says: what it said is awaited, if it has an answer; nothing that was held before belongs to it
abbrev pub after_saying : {A : Type 0} → Said → Kept A → Kept A
after_saying said k = record (settled k) { said = said; has_ended = k.has_ended || is_end said }

-- an answer, awaited: given at once, or held where one too many may be on its way; not awaited: it strayed, if EOT was said
abbrev pub after_answer : {A : Type 0} → A → Kept A → Kept A
after_answer a k = if has_answer k.said then (if k.is_late then holding a k else settled k) else record k { strayed = k.strayed || k.has_ended }

abbrev pub given_answer : {A : Type 0} → A → Kept A → Given A
given_answer a k = if has_answer k.said && not k.is_late then Given.Answer a else Given.Nothing

-- a bid: passed over, but by an end that has bid itself and gives way
abbrev pub after_bid : {A : Type 0} → Kept A → Kept A
after_bid k = if takes_bid k then settled k else k

abbrev pub given_bid : {A : Type 0} → Kept A → Given A
given_bid k = if takes_bid k then Given.Bid else Given.Nothing

-- EOT: where an answer is awaited, given at once
abbrev pub after_end : {A : Type 0} → Kept A → Kept A
after_end k = if has_answer k.said then settled k else k

abbrev pub given_end : {A : Type 0} → Kept A → Given A
given_end k = if has_answer k.said then Given.End else Given.Nothing

-- a hearing in vain: with the last one the answer that is held counts, or none came, and the next may be late
abbrev pub after_last : {A : Type 0} → Kept A → Kept A
after_last k = elim k.held [ None ↦ record (settled k) { is_late = true } | Some a ↦ record (settled k) { is_late = false } ]

abbrev pub after_vain : {A : Type 0} → Rest → Kept A → Kept A
after_vain heard k = if has_answer k.said then (if is_over k then after_last k else record k { vain = k.vain + 1; rest = louder heard k.rest }) else k

abbrev pub given_last : {A : Type 0} → Rest → Kept A → Given A
given_last heard k = elim k.held [ None ↦ Given.InVain (louder heard k.rest) | Some a ↦ Given.Answer a ]

abbrev pub given_vain : {A : Type 0} → Rest → Kept A → Given A
given_vain heard k = if has_answer k.said then (if is_over k then given_last heard k else Given.Nothing) else Given.Nothing

abbrev pub kept_after : {A : Type 0} → LinkEvent A → Kept A → Kept A
kept_after (LinkEvent.Says said) k = after_saying said k
kept_after (LinkEvent.Answer a) k = after_answer a k
kept_after LinkEvent.Bid k = after_bid k
kept_after LinkEvent.End k = after_end k
kept_after LinkEvent.Text k = k
kept_after (LinkEvent.Vain heard) k = after_vain heard k

abbrev pub given_at : {A : Type 0} → LinkEvent A → Kept A → Given A
given_at (LinkEvent.Says said) k = Given.Nothing
given_at (LinkEvent.Answer a) k = given_answer a k
given_at LinkEvent.Bid k = given_bid k
given_at LinkEvent.End k = given_end k
given_at LinkEvent.Text k = Given.Nothing
given_at (LinkEvent.Vain heard) k = given_vain heard k
