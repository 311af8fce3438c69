-- The numbers of the things that are said, arrive and are answered.
use Rattle.std.proofs.Common.{◌≡◌, ℕ, ◌<◌, ◌≤◌, true, List, [], ◌∷◌, inl, inr, arith}
use Rattle.std.proofs.lemmas.Bool.{cases_Bool}
use Rattle.bsc_frame.specs.declared.frame.Frame.{Frame}
use Rattle.rje_answers.specs.declared.rest.Rest.{Rest}
use Rattle.rje_answers.specs.Awaiting.{has_answer, said_in}
use Rattle.rje_answers.specs.Law.{Answer, things}
use Rattle.connection_world.specs.Connection.{AtReceiver, AtSender, Says, Comes, InVain, Arrives, NothingArrives, OneHearing, ComeDown, ComeUp, IsReplied, IsThing, come_by, told}

-- each thing has an answer: EOT wasn't said
abbrev pub AllAnswered : List AtSender → Type 0
AllAnswered [] = Unit {0}
AllAnswered (Says f ∷ past) = (has_answer (said_in f) ≡ true) × AllAnswered past
AllAnswered (_ ∷ past) = AllAnswered past

-- what is answered was said before
abbrev pub AllSaid : List AtSender → Type 0
AllSaid [] = Unit {0}
AllSaid (Comes a ∷ past) = (a.thing < things (told past)) × AllSaid past
AllSaid (_ ∷ past) = AllSaid past

pub thing_below : (k : ℕ) (f : Frame) (past : List AtSender) → AllAnswered past → IsThing k f past → k < things (told past)
thing_below k f [] all is = absurd is
thing_below k f (Says said ∷ past) all (inl is) = rw all.0 (omega (arith, is.0))
thing_below k f (Says said ∷ past) all (inr is) = let less = thing_below k f past all.1 is in rw all.0 (omega (arith, less))
thing_below k f (Comes a ∷ past) all is = thing_below k f past all is
thing_below k f (InVain rest ∷ past) all is = thing_below k f past all is

things_grow : (f : Frame) (past : List AtSender) → things (told past) ≤ things (told (Says f ∷ past))
things_grow f past = elim (cases_Bool (has_answer (said_in f))) [ inl e ↦ rw e (omega arith) | inr e ↦ rw e (omega arith) ]

-- ---- What arrived.

-- before the last thing was said
pub up_before_saying : (f : Frame) (past : List AtSender) (far : List AtReceiver) → come_by far ≤ things (told past) → ComeUp (Says f ∷ past) far → ComeUp past far
up_before_saying f past [] below up = tt
up_before_saying f past (Arrives k h ∷ far) below up =
    let in_order = up.0.0 in
    ((in_order, (up.0.1.0, earlier up.0.1.1, up.0.1.2)), up_before_saying f past far (omega (arith, in_order, below)) up.1)
  where
    earlier : {g : Frame} → IsThing k g (Says f ∷ past) → IsThing k g past
    earlier (inl is) = absurd (omega (arith, is.0, below))
    earlier (inr is) = is
up_before_saying f past (NothingArrives h ∷ far) below up = (up.0, up_before_saying f past far below up.1)

pub up_before_answer : (a : Answer) (past : List AtSender) (far : List AtReceiver) → ComeUp (Comes a ∷ past) far → ComeUp past far
up_before_answer a past [] up = tt
up_before_answer a past (Arrives k h ∷ far) up = (up.0, up_before_answer a past far up.1)
up_before_answer a past (NothingArrives h ∷ far) up = (up.0, up_before_answer a past far up.1)

pub up_before_vain : (rest : Rest) (past : List AtSender) (far : List AtReceiver) → ComeUp (InVain rest ∷ past) far → ComeUp past far
up_before_vain rest past [] up = tt
up_before_vain rest past (Arrives k h ∷ far) up = (up.0, up_before_vain rest past far up.1)
up_before_vain rest past (NothingArrives h ∷ far) up = (up.0, up_before_vain rest past far up.1)

-- ---- What was replied.

-- to a thing that hadn't been said before this nothing was
pub down_before_arrival : (k : ℕ) (h : OneHearing) (past : List AtSender) (far : List AtReceiver) → AllSaid past → things (told past) ≤ k
    → ComeDown past (Arrives k h ∷ far) → ComeDown past far
down_before_arrival k h [] far all above down = tt
down_before_arrival k h (Says f ∷ past) far all above down =
    let grow = things_grow f past in
    down_before_arrival k h past far all (omega (arith, grow, above)) down
down_before_arrival k h (Comes a ∷ past) far all above down = (earlier down.0, down_before_arrival k h past far all.1 above down.1)
  where
    earlier : IsReplied a (Arrives k h ∷ far) → IsReplied a far
    earlier (inl is) = absurd (omega (arith, is.0, above, all.0))
    earlier (inr is) = is
down_before_arrival k h (InVain rest ∷ past) far all above down = down_before_arrival k h past far all above down

pub down_before_nothing : (h : OneHearing) (past : List AtSender) (far : List AtReceiver) → ComeDown past (NothingArrives h ∷ far) → ComeDown past far
down_before_nothing h [] far down = tt
down_before_nothing h (Says f ∷ past) far down = down_before_nothing h past far down
down_before_nothing h (Comes a ∷ past) far down = (down.0, down_before_nothing h past far down.1)
down_before_nothing h (InVain rest ∷ past) far down = down_before_nothing h past far down

-- what was replied to has arrived
pub replied_below : (a : Answer) (near : List AtSender) (far : List AtReceiver) → ComeUp near far → IsReplied a far → a.thing < come_by far
replied_below a near [] up is = absurd is
replied_below a near (Arrives k h ∷ far) up (inl is) = omega (arith, is.0)
replied_below a near (Arrives k h ∷ far) up (inr is) =
    let less = replied_below a near far up.1 is in
    let in_order = up.0.0 in
    omega (arith, less, in_order)
replied_below a near (NothingArrives h ∷ far) up is = replied_below a near far up.1 is
