-- What the receiver may reply, and what the sender makes of it, without a look at whole histories.
use Rattle.bsc_link.specs.declared.sound.Sound.{Sound}
use Rattle.bsc_link.specs.declared.wish.Wish.{Wish}
use Rattle.bsc_link.specs.declared.reply.Reply.{Reply}
use Rattle.bsc_history.specs.History.{History, is_even}
use Rattle.bsc_history.specs.Known.{is_rvi_sound, acknowledges}
use Rattle.bsc_history.specs.Got.{got}
use Rattle.bsc_history.specs.ReplyRule.{last_reply, answer_to_block, answer_to_enq, answer_when_bid}
use Rattle.bsc_history.specs.Fate.{sound_of_reply}
use Rattle.bsc_history.proofs.Line.{ComesAs}
use Rattle.std.proofs.Common.{length, ◌≡◌, ◌≢◌, ◌⊎◌, inl, inr, ℕ, ◌+◌, ◌%◌, Bool, true, false, not, ◌&&◌, ◌||◌, if◌then◌else◌, Option, Some, None, refl, sym, ◌∙◌, arith}
use Rattle.std.proofs.lemmas.Bool.{true≢false}
use Rattle.std.proofs.lemmas.Bool.Decides.{eqb_tells}

-- PARITY

-- of two neighbouring numbers one is even
is_even-from_cases : (n : ℕ) → ((is_even n ≡ true) × (n % 2 ≡ 0)) ⊎ ((is_even n ≡ false) × (n % 2 ≢ 0)) → ((is_even (n + 1) ≡ true) × ((n + 1) % 2 ≡ 0)) ⊎ ((is_even (n + 1) ≡ false) × ((n + 1) % 2 ≢ 0)) → is_even (n + 1) ≡ not (is_even n)
is_even-from_cases n (inl a) (inl b) = absurd (omega (arith, a.1, b.1))
is_even-from_cases n (inl a) (inr b) = rw (a.0, b.0) refl
is_even-from_cases n (inr a) (inl b) = rw (a.0, b.0) refl
is_even-from_cases n (inr a) (inr b) = absurd (omega (arith, a.1, b.1))

pub is_even-next : (n : ℕ) → is_even (n + 1) ≡ not (is_even n)
is_even-next n = is_even-from_cases n (eqb_tells (n % 2) 0) (eqb_tells ((n + 1) % 2) 0)

-- CALM REPLIES: none of them acknowledges the block after number n

abbrev pub Calm : ℕ → Bool → Option Reply → Type 0
Calm n noted None = Unit {0}
Calm n noted (Some Reply.Nak) = Unit {0}
Calm n noted (Some Reply.Ack0) = is_even n ≡ true
Calm n noted (Some Reply.Ack1) = is_even n ≡ false
Calm n noted (Some Reply.Rvi) = noted ≡ true
Calm n noted (Some Reply.Wack) = ⊥

-- whatever the line makes of it
pub acknowledges-calm : (n : ℕ) (noted : Bool) (reply : Option Reply) (heard : Sound) → Calm n noted reply → ComesAs (sound_of_reply reply) heard → acknowledges (n + 1) noted heard ≡ false
acknowledges-calm n noted None heard calm may = rw may refl
acknowledges-calm n noted (Some Reply.Nak) heard calm (inl e) = rw e refl
acknowledges-calm n noted (Some Reply.Nak) heard calm (inr (inl e)) = rw e refl
acknowledges-calm n noted (Some Reply.Nak) heard calm (inr (inr e)) = rw e refl
acknowledges-calm n noted (Some Reply.Ack0) heard calm (inl e) = rw (e, is_even-next n, calm) refl
acknowledges-calm n noted (Some Reply.Ack0) heard calm (inr (inl e)) = rw e refl
acknowledges-calm n noted (Some Reply.Ack0) heard calm (inr (inr e)) = rw e refl
acknowledges-calm n noted (Some Reply.Ack1) heard calm (inl e) = rw (e, is_even-next n, calm) refl
acknowledges-calm n noted (Some Reply.Ack1) heard calm (inr (inl e)) = rw e refl
acknowledges-calm n noted (Some Reply.Ack1) heard calm (inr (inr e)) = rw e refl
acknowledges-calm n noted (Some Reply.Rvi) heard calm (inl e) = rw (e, calm) refl
acknowledges-calm n noted (Some Reply.Rvi) heard calm (inr (inl e)) = rw e refl
acknowledges-calm n noted (Some Reply.Rvi) heard calm (inr (inr e)) = rw e refl
acknowledges-calm n noted (Some Reply.Wack) heard calm may = absurd calm

-- a calm receiver stays calm unless a block is brought
pub Calm-enq : (n : ℕ) (noted : Bool) (g : ℕ) (last : Option Reply) (wish : Wish) → Calm n noted last → Calm n noted (answer_to_enq g last wish)
Calm-enq n noted g None wish calm = calm
Calm-enq n noted g (Some Reply.Nak) wish calm = calm
Calm-enq n noted g (Some Reply.Ack0) wish calm = calm
Calm-enq n noted g (Some Reply.Ack1) wish calm = calm
Calm-enq n noted g (Some Reply.Rvi) wish calm = calm
Calm-enq n noted g (Some Reply.Wack) wish calm = absurd calm

-- a block arrived, and found room
abbrev pub brings : Sound → Bool → Bool
brings arrived refused = elim arrived [ Sound.Block ↦ not refused | _ ↦ false ]

pub Calm-answer : (n : ℕ) (noted : Bool) (past : History) (arrived : Sound) (refused : Bool) (wish : Wish) → Calm n noted (last_reply past) → brings arrived refused ≡ false → Calm n noted (answer_when_bid past arrived refused wish)
Calm-answer n noted past Sound.Block true wish calm none = tt
Calm-answer n noted past Sound.Block false wish calm none = absurd (true≢false none)
Calm-answer n noted past Sound.Enq refused wish calm none = Calm-enq n noted (length (got past)) (last_reply past) wish calm
Calm-answer n noted past _ refused wish calm none = tt

-- the last reply, after one more
abbrev pub later : Option Reply → Option Reply → Option Reply
later reply last = elim reply [ None ↦ last | Some r ↦ Some r ]

abbrev pub makes_rvi : Option Reply → Bool → Bool
makes_rvi reply made = elim reply [ Some r ↦ elim r [ Reply.Rvi ↦ true | _ ↦ made ] | None ↦ made ]

pub Calm-later : (n : ℕ) (noted : Bool) (reply last : Option Reply) → Calm n noted reply → Calm n noted last → Calm n noted (later reply last)
Calm-later n noted None last new old = old
Calm-later n noted (Some r) last new old = new

pub makes_rvi-calm : (n : ℕ) (noted made : Bool) (reply : Option Reply) → Calm n noted reply → made ≡ noted → makes_rvi reply made ≡ noted
makes_rvi-calm n noted made None calm same = same
makes_rvi-calm n noted made (Some Reply.Nak) calm same = same
makes_rvi-calm n noted made (Some Reply.Ack0) calm same = same
makes_rvi-calm n noted made (Some Reply.Ack1) calm same = same
makes_rvi-calm n noted made (Some Reply.Rvi) calm same = sym calm
makes_rvi-calm n noted made (Some Reply.Wack) calm same = absurd calm

-- an RVI that acknowledges nothing was noted before
pub noted-stays : (n : ℕ) (noted spoke : Bool) (heard : Sound) → acknowledges n noted heard ≡ false → ((spoke && is_rvi_sound heard) || noted) ≡ noted
noted-stays n noted false heard none = refl
noted-stays n true true Sound.Rvi none = refl
noted-stays n false true Sound.Rvi none = absurd (true≢false none)
noted-stays n noted true _ none = refl

-- FRESH REPLIES: the receiver has block number n, and the sender hasn't heard so

abbrev pub Fresh : ℕ → Bool → Bool → Option Reply → Type 0
Fresh n made noted None = ⊥
Fresh n made noted (Some Reply.Nak) = ⊥
Fresh n made noted (Some Reply.Ack0) = (is_even n ≡ true) × (made ≡ noted)
Fresh n made noted (Some Reply.Ack1) = (is_even n ≡ false) × (made ≡ noted)
Fresh n made noted (Some Reply.Wack) = made ≡ noted
Fresh n made noted (Some Reply.Rvi) = (made ≡ true) × (noted ≡ false)

pub Fresh-ack : (n : ℕ) (made noted even : Bool) → is_even n ≡ even → made ≡ noted → Fresh n made noted (Some (if even then Reply.Ack0 else Reply.Ack1))
Fresh-ack n made noted true is same = (is, same)
Fresh-ack n made noted false is same = (is, same)

pub made-ack : (even made : Bool) → makes_rvi (Some (if even then Reply.Ack0 else Reply.Ack1)) made ≡ made
made-ack true made = refl
made-ack false made = refl

-- the answer to a block
pub Fresh-answer : (n : ℕ) (made noted : Bool) (wish : Wish) → made ≡ noted → Fresh n (makes_rvi (Some (answer_to_block n made wish)) made) noted (Some (answer_to_block n made wish))
Fresh-answer n made noted Wish.Hold same = same
Fresh-answer n made noted Wish.Go same = Fresh-ack n _ noted (is_even n) refl (made-ack (is_even n) made ∙ same)
Fresh-answer n true noted Wish.Turn same = Fresh-ack n _ noted (is_even n) refl (made-ack (is_even n) true ∙ same)
Fresh-answer n false noted Wish.Turn same = (refl, sym same)

-- the answer to an inquiry
pub Fresh-enq : (n : ℕ) (made noted : Bool) (last : Option Reply) (wish : Wish) → Fresh n made noted last → Fresh n (makes_rvi (answer_to_enq n last wish) made) noted (answer_to_enq n last wish)
Fresh-enq n made noted None wish fresh = absurd fresh
Fresh-enq n made noted (Some Reply.Nak) wish fresh = absurd fresh
Fresh-enq n made noted (Some Reply.Ack0) wish fresh = fresh
Fresh-enq n made noted (Some Reply.Ack1) wish fresh = fresh
Fresh-enq n made noted (Some Reply.Wack) Wish.Hold fresh = fresh
Fresh-enq n made noted (Some Reply.Wack) Wish.Go fresh = Fresh-ack n _ noted (is_even n) refl (made-ack (is_even n) made ∙ fresh)
Fresh-enq n made noted (Some Reply.Wack) Wish.Turn fresh = Fresh-ack n _ noted (is_even n) refl (made-ack (is_even n) made ∙ fresh)
Fresh-enq n made noted (Some Reply.Rvi) wish fresh = (refl, fresh.1)

-- what leaves the sender without an answer
abbrev pub Unanswered : Sound → Type 0
Unanswered Sound.Wack = Unit {0}
Unanswered Sound.Quiet = Unit {0}
Unanswered Sound.Noise = Unit {0}
Unanswered _ = ⊥

pub record Answered (n : ℕ) (made noted : Bool) (reply : Option Reply) (heard : Sound) : Type 0 where
  pub acknowledged : acknowledges n noted heard ≡ true
  pub calm : Calm n (is_rvi_sound heard || noted) reply
  pub rvi : made ≡ (is_rvi_sound heard || noted)

-- a fresh reply is heard as an acknowledgement, or leaves the sender without an answer
pub Fresh-heard : (n : ℕ) (made noted : Bool) (reply : Option Reply) (heard : Sound) → Fresh n made noted reply → ComesAs (sound_of_reply reply) heard → Answered n made noted reply heard ⊎ Unanswered heard
Fresh-heard n made noted None heard fresh may = absurd fresh
Fresh-heard n made noted (Some Reply.Nak) heard fresh may = absurd fresh
Fresh-heard n made noted (Some Reply.Ack0) heard fresh (inl e) = inl (rw e (record { acknowledged = fresh.0; calm = fresh.0; rvi = fresh.1 }))
Fresh-heard n made noted (Some Reply.Ack1) heard fresh (inl e) = inl (rw e (record { acknowledged = rw fresh.0 refl; calm = fresh.0; rvi = fresh.1 }))
Fresh-heard n made noted (Some Reply.Wack) heard fresh (inl e) = inr (rw e tt)
Fresh-heard n made noted (Some Reply.Rvi) heard fresh (inl e) = inl (rw e (record { acknowledged = rw fresh.1 refl; calm = refl; rvi = fresh.0 }))
Fresh-heard n made noted (Some r) heard fresh (inr (inl e)) = inr (rw e tt)
Fresh-heard n made noted (Some r) heard fresh (inr (inr e)) = inr (rw e tt)
