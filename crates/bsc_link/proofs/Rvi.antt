-- At most one RVI is made.
use Rattle.std.proofs.Common.{◌≡◌, refl, ◌∙◌, Bool, true, false, not, ◌&&◌, ◌||◌, cond, ℕ, ◌+◌, ◌≤◌, arith, List, [], ◌∷◌, Some}
use Rattle.std.specs.Prelude.{count_by}
use Rattle.std.proofs.lemmas.Bool.{false≢true}
use Rattle.std.proofs.lemmas.List.Sums.{sum_by-cons}
use Rattle.bsc_link.specs.declared.sound.Sound.{Sound}
use Rattle.bsc_link.specs.declared.wish.Wish.{Wish}
use Rattle.bsc_link.specs.declared.receiver_place.ReceiverPlace.{ReceiverPlace}
use Rattle.bsc_link.specs.Receiver.{ReceiverState, first_receiver_state, due_ack, is_rvi, line_when_idle, line_in_transmission, reply_to_block, receiver_news}
use Rattle.bsc_link.specs.Runs.{ReceiverStep, ReceiverHears, LongQuiet, after_receiver_step, news_of, news_in, makes_rvi, rvi_made_in}
use Rattle.bsc_link.specs.Laws.{MakesAtMostOneRvi}

-- one where a test passes
abbrev one_if : Bool → ℕ
one_if passes = cond passes 1 0

-- how many pass, of the first and of the rest
count_by-cons : {X : Type 0} (p : X → Bool) (x : X) (xs : List X) → count_by p (x ∷ xs) ≡ one_if (p x) + count_by p xs
count_by-cons p x xs = sum_by-cons (λ y. cond (p y) 1 0) x xs

-- an acknowledgement is no RVI
due-is_no_rvi : (odd : Bool) → is_rvi (Some (due_ack odd)) ≡ false
due-is_no_rvi true = refl
due-is_no_rvi false = refl

block-no_rvi : (s : ReceiverState) (wish : Wish) → s.rvi_made ≡ true → is_rvi (Some (reply_to_block s wish)) ≡ false
block-no_rvi s Wish.Hold e = refl
block-no_rvi s Wish.Turn e = rw e (due-is_no_rvi (not s.odd_accepted))
block-no_rvi s Wish.Go e = due-is_no_rvi (not s.odd_accepted)

idle-no_rvi : (sound : Sound) (wish : Wish) → makes_rvi (line_when_idle sound wish).1 ≡ false
idle-no_rvi Sound.Enq Wish.Hold = refl
idle-no_rvi Sound.Enq Wish.Go = refl
idle-no_rvi Sound.Enq Wish.Turn = refl
idle-no_rvi Sound.Eot wish = refl
idle-no_rvi _ wish = refl

line-no_rvi : (s : ReceiverState) (sound : Sound) (wish : Wish) → s.rvi_made ≡ true → makes_rvi (line_in_transmission s sound wish).1 ≡ false
line-no_rvi s Sound.Block wish e = block-no_rvi s wish e
line-no_rvi s _ wish e = refl

-- a second RVI isn't made
news-no_rvi : (place : ReceiverPlace) (s : ReceiverState) (sound : Sound) (wish : Wish) → s.place ≡ place → s.rvi_made ≡ true → makes_rvi (receiver_news s sound wish) ≡ false
news-no_rvi ReceiverPlace.Idle s sound wish p e = rw p (idle-no_rvi sound wish)
news-no_rvi ReceiverPlace.InTransmission s sound wish p e = rw p (line-no_rvi s sound wish e)
news-no_rvi ReceiverPlace.Ended s sound wish p e = rw p refl

step-no_rvi : (s : ReceiverState) (step : ReceiverStep) → s.rvi_made ≡ true → makes_rvi (news_of s step) ≡ false
step-no_rvi s (ReceiverHears sound wish) e = news-no_rvi s.place s sound wish refl e
step-no_rvi s LongQuiet e = refl

pub or-true : (b c : Bool) → c ≡ true → (b || c) ≡ true
or-true true c e = refl
or-true false c e = e

and-right : (b c : Bool) → (b && c) ≡ true → c ≡ true
and-right true c e = e
and-right false c e = absurd (false≢true e)

true-or : (b c : Bool) → b ≡ true → (b || c) ≡ true
true-or true c e = refl
true-or false c e = absurd (false≢true e)

-- one that was made stays made
made-step : (s : ReceiverState) (step : ReceiverStep) → s.rvi_made ≡ true → (after_receiver_step s step).rvi_made ≡ true
made-step s (ReceiverHears sound wish) e = or-true (is_rvi (receiver_news s sound wish).reply) s.rvi_made e
made-step s LongQuiet e = e

-- one that is made now was made
makes-step : (s : ReceiverState) (step : ReceiverStep) → makes_rvi (news_of s step) ≡ true → (after_receiver_step s step).rvi_made ≡ true
makes-step s (ReceiverHears sound wish) e =
    let news = receiver_news s sound wish in
    true-or (is_rvi news.reply) s.rvi_made (and-right news.accepted (is_rvi news.reply) e)
makes-step s LongQuiet e = absurd (false≢true e)

none_more : (s : ReceiverState) (steps : List ReceiverStep) → s.rvi_made ≡ true → rvi_made_in s steps ≡ 0
none_more s [] e = refl
none_more s (step ∷ steps) e =
    let no : one_if (makes_rvi (news_of s step)) ≡ 0 = rw (step-no_rvi s step e) refl in
    let rest = none_more (after_receiver_step s step) steps (made-step s step e) in
    count_by-cons makes_rvi (news_of s step) (news_in (after_receiver_step s step) steps) ∙ rw (no, rest) refl

cons-at_most_one : (b : Bool) (m : ℕ) → (b ≡ true → m ≡ 0) → m ≤ 1 → one_if b + m ≤ 1
cons-at_most_one true m none le = let e : m ≡ 0 = none refl in omega arith
cons-at_most_one false m none le = omega arith

at_most_one : (s : ReceiverState) (steps : List ReceiverStep) → rvi_made_in s steps ≤ 1
at_most_one s [] = omega arith
at_most_one s (step ∷ steps) =
    let x = after_receiver_step s step in
    rw (count_by-cons makes_rvi (news_of s step) (news_in x steps))
    (cons-at_most_one (makes_rvi (news_of s step)) (rvi_made_in x steps) (λ e. none_more x steps (makes-step s step e)) (at_most_one x steps))

pub makes_at_most_one_rvi : MakesAtMostOneRvi
makes_at_most_one_rvi steps = at_most_one first_receiver_state steps
