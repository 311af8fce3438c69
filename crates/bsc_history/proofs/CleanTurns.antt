-- On a clean line each turn brings the next block.
use Rattle.std.proofs.Common.{◌≡◌, ◌⊎◌, inl, inr, ℕ, zero, suc, ◌+◌, ◌≤◌, Bool, true, false, not, if◌then◌else◌, [], ◌∷◌, length, Some, refl, ap, sym, ◌∙◌, subst, arith, length-append}
use Rattle.std.proofs.lemmas.Bool.{true≢false}
use Rattle.bsc_link.specs.declared.next.Next.{Next}
use Rattle.bsc_link.specs.declared.reply.Reply.{Reply}
use Rattle.bsc_link.specs.declared.say.Say.{Say}
use Rattle.bsc_link.specs.declared.sound.Sound.{Sound}
use Rattle.bsc_link.specs.declared.wish.Wish.{Wish}
use Rattle.bsc_history.specs.declared.spoken_turn.SpokenTurn.{SpokenTurn}
use Rattle.bsc_history.specs.History.{Plan, History, what_follows, is_over, is_last, is_even}
use Rattle.bsc_history.specs.Known.{known, has_heard_rvi, has_grant, is_counting, is_progress, gives_up_now}
use Rattle.bsc_history.specs.Got.{got}
use Rattle.bsc_history.specs.Conversation.{IsConversation, Follows}
use Rattle.bsc_history.specs.Fate.{sound_of, sound_of_reply}
use Rattle.bsc_history.specs.ReplyRule.{was_bid, replying, ack_of}
use Rattle.bsc_history.specs.SayingRule.{saying, said_of, due_after_progress}
use Rattle.bsc_history.proofs.Agreement.{conversations_may_be_spoken}
use Rattle.bsc_history.proofs.OneConversation.{same-fields}
use Rattle.bsc_history.proofs.Phases.{turn}
use Rattle.bsc_history.proofs.Within.{stays_within_plan}

-- what was said and replied was heard, and nothing else happened
pub record IsClean (t : SpokenTurn) : Type 0 where
  pub up : t.arrived ≡ sound_of t.said
  pub down : t.heard ≡ sound_of_reply t.reply
  pub unrefused : t.refused ≡ false
  pub goes : t.wish ≡ Wish.Go
  pub unpaused : t.pause ≡ false

abbrev pub AreClean : History → Type 0
AreClean [] = Unit {0}
AreClean (t ∷ past) = IsClean t × AreClean past

-- after the grant and k blocks, all of them known and got
pub record Stage (plan : Plan) (h : History) (k : ℕ) : Type 0 where
  pub known_is : known h ≡ k
  pub got_is : length (got h) ≡ k
  pub bid : was_bid h ≡ true
  pub granted : has_grant h ≡ true
  pub unheard : has_heard_rvi h ≡ false
  pub untired : gives_up_now h ≡ false
  pub goes_on : is_over h ≡ false
  pub due : saying plan false h ≡ said_of (due_after_progress (what_follows plan k) false false)

-- a turn of progress leads on
stage_of : (plan : Plan) (past : History) (t : SpokenTurn) (k : ℕ) → is_progress past t ≡ true → known (t ∷ past) ≡ k → length (got (t ∷ past)) ≡ k → was_bid (t ∷ past) ≡ true → has_grant (t ∷ past) ≡ true
    → has_heard_rvi (t ∷ past) ≡ false → is_last t ≡ false → t.pause ≡ false → Stage plan (t ∷ past) k
stage_of plan past t k progress kn gt bid granted unheard last pause = record {
  known_is = kn;
  got_is = gt;
  bid = bid;
  granted = granted;
  unheard = unheard;
  untired = rw progress refl;
  goes_on = last;
  due = rw (last, granted, progress, kn, unheard, pause) refl;
}

-- ---- The bid.

bid_turn : SpokenTurn
bid_turn = turn Say.Bid Sound.Enq false (Some Reply.Ack0) Sound.Ack0 Wish.Go false

first_stage : (plan : Plan) → Stage plan (bid_turn ∷ []) 0
unfolding bid_turn
first_stage plan = stage_of plan [] (turn Say.Bid Sound.Enq false (Some Reply.Ack0) Sound.Ack0 Wish.Go false) 0 refl refl refl refl refl refl refl refl

first_turn : (plan : Plan) (t : SpokenTurn) → Follows plan (gives_up_now []) [] t → IsClean t → t ≡ bid_turn
unfolding bid_turn
first_turn plan t f c =
    let said : t.said ≡ Say.Bid = f.said in
    let arrived : t.arrived ≡ Sound.Enq = c.up ∙ ap sound_of said in
    let reply : t.reply ≡ Some Reply.Ack0 = f.replied ∙ ap (λ x. replying [] x t.refused t.wish) arrived ∙ ap (λ w. replying [] Sound.Enq t.refused w) c.goes in
    same-fields t.said _ t.arrived _ t.refused _ t.reply _ t.heard _ t.wish _ t.pause _ said arrived c.unrefused reply (c.down ∙ ap sound_of_reply reply) c.goes c.unpaused

-- ---- A block.

abbrev ack : Bool → Reply
ack even = if even then Reply.Ack0 else Reply.Ack1

abbrev block_turn : Bool → SpokenTurn
block_turn even = turn Say.Block Sound.Block false (Some (ack even)) (sound_of_reply (Some (ack even))) Wish.Go false

block_stage : (plan : Plan) (past : History) (k : ℕ) (even : Bool) → is_even (k + 1) ≡ even → Stage plan past k → Stage plan (block_turn even ∷ past) (k + 1)
block_stage plan past k true e s =
    let counting : is_counting past (block_turn true) ≡ true = ap (λ n. is_even (n + 1)) s.known_is ∙ e in
    stage_of plan past (block_turn true) (k + 1) counting (rw counting (ap (λ n. n + 1) s.known_is)) (length-append (got past) ((known past + 1) ∷ []) ∙ ap (λ n. n + 1) s.got_is) s.bid s.granted s.unheard refl refl
block_stage plan past k false e s =
    let counting : is_counting past (block_turn false) ≡ true = ap (λ n. not (is_even (n + 1))) s.known_is ∙ ap not e in
    stage_of plan past (block_turn false) (k + 1) counting (rw counting (ap (λ n. n + 1) s.known_is)) (length-append (got past) ((known past + 1) ∷ []) ∙ ap (λ n. n + 1) s.got_is) s.bid s.granted s.unheard refl refl

-- what is due after a stage
stage_says : (plan : Plan) (past : History) (k : ℕ) (t : SpokenTurn) (next : Next) → what_follows plan k ≡ next → Follows plan (gives_up_now past) past t → Stage plan past k → t.said ≡ said_of (due_after_progress next false false)
stage_says plan past k t next e f s = f.said ∙ ap (λ g. saying plan g past) s.untired ∙ s.due ∙ ap (λ n. said_of (due_after_progress n false false)) e

said_block : (plan : Plan) (past : History) (k : ℕ) (t : SpokenTurn) → t.said ≡ Say.Block → Follows plan (gives_up_now past) past t → IsClean t → Stage plan past k → t ≡ block_turn (is_even (k + 1))
said_block plan past k t said f c s =
    let arrived : t.arrived ≡ Sound.Block = c.up ∙ ap sound_of said in
    let reply : t.reply ≡ Some (ack_of (k + 1)) = f.replied ∙ rw (arrived, c.unrefused, c.goes, s.bid, s.got_is) refl in
    same-fields t.said _ t.arrived _ t.refused _ t.reply _ t.heard _ t.wish _ t.pause _ said arrived c.unrefused reply (c.down ∙ ap sound_of_reply reply) c.goes c.unpaused

-- ---- The end.

pub record Finished (plan : Plan) (h : History) : Type 0 where
  pub known_is : known h ≡ length plan
  pub got_is : length (got h) ≡ length plan
  pub over : is_over h ≡ true

pub done_past : (plan : Plan) (k : ℕ) → what_follows plan k ≡ Next.Done → length plan ≤ k
done_past [] k e = omega arith
done_past (true ∷ plan) zero e = absurd cc
done_past (false ∷ plan) zero e = absurd cc
done_past (b ∷ plan) (suc k) e = let h : length plan ≤ k = done_past plan k e in omega (arith, h)

known_end : (past : History) (t : SpokenTurn) → t.said ≡ Say.End → known (t ∷ past) ≡ known past
known_end past t e = rw e refl

got_end : (past : History) (t : SpokenTurn) → t.arrived ≡ Sound.Eot → got (t ∷ past) ≡ got past
got_end past t e = rw e refl

over_end : (past : History) (t : SpokenTurn) → t.said ≡ Say.End → is_over (t ∷ past) ≡ true
over_end past t e = rw e refl

said_end : (plan : Plan) (past : History) (k : ℕ) (t : SpokenTurn) → IsConversation plan past → t.said ≡ Say.End → what_follows plan k ≡ Next.Done → IsClean t → Stage plan past k → Finished plan (t ∷ past)
said_end plan past k t conversation said done c s =
    let arrived : t.arrived ≡ Sound.Eot = c.up ∙ ap sound_of said in
    let most : known past ≤ length plan = (stays_within_plan plan past (conversations_may_be_spoken plan past conversation)).0 in
    let least : length plan ≤ k = done_past plan k done in
    let all : k ≡ length plan = omega (arith, most, least, s.known_is) in
    record { known_is = known_end past t said ∙ s.known_is ∙ all; got_is = ap length (got_end past t arrived) ∙ s.got_is ∙ all; over = over_end past t said }

-- ---- Where a clean conversation stands.

abbrev pub Standing : Plan → History → Type 0
Standing plan h = (h ≡ []) ⊎ (((k : ℕ) × (length h ≡ k + 1) × Stage plan h k) ⊎ Finished plan h)

one_turn : (plan : Plan) (past : History) (k : ℕ) (t : SpokenTurn) (next : Next) → what_follows plan k ≡ next → IsConversation plan past → Follows plan (gives_up_now past) past t → IsClean t → length past ≡ k + 1 → Stage plan past k
    → Standing plan (t ∷ past)
one_turn plan past k t Next.Done e conversation f c long s = inr (inr (said_end plan past k t conversation (stage_says plan past k t Next.Done e f s) e c s))
one_turn plan past k t Next.NewJob e conversation f c long s =
    let is : t ≡ block_turn (is_even (k + 1)) = said_block plan past k t (stage_says plan past k t Next.NewJob e f s) f c s in
    inr (inl (k + 1, omega (arith, long), subst (λ u. Stage plan (u ∷ past) (k + 1)) (sym is) (block_stage plan past k (is_even (k + 1)) refl s)))
one_turn plan past k t Next.Block e conversation f c long s =
    let is : t ≡ block_turn (is_even (k + 1)) = said_block plan past k t (stage_says plan past k t Next.Block e f s) f c s in
    inr (inl (k + 1, omega (arith, long), subst (λ u. Stage plan (u ∷ past) (k + 1)) (sym is) (block_stage plan past k (is_even (k + 1)) refl s)))

begin : (plan : Plan) (past : History) (t : SpokenTurn) → past ≡ [] → Follows plan (gives_up_now past) past t → IsClean t → Standing plan (t ∷ past)
begin plan [] t e f c = inr (inl (0, refl, subst (λ u. Stage plan (u ∷ []) 0) (sym (first_turn plan t f c)) (first_stage plan)))
begin plan (u ∷ past) t e f c = absurd cc

pub clean_stands : (plan : Plan) (h : History) → IsConversation plan h → AreClean h → Standing plan h
clean_stands plan [] conversation clean = inl refl
clean_stands plan (t ∷ past) conversation clean = elim (clean_stands plan past conversation.1 clean.1) [
  | inl none ↦ begin plan past t none conversation.0 clean.0
  | inr (inl (k, long, s)) ↦ one_turn plan past k t (what_follows plan k) refl conversation.1 conversation.0 clean.0 long s
  | inr (inr done) ↦ absurd (true≢false (sym done.over ∙ conversation.0.goes_on))
]
