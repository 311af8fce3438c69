-- What clean turns bring about: a bid is granted, a block is counted, and an inquiry counts the block or has it said again.
use Rattle.std.proofs.Common.{◌≡◌, ◌≢◌, inl, inr, ℕ, ◌+◌, Bool, true, false, if◌then◌else◌, ◌∷◌, length, Option, Some, None, refl, sym, ◌∙◌}
use Rattle.std.proofs.lemmas.Bool.{true≢false, cases_Bool}
use Rattle.bsc_link.specs.declared.reply.Reply.{Reply}
use Rattle.bsc_link.specs.declared.say.Say.{Say}
use Rattle.bsc_link.specs.declared.sound.Sound.{Sound}
use Rattle.bsc_link.specs.declared.wish.Wish.{Wish}
use Rattle.bsc_history.specs.declared.spoken_turn.SpokenTurn.{SpokenTurn}
use Rattle.bsc_history.specs.History.{Plan, History, is_even, is_block_turn, is_last}
use Rattle.bsc_history.specs.Known.{known, acknowledges, has_heard_rvi, has_grant, is_grant, is_counting, is_progress}
use Rattle.bsc_history.specs.Got.{got}
use Rattle.bsc_history.specs.ReplyRule.{was_bid, last_reply, has_made_rvi, ack_of, answer_to_enq, replying}
use Rattle.bsc_history.specs.SayingRule.{due_after_inquiry, due_without_progress, said_of}
use Rattle.bsc_history.specs.Fate.{sound_of, sound_of_reply}
use Rattle.bsc_history.specs.Conversation.{Follows}
use Rattle.bsc_history.proofs.CleanTurns.{IsClean}
use Rattle.bsc_history.proofs.Line.{comes}
use Rattle.bsc_history.proofs.OneConversation.{true-false}
use Rattle.bsc_history.proofs.Phases.{Phase, Early, Level, Ahead, IsEarly, IsWaiting, level-calm, saying-speaks}
use Rattle.bsc_history.proofs.Plain.{Steady, IsPlainReply}
use Rattle.bsc_history.proofs.Replies.{Fresh}
use Rattle.bsc_history.proofs.Saying.{ungranted-from_bid}

-- ---- A block is acknowledged.

ack_acknowledges : (n : ℕ) (noted even : Bool) → is_even n ≡ even → acknowledges n noted (sound_of_reply (Some (if even then Reply.Ack0 else Reply.Ack1))) ≡ true
ack_acknowledges n noted true e = e
ack_acknowledges n noted false e = rw e refl

pub clean_block : (past : History) (t : SpokenTurn) → Level past → IsClean t → sound_of t.said ≡ Sound.Block → is_block_turn t ≡ true → t.reply ≡ replying past t.arrived t.refused t.wish → is_counting past t ≡ true
clean_block past t p c block spoke replied =
    let arrived : t.arrived ≡ Sound.Block = c.up ∙ block in
    let reply : t.reply ≡ Some (ack_of (known past + 1)) = replied ∙ rw (arrived, c.unrefused, c.goes, p.bid_for, p.level) refl in
    let heard : t.heard ≡ sound_of_reply (Some (ack_of (known past + 1))) = c.down ∙ rw reply refl in
    rw (spoke, heard) (ack_acknowledges (known past + 1) (has_heard_rvi past) (is_even (known past + 1)) refl)

-- ---- An inquiry is answered by the last reply.

clean_inquiry : (past : History) (t : SpokenTurn) (n : ℕ) → IsClean t → t.said ≡ Say.Ask → was_bid past ≡ true → length (got past) ≡ n → t.reply ≡ replying past t.arrived t.refused t.wish → t.heard ≡ sound_of_reply (answer_to_enq n (last_reply past) Wish.Go)
clean_inquiry past t n c said bid many replied =
    let arrived : t.arrived ≡ Sound.Enq = c.up ∙ rw said refl in
    let reply : t.reply ≡ answer_to_enq n (last_reply past) Wish.Go = replied ∙ rw (arrived, c.goes, bid, many) refl in
    c.down ∙ rw reply refl

fresh_acknowledges : (n : ℕ) (made noted : Bool) (last : Option Reply) → Fresh n made noted last → IsPlainReply last → acknowledges n noted (sound_of_reply (answer_to_enq n last Wish.Go)) ≡ true
fresh_acknowledges n made noted None f p = absurd f
fresh_acknowledges n made noted (Some Reply.Nak) f p = absurd f
fresh_acknowledges n made noted (Some Reply.Ack0) f p = f.0
fresh_acknowledges n made noted (Some Reply.Ack1) f p = rw f.0 refl
fresh_acknowledges n made noted (Some Reply.Wack) f p = absurd p
fresh_acknowledges n made noted (Some Reply.Rvi) f p = absurd p

-- where the block was got, it counts
inquiry_ahead : (plan : Plan) (past : History) (t : SpokenTurn) → Ahead past → Steady plan past → IsClean t → t.said ≡ Say.Ask → t.reply ≡ replying past t.arrived t.refused t.wish → is_counting past t ≡ true
inquiry_ahead plan past t p s c said replied =
    let heard = clean_inquiry past t (known past + 1) c said p.bid_for p.ahead replied in
    let spoke : is_block_turn t ≡ true = rw said refl in
    rw (spoke, heard) (fresh_acknowledges (known past + 1) (has_made_rvi past) (has_heard_rvi past) (last_reply past) p.fresh s.plain)

again_after : (n : ℕ) (last : Option Reply) → IsPlainReply last → last ≢ None → said_of (due_after_inquiry (sound_of_reply (answer_to_enq n last Wish.Go))) ≡ Say.Again
again_after n None p e = absurd (e refl)
again_after n (Some Reply.Nak) p e = refl
again_after n (Some Reply.Ack0) p e = refl
again_after n (Some Reply.Ack1) p e = refl
again_after n (Some _) p e = absurd p

-- where it wasn't, the block is said again
inquiry_level : (plan : Plan) (past : History) (t : SpokenTurn) → Level past → Steady plan past → IsClean t → t.said ≡ Say.Ask → t.reply ≡ replying past t.arrived t.refused t.wish → said_of (due_without_progress t) ≡ Say.Again
inquiry_level plan past t p s c said replied =
    let heard = clean_inquiry past t (known past) c said p.bid_for p.level replied in
    rw (said, heard) (again_after (known past) (last_reply past) s.plain (s.answered p.bid_for))

-- ---- A bid is granted.

early_answer : (n : ℕ) (last : Option Reply) → IsEarly last → IsPlainReply last → last ≢ None → answer_to_enq n last Wish.Go ≡ Some Reply.Ack0
early_answer n None e p f = absurd (f refl)
early_answer n (Some Reply.Ack0) e p f = refl
early_answer n (Some Reply.Wack) e p f = absurd p
early_answer n (Some _) e p f = absurd e

bid_answer : (plan : Plan) (past : History) (refused : Bool) → Early past → Steady plan past → replying past Sound.Enq refused Wish.Go ≡ Some Reply.Ack0
bid_answer plan past refused p s = elim (cases_Bool (was_bid past)) [
  | inl bid ↦ rw bid (early_answer (length (got past)) (last_reply past) p.early s.plain (s.answered bid))
  | inr none ↦ rw none refl
]

pub clean_bid : (plan : Plan) (past : History) (t : SpokenTurn) → Early past → Steady plan past → IsClean t → t.said ≡ Say.Bid → t.reply ≡ replying past t.arrived t.refused t.wish → is_grant t ≡ true
clean_bid plan past t p s c said replied =
    let arrived : t.arrived ≡ Sound.Enq = c.up ∙ rw said refl in
    let reply : t.reply ≡ Some Reply.Ack0 = replied ∙ rw (arrived, c.goes) (bid_answer plan past t.refused p s) in
    let heard : t.heard ≡ Sound.Ack0 = c.down ∙ rw reply refl in
    rw (said, heard) refl

-- ---- After a clean turn without progress the block is said again.

pub counting_progress : (past : History) (t : SpokenTurn) → is_counting past t ≡ true → is_progress past t ≡ false → ⊥
counting_progress past t counting none = true-false (is_counting past t) counting (elim (cases_Bool (is_grant t)) [ inl g ↦ absurd (true≢false (rw g at none)) | inr g ↦ rw g at none ])

pub stalled_clean : (plan : Plan) (gives_up : Bool) (past : History) (t : SpokenTurn) (said : Say) → Follows plan gives_up past t → t.said ≡ said → Phase past → Steady plan past → has_grant past ≡ true → IsClean t → is_progress past t ≡ false → is_last t ≡ false
    → Level (t ∷ past) × (said_of (due_without_progress t) ≡ Say.Again)
stalled_clean plan gives_up past t said f e (inl p) s granted c none going = absurd (true-false _ granted p.ungranted)
stalled_clean plan gives_up past t Say.Block f e (inr (inl p)) s granted c none going = absurd (counting_progress past t (clean_block past t p c (rw e refl) (rw e refl) f.replied) none)
stalled_clean plan gives_up past t Say.Again f e (inr (inl p)) s granted c none going = absurd (counting_progress past t (clean_block past t p c (rw e refl) (rw e refl) f.replied) none)
stalled_clean plan gives_up past t Say.Ask f e (inr (inl p)) s granted c none going =
    let arrived : t.arrived ≡ Sound.Enq = c.up ∙ rw e refl in
    (level-calm past t p (rw arrived refl) f.replied (comes _ _ f.heard), inquiry_level plan past t p s c e f.replied)
stalled_clean plan gives_up past t Say.Ask f e (inr (inr p)) s granted c none going = absurd (counting_progress past t (inquiry_ahead plan past t p s c e f.replied) none)
stalled_clean plan gives_up past t Say.Block f e (inr (inr p)) s granted c none going = absurd (let w : IsWaiting t.said = rw f.said (p.waits plan gives_up) in rw e at w)
stalled_clean plan gives_up past t Say.Again f e (inr (inr p)) s granted c none going = absurd (let w : IsWaiting t.said = rw f.said (p.waits plan gives_up) in rw e at w)
stalled_clean plan gives_up past t Say.Delay f e (inr p) s granted c none going = absurd (s.undelayed gives_up (sym f.said ∙ e))
stalled_clean plan gives_up past t Say.Bid f e (inr p) s granted c none going = absurd (true-false _ granted (ungranted-from_bid plan gives_up past f.goes_on (sym f.said ∙ e)))
stalled_clean plan gives_up past t Say.End f e (inr p) s granted c none going = absurd (true≢false (rw e at going))
stalled_clean plan gives_up past t Say.Nothing f e (inr p) s granted c none going = absurd (saying-speaks plan gives_up past f.goes_on (sym f.said ∙ e))
