-- The bound over histories: on a fair line no eight turns pass without progress, so seven turns for the bid and seven for each block are
-- enough.
use Rattle.std.proofs.Common.{◌≡◌, ◌≢◌, ◌⊎◌, inl, inr, ℕ, zero, suc, ◌+◌, ◌*◌, ◌<◌, ◌≤◌, Bool, true, false, [], ◌∷◌, length, take, Option, Some, None, refl, sym, ◌∙◌, arith, add-one}
use Rattle.std.proofs.lemmas.Bool.{true≢false, false≢true, cases_Bool, cases_lt, lt-leb}
use Rattle.bsc_link.proofs.Rvi.{or-true}
use Rattle.bsc_link.specs.declared.next.Next.{Next}
use Rattle.bsc_link.specs.declared.reply.Reply.{Reply}
use Rattle.bsc_link.specs.declared.say.Say.{Say}
use Rattle.bsc_link.specs.declared.sound.Sound.{Sound}
use Rattle.bsc_history.specs.declared.spoken_turn.SpokenTurn.{SpokenTurn}
use Rattle.bsc_history.specs.History.{Plan, History, what_follows, is_over, is_last}
use Rattle.bsc_history.specs.Known.{known, tries, holds, has_grant, is_grant, is_counting, is_progress, is_hold, is_try, gives_up_now}
use Rattle.bsc_history.specs.SayingRule.{due_after_progress, due_after_delay, due_after_block, due_after_inquiry, due_without_progress, said_of, saying}
use Rattle.bsc_history.specs.Fate.{sound_of_reply}
use Rattle.bsc_history.specs.Conversation.{Follows, MayBeSpoken, IsConversation}
use Rattle.bsc_history.proofs.Agreement.{conversations_may_be_spoken}
use Rattle.bsc_history.proofs.CleanTurns.{IsClean, done_past}
use Rattle.bsc_history.proofs.Clearing.{clean_block, clean_bid, stalled_clean, counting_progress}
use Rattle.bsc_history.proofs.Line.{ComesAs, comes}
use Rattle.bsc_history.proofs.OneConversation.{true-false}
use Rattle.bsc_history.proofs.Phases.{or-false, Phase, Phase-from_spoken, Early, Level}
use Rattle.bsc_history.proofs.Plain.{IsPlain, ArePlain, Steady, steady, unheld_turn}
use Rattle.bsc_history.proofs.Saying.{ungranted-from_bid}
use Rattle.bsc_history.proofs.Within.{known-within, or-left-false}

-- two neighbouring turns are clean
abbrev pub HasCleanPair : History → Type 0
HasCleanPair [] = ⊥
HasCleanPair (t ∷ []) = ⊥
HasCleanPair (t ∷ u ∷ past) = (IsClean t × IsClean u) ⊎ HasCleanPair (u ∷ past)

-- the eight newest turns hold two neighbouring clean ones
abbrev pub IsFairNow : History → Type 0
IsFairNow h = 8 ≤ length h → HasCleanPair (take 8 h)

-- each eight neighbouring turns do
abbrev pub AreFair : History → Type 0
AreFair [] = Unit {0}
AreFair (t ∷ past) = IsFairNow (t ∷ past) × AreFair past

-- ---- Turns without a clean pair.

-- none of them is clean
abbrev NoneClean : History → Type 0
NoneClean [] = Unit {0}
NoneClean (t ∷ past) = (IsClean t → ⊥) × NoneClean past

none_pair : (n : ℕ) (t : SpokenTurn) (past : History) → NoneClean past → HasCleanPair (t ∷ take n past) → ⊥
none_pair zero t past none pair = pair
none_pair (suc n) t [] none pair = pair
none_pair (suc n) t (u ∷ past) none (inl p) = none.0 p.1
none_pair (suc n) t (u ∷ past) none (inr pair) = none_pair n u past none.1 pair

abbrev IsNewestClean : History → Type 0
IsNewestClean [] = ⊥
IsNewestClean (t ∷ past) = IsClean t

abbrev Unless : Bool → Type 0 → Type 0
Unless true P = Unit {0}
Unless false P = P

-- since the last progress, that turn included, no two neighbouring turns are clean
abbrev NoPair : History → Type 0
NoPair [] = Unit {0}
NoPair (t ∷ past) = Unless (is_progress past t) ((IsClean t → IsNewestClean past → ⊥) × NoPair past)

pair_apart : (n : ℕ) (t : SpokenTurn) (past : History) → (IsClean t → IsNewestClean past → ⊥) → (HasCleanPair (take n past) → ⊥) → HasCleanPair (t ∷ take n past) → ⊥
pair_apart zero t past apart none pair = pair
pair_apart (suc n) t [] apart none pair = pair
pair_apart (suc n) t (u ∷ past) apart none (inl p) = apart p.0 p.1
pair_apart (suc n) t (u ∷ past) apart none (inr pair) = none pair

-- each turn since the last progress is a try
abbrev AllTries : History → Type 0
AllTries [] = Unit {0}
AllTries (t ∷ past) = (is_progress past t ≡ false → is_try past t ≡ true) × AllTries past

-- the tries and the turn of progress before them hold no clean pair
window : (h : History) → NoPair h → AllTries h → HasCleanPair (take (tries h + 1) h) → ⊥
window [] none all pair = pair
window (t ∷ past) none all pair = elim (cases_Bool (is_progress past t)) [
  | inl progress ↦
      let m : tries (t ∷ past) ≡ 0 = rw progress refl in
      let p : HasCleanPair (take 1 (t ∷ past)) = rw m at pair in
      p
  | inr stalled ↦
      let m : tries (t ∷ past) ≡ tries past + 1 = rw (all.0 stalled, stalled) refl in
      let p : HasCleanPair (take (suc (tries past + 1)) (t ∷ past)) = rw (m, add-one (tries past + 1)) at pair in
      let apart : (IsClean t → IsNewestClean past → ⊥) × NoPair past = rw stalled at none in
      pair_apart (tries past + 1) t past apart.0 (window past apart.1 all.1) p
]

-- ---- What is said.

hopeful : (h : History) → tries h ≤ 6 → holds h ≡ 0 → gives_up_now h ≡ false
hopeful h few none = rw (lt-leb 7 (tries h) (omega arith), none) refl

follows_left : (plan : Plan) (n : ℕ) → n < length plan → what_follows plan n ≢ Next.Done
follows_left plan n left = λ done. let most : length plan ≤ n = done_past plan n done in omega arith

next_block : (next : Next) (noted pause : Bool) → noted ≡ false → pause ≡ false → next ≢ Next.Done → said_of (due_after_progress next noted pause) ≡ Say.Block
next_block next true pause e f left = absurd (true≢false e)
next_block next noted true e f left = absurd (true≢false f)
next_block Next.Done false false e f left = absurd (left refl)
next_block Next.NewJob false false e f left = refl
next_block Next.Block false false e f left = refl

endless_block : (heard : Sound) → said_of (due_after_block heard) ≢ Say.End
endless_block Sound.Nak = λ e. cc
endless_block _ = λ e. cc

endless_inquiry : (heard : Sound) → said_of (due_after_inquiry heard) ≢ Say.End
endless_inquiry Sound.Nak = λ e. cc
endless_inquiry Sound.Ack0 = λ e. cc
endless_inquiry Sound.Ack1 = λ e. cc
endless_inquiry Sound.Rvi = λ e. cc
endless_inquiry _ = λ e. cc

endless_delay : (heard : Sound) (pause : Bool) → said_of (due_after_delay heard pause) ≢ Say.End
endless_delay Sound.Nak true = λ e. cc
endless_delay Sound.Nak false = λ e. cc
endless_delay _ pause = λ e. cc

endless_on : (t : SpokenTurn) (said : Say) → t.said ≡ said → said_of (due_without_progress t) ≢ Say.End
endless_on t Say.Ask e = rw e (endless_inquiry t.heard)
endless_on t Say.Delay e = rw e (endless_delay t.heard t.pause)
endless_on t Say.Block e = rw e (endless_block t.heard)
endless_on t Say.Again e = rw e (endless_block t.heard)
endless_on t _ e = rw e (λ f. cc)

no_eot_by : (said heard : Sound) → said ≢ Sound.Eot → (heard ≡ said) ⊎ ((heard ≡ Sound.Quiet) ⊎ (heard ≡ Sound.Noise)) → heard ≢ Sound.Eot
no_eot_by said heard f (inl e) = rw e f
no_eot_by said heard f (inr (inl e)) = rw e (λ g. cc)
no_eot_by said heard f (inr (inr e)) = rw e (λ g. cc)

-- no reply is heard as an EOT
no_eot : (reply : Option Reply) (heard : Sound) → ComesAs (sound_of_reply reply) heard → heard ≢ Sound.Eot
no_eot None heard may = rw may (λ e. cc)
no_eot (Some Reply.Ack0) heard may = no_eot_by Sound.Ack0 heard (λ e. cc) may
no_eot (Some Reply.Ack1) heard may = no_eot_by Sound.Ack1 heard (λ e. cc) may
no_eot (Some Reply.Nak) heard may = no_eot_by Sound.Nak heard (λ e. cc) may
no_eot (Some Reply.Wack) heard may = no_eot_by Sound.Wack heard (λ e. cc) may
no_eot (Some Reply.Rvi) heard may = no_eot_by Sound.Rvi heard (λ e. cc) may

eot_heard : (heard : Sound) → elim heard [ Sound.Eot ↦ true | _ ↦ false ] ≡ true → heard ≡ Sound.Eot
eot_heard Sound.Eot e = refl
eot_heard _ e = absurd (false≢true e)

last_end : (t : SpokenTurn) (said : Say) → t.said ≡ said → t.heard ≢ Sound.Eot → is_last t ≡ true → said ≡ Say.End
last_end t Say.End e f last = refl
last_end t Say.Bid e f last = absurd (f (eot_heard t.heard (rw e at last)))
last_end t _ e f last = absurd (f (eot_heard t.heard (rw e at last)))

-- a turn that doesn't say EOT isn't the last
goes_said : (plan : Plan) (gives_up : Bool) (past : History) (t : SpokenTurn) → Follows plan gives_up past t → t.said ≢ Say.End → is_last t ≡ false
goes_said plan gives_up past t f said = elim (cases_Bool (is_last t)) [
  | inr goes ↦ goes
  | inl last ↦ absurd (said (last_end t t.said refl (no_eot t.reply t.heard (comes _ _ f.heard)) last))
]

-- ---- A conversation with blocks left.

-- no grant yet: every turn was a try, and none was clean
record Waiting (h : History) : Type 0 where
  ungranted : has_grant h ≡ false
  counted : tries h ≡ length h
  few : tries h ≤ 7
  unclean : NoneClean h
  all : AllTries h

-- after the grant: at most seven turns have gone by for the bid and for each block, and the tries since then
record Granted (h : History) : Type 0 where
  granted : has_grant h ≡ true
  soon : length h ≤ 7 + 7 * known h + tries h
  few : tries h ≤ 6
  longer : tries h + 1 ≤ length h
  apart : NoPair h
  all : AllTries h

-- what holds of every such history that goes on
record IsOn (plan : Plan) (h : History) : Type 0 where
  goes : is_over h ≡ false
  left : known h < length plan
  phase : Phase h
  steady_state : Steady plan h

-- such a history after the grant, its last turn u, and the turn t that follows it
record Steps (plan : Plan) (past : History) (u t : SpokenTurn) : Type 0 where
  before : Follows plan (gives_up_now past) past u
  phase : Phase past
  steady_state : Steady plan past
  plain_before : IsPlain u
  granted : Granted (u ∷ past)
  on : IsOn plan (u ∷ past)
  follows : Follows plan (gives_up_now (u ∷ past)) (u ∷ past) t
  plain : IsPlain t

-- after progress the next block is said
says_block : (plan : Plan) (past : History) (u t : SpokenTurn) → Steps plan past u t → is_progress past u ≡ true → saying plan (gives_up_now (u ∷ past)) (u ∷ past) ≡ Say.Block
says_block plan past u t s progress =
    rw (hopeful (u ∷ past) s.granted.few s.on.steady_state.unheld, s.on.goes, s.granted.granted, progress)
    (next_block _ _ _ s.on.steady_state.unheard s.plain_before.unpaused (follows_left plan (known (u ∷ past)) s.on.left))

-- else what the last turn asks for
says_on : (plan : Plan) (past : History) (u t : SpokenTurn) → Steps plan past u t → is_progress past u ≡ false → saying plan (gives_up_now (u ∷ past)) (u ∷ past) ≡ said_of (due_without_progress u)
says_on plan past u t s stalled = rw (hopeful (u ∷ past) s.granted.few s.on.steady_state.unheld, s.on.goes, s.granted.granted, stalled) refl

level_from_block : (plan : Plan) (gives_up : Bool) (h : History) → Phase h → has_grant h ≡ true → saying plan gives_up h ≡ Say.Block → Level h
level_from_block plan gives_up h (inl p) granted says = absurd (true-false _ granted p.ungranted)
level_from_block plan gives_up h (inr (inl p)) granted says = p
level_from_block plan gives_up h (inr (inr p)) granted says = absurd (rw says at (p.waits plan gives_up))

-- a clean turn after progress, or after a clean turn, counts
clean_counts : (plan : Plan) (past : History) (u t : SpokenTurn) → Steps plan past u t → IsClean t → (is_progress past u ≡ false → IsClean u) → is_counting (u ∷ past) t ≡ true
clean_counts plan past u t s c cu = elim (cases_Bool (is_progress past u)) [
  | inl progress ↦
      let says = says_block plan past u t s progress in
      let said : t.said ≡ Say.Block = s.follows.said ∙ says in
      clean_block (u ∷ past) t (level_from_block plan (gives_up_now (u ∷ past)) (u ∷ past) s.on.phase s.granted.granted says) c (rw said refl) (rw said refl) s.follows.replied
  | inr stalled ↦
      let grant : is_grant u ≡ false = or-left-false _ _ stalled in
      let granted : has_grant past ≡ true = rw grant at s.granted.granted in
      let again = stalled_clean plan (gives_up_now past) past u u.said s.before refl s.phase s.steady_state granted (cu stalled) stalled s.on.goes in
      let said : t.said ≡ Say.Again = s.follows.said ∙ says_on plan past u t s stalled ∙ again.1 in
      clean_block (u ∷ past) t again.0 c (rw said refl) (rw said refl) s.follows.replied
]

-- ---- Each turn.

-- a turn that is neither a hold nor the last is progress or a try
try_from : (past : History) (t : SpokenTurn) → is_hold past t ≡ false → is_last t ≡ false → is_progress past t ≡ false → is_try past t ≡ true
try_from past t hold last progress = rw (hold, progress, last) refl

grant_bid : (t : SpokenTurn) (said : Say) → t.said ≡ said → is_grant t ≡ true → said ≡ Say.Bid
grant_bid t Say.Bid e g = refl
grant_bid t _ e g = absurd (false≢true (rw e at g))

-- after the grant progress counts a block
progress_counting : (plan : Plan) (gives_up : Bool) (h : History) (t : SpokenTurn) → Follows plan gives_up h t → has_grant h ≡ true → is_progress h t ≡ true → is_counting h t ≡ true
progress_counting plan gives_up h t f granted progress = elim (cases_Bool (is_grant t)) [
  | inl g ↦ absurd (true-false _ granted (ungranted-from_bid plan gives_up h f.goes_on (sym f.said ∙ grant_bid t t.said refl g)))
  | inr g ↦ rw g at progress
]

granted_goes : (plan : Plan) (past : History) (u t : SpokenTurn) → Steps plan past u t → is_last t ≡ false
granted_goes plan past u t s = goes_said plan (gives_up_now (u ∷ past)) (u ∷ past) t s.follows (λ said. elim (cases_Bool (is_progress past u)) [
  | inl progress ↦ let e : t.said ≡ Say.Block = s.follows.said ∙ says_block plan past u t s progress in absurd cc
  | inr stalled ↦ endless_on u u.said refl (sym (says_on plan past u t s stalled) ∙ sym s.follows.said ∙ said)
])

granted_progress : (plan : Plan) (past : History) (u t : SpokenTurn) → Steps plan past u t → is_progress (u ∷ past) t ≡ true → Granted (t ∷ u ∷ past)
granted_progress plan past u t s progress =
    let h = u ∷ past in
    let one : length (t ∷ h) ≡ length h + 1 = omega arith in
    let more : known (t ∷ h) ≡ known h + 1 = rw (progress_counting plan (gives_up_now h) h t s.follows s.granted.granted progress) refl in
    let none : tries (t ∷ h) ≡ 0 = rw progress refl in
    record {
      granted = or-true _ _ s.granted.granted;
      soon = omega (arith, one, more, none, s.granted.soon, s.granted.few);
      few = omega (arith, none);
      longer = omega (arith, one, none);
      apart = rw progress tt;
      all = (λ e. absurd (true-false _ progress e), s.granted.all);
    }

-- since the eight newest turns hold a clean pair, there are fewer than seven tries
few_tries : (h : History) → IsFairNow h → NoPair h → AllTries h → tries h ≤ 7 → tries h + 1 ≤ length h → tries h ≤ 6
few_tries h fair apart all few longer = elim (cases_lt (tries h) 7) [
  | inl l ↦ omega (arith, l)
  | inr l ↦
      let eight : tries h + 1 ≡ 8 = omega (arith, l, few) in
      absurd (window h apart all (rw eight (fair (omega (arith, eight, longer)))))
]

granted_try : (plan : Plan) (past : History) (u t : SpokenTurn) → Steps plan past u t → IsFairNow (t ∷ u ∷ past) → is_progress (u ∷ past) t ≡ false → Granted (t ∷ u ∷ past)
granted_try plan past u t s fair stalled =
    let h = u ∷ past in
    let unheld : is_hold h t ≡ false = unheld_turn plan (gives_up_now h) h t s.follows s.plain s.on.steady_state in
    let a_try : is_try h t ≡ true = try_from h t unheld (granted_goes plan past u t s) stalled in
    let one : length (t ∷ h) ≡ length h + 1 = omega arith in
    let same : known (t ∷ h) ≡ known h = rw (or-false (is_grant t) _ stalled) refl in
    let more : tries (t ∷ h) ≡ tries h + 1 = rw (a_try, stalled) refl in
    let apart : NoPair (t ∷ h) = rw stalled ((λ c cu. counting_progress h t (clean_counts plan past u t s c (λ _. cu)) stalled), s.granted.apart) in
    let all : AllTries (t ∷ h) = (λ _. a_try, s.granted.all) in
    let longer : tries (t ∷ h) + 1 ≤ length (t ∷ h) = omega (arith, more, one, s.granted.longer) in
    record {
      granted = or-true _ _ s.granted.granted;
      soon = omega (arith, one, same, more, s.granted.soon);
      few = few_tries (t ∷ h) fair apart all (omega (arith, more, s.granted.few)) longer;
      longer = longer;
      apart = apart;
      all = all;
    }

granted_step : (plan : Plan) (past : History) (u t : SpokenTurn) → Steps plan past u t → IsFairNow (t ∷ u ∷ past) → Granted (t ∷ u ∷ past)
granted_step plan past u t s fair = elim (cases_Bool (is_progress (u ∷ past) t)) [
  | inl progress ↦ granted_progress plan past u t s progress
  | inr stalled ↦ granted_try plan past u t s fair stalled
]

-- ---- The turn that follows a history without a grant.

early_from_phase : (h : History) → Phase h → has_grant h ≡ false → Early h
early_from_phase h (inl p) none = p
early_from_phase h (inr (inl p)) none = absurd (true-false _ p.granted none)
early_from_phase h (inr (inr p)) none = absurd (true-false _ p.granted none)

says_bid : (plan : Plan) (past : History) → Waiting past → IsOn plan past → tries past ≤ 6 → saying plan (gives_up_now past) past ≡ Say.Bid
says_bid plan past p o few = rw (hopeful past few o.steady_state.unheld, o.goes, p.ungranted) refl

waiting_few : (t : SpokenTurn) (past : History) → Waiting past → IsFairNow (t ∷ past) → tries past ≤ 6
waiting_few t past p fair = elim (cases_lt (tries past) 7) [
  | inl l ↦ omega (arith, l)
  | inr l ↦ absurd (none_pair 7 t past p.unclean (fair (omega (arith, l, p.counted))))
]

bid_granted : (past : History) (t : SpokenTurn) → Waiting past → tries past ≤ 6 → t.said ≡ Say.Bid → is_progress past t ≡ true → Granted (t ∷ past)
bid_granted past t p few said progress =
    let uncounted : is_counting past t ≡ false = rw said refl in
    let grant : is_grant t ≡ true = (elim (cases_Bool (is_grant t)) [ inl g ↦ g | inr g ↦ absurd (true-false _ progress (rw (g, uncounted) refl)) ]) in
    let one : length (t ∷ past) ≡ length past + 1 = omega arith in
    let none : tries (t ∷ past) ≡ 0 = rw progress refl in
    record {
      granted = rw grant refl;
      soon = omega (arith, one, none, p.counted, few);
      few = omega (arith, none);
      longer = omega (arith, one, none);
      apart = rw progress tt;
      all = (λ e. absurd (true-false _ progress e), p.all);
    }

bid_waits : (plan : Plan) (past : History) (t : SpokenTurn) → Waiting past → IsOn plan past → IsPlain t → Follows plan (gives_up_now past) past t → tries past ≤ 6 → t.said ≡ Say.Bid → is_last t ≡ false → is_progress past t ≡ false → Waiting (t ∷ past)
bid_waits plan past t p o q f few said going stalled =
    let grant : is_grant t ≡ false = or-left-false _ _ stalled in
    let unheld : is_hold past t ≡ false = unheld_turn plan (gives_up_now past) past t f q o.steady_state in
    let a_try : is_try past t ≡ true = try_from past t unheld going stalled in
    let one : length (t ∷ past) ≡ length past + 1 = omega arith in
    let more : tries (t ∷ past) ≡ tries past + 1 = rw (a_try, stalled) refl in
    record {
      ungranted = rw (grant, p.ungranted) refl;
      counted = omega (arith, one, more, p.counted);
      few = omega (arith, more, few);
      unclean = (λ c. true-false (is_grant t) (clean_bid plan past t (early_from_phase past o.phase p.ungranted) o.steady_state c said f.replied) grant, p.unclean);
      all = (λ _. a_try, p.all);
    }

-- ---- Each history.

-- a history with blocks left goes on
record GoesOn (past : History) (t : SpokenTurn) : Type 0 where
  going : is_last t ≡ false
  after : Waiting (t ∷ past) ⊎ Granted (t ∷ past)

waiting_goes_on : (plan : Plan) (past : History) (t : SpokenTurn) → Waiting past → IsOn plan past → IsPlain t → Follows plan (gives_up_now past) past t → IsFairNow (t ∷ past) → GoesOn past t
waiting_goes_on plan past t p o q f fair =
    let few : tries past ≤ 6 = waiting_few t past p fair in
    let said : t.said ≡ Say.Bid = f.said ∙ says_bid plan past p o few in
    let going : is_last t ≡ false = goes_said plan (gives_up_now past) past t f (rw said (λ e. cc)) in
    record {
      going = going;
      after = elim (cases_Bool (is_progress past t)) [
        | inl progress ↦ inr (bid_granted past t p few said progress)
        | inr stalled ↦ inl (bid_waits plan past t p o q f few said going stalled)
      ];
    }

granted_goes_on : (plan : Plan) (past : History) (t : SpokenTurn) → IsConversation plan past → ArePlain past → Granted past → IsOn plan past → IsPlain t → Follows plan (gives_up_now past) past t → IsFairNow (t ∷ past) → GoesOn past t
granted_goes_on plan [] t c plain p o q f fair = absurd (false≢true p.granted)
granted_goes_on plan (u ∷ past) t c plain p o q f fair =
    let spoken = conversations_may_be_spoken plan past c.1 in
    let s : Steps plan past u t = record {
      before = c.0;
      phase = Phase-from_spoken plan past spoken;
      steady_state = steady plan past spoken plain.1;
      plain_before = plain.0;
      granted = p;
      on = o;
      follows = f;
      plain = q;
    } in
    record { going = granted_goes plan past u t s; after = inr (granted_step plan past u t s fair) }

-- all blocks are known; or some are left, and the history was granted or not
abbrev Stands : Plan → History → Type 0
Stands plan h = (known h ≡ length plan) ⊎ ((known h < length plan) × (Waiting h ⊎ Granted h))

stands_from : (plan : Plan) (h : History) → MayBeSpoken plan h → Waiting h ⊎ Granted h → Stands plan h
stands_from plan h spoken w = elim (cases_lt (known h) (length plan)) [
  | inl left ↦ inr (left, w)
  | inr l ↦ let most : known h ≤ length plan = known-within plan h spoken in inl (omega (arith, l))
]

known_grows : (past : History) (t : SpokenTurn) → known past ≤ known (t ∷ past)
known_grows past t = elim (cases_Bool (is_counting past t)) [ inl c ↦ rw c (omega arith) | inr c ↦ rw c (omega arith) ]

after_turn : (plan : Plan) (past : History) (t : SpokenTurn) → IsConversation plan (t ∷ past) → ArePlain (t ∷ past) → IsFairNow (t ∷ past) → Stands plan past → (known (t ∷ past) ≡ length plan) ⊎ GoesOn past t
after_turn plan past t c plain fair (inl done) =
    let grown : known past ≤ known (t ∷ past) = known_grows past t in
    let most : known (t ∷ past) ≤ length plan = known-within plan (t ∷ past) (conversations_may_be_spoken plan (t ∷ past) c) in
    inl (omega arith)
after_turn plan past t c plain fair (inr (left, w)) =
    let spoken = conversations_may_be_spoken plan past c.1 in
    let o : IsOn plan past = record { goes = c.0.goes_on; left = left; phase = Phase-from_spoken plan past spoken; steady_state = steady plan past spoken plain.1 } in
    inr (elim w [
      | inl p ↦ waiting_goes_on plan past t p o plain.0 c.0 fair
      | inr p ↦ granted_goes_on plan past t c.1 plain.1 p o plain.0 c.0 fair
    ])

stands : (plan : Plan) (h : History) → IsConversation plan h → ArePlain h → AreFair h → is_over h ≡ false → Stands plan h
stands plan [] c plain fair goes = stands_from plan [] tt (inl (record { ungranted = refl; counted = refl; few = omega arith; unclean = tt; all = tt }))
stands plan (t ∷ past) c plain fair goes =
    elim (after_turn plan past t c plain fair.0 (stands plan past c.1 plain.1 fair.1 c.0.goes_on)) [
      | inl done ↦ inl done
      | inr g ↦ stands_from plan (t ∷ past) (conversations_may_be_spoken plan (t ∷ past) c) g.after
    ]

known_at_end : (plan : Plan) (h : History) → IsConversation plan h → ArePlain h → AreFair h → is_over h ≡ true → known h ≡ length plan
known_at_end plan [] c plain fair over = absurd (false≢true over)
known_at_end plan (t ∷ past) c plain fair over =
    elim (after_turn plan past t c plain fair.0 (stands plan past c.1 plain.1 fair.1 c.0.goes_on)) [
      | inl done ↦ done
      | inr g ↦ absurd (true-false _ over g.going)
    ]

known_when_long : (plan : Plan) (h : History) → 7 + 7 * length plan ≤ length h → Stands plan h → known h ≡ length plan
known_when_long plan h long (inl done) = done
known_when_long plan h long (inr (left, inl w)) = absurd (omega (arith, w.counted, w.few))
known_when_long plan h long (inr (left, inr g)) = absurd (omega (arith, g.soon, g.few))

-- the bound: once the conversation is over, or long enough, every block is known
pub known_in_time : (plan : Plan) (h : History) → IsConversation plan h → ArePlain h → AreFair h → (7 + 7 * length plan ≤ length h) ⊎ (is_over h ≡ true) → known h ≡ length plan
known_in_time plan h c plain fair (inr over) = known_at_end plan h c plain fair over
known_in_time plan h c plain fair (inl long) = elim (cases_Bool (is_over h)) [
  | inl over ↦ known_at_end plan h c plain fair over
  | inr goes ↦ known_when_long plan h long (stands plan h c plain fair goes)
]
