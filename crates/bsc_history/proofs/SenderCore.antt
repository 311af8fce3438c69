-- The sender's core is where looking back says.
use Rattle.bsc_link.specs.declared.sound.Sound.{Sound}
use Rattle.bsc_link.specs.declared.say.Say.{Say}
use Rattle.bsc_link.specs.declared.next.Next.{Next}
use Rattle.bsc_link.specs.declared.outcome.Outcome.{Outcome}
use Rattle.bsc_link.specs.declared.wish.Wish.{Wish}
use Rattle.bsc_link.specs.declared.reply.Reply.{Reply}
use Rattle.bsc_history.specs.declared.spoken_turn.SpokenTurn.{SpokenTurn}
use Rattle.bsc_history.specs.History.{History, Plan, what_follows, BeginsWithJob, is_last, is_over, is_even}
use Rattle.bsc_history.specs.Known.{has_heard_rvi, known, is_counting, has_grant, is_progress, tries_on, holds_on, tries, holds}
use Rattle.bsc_history.specs.SayingRule.{Says, Ends, due_after_progress, due_after_delay, due_after_block, due_after_inquiry, due_without_progress, due_after, said_of, outcome_due, saying}
use Rattle.bsc_link.specs.declared.sender_place.SenderPlace.{SenderPlace}
use Rattle.bsc_link.specs.declared.table_line.TableLine.{TableLine}
use Rattle.bsc_link.specs.Sender.{SenderState, say_in, outcome_in, line_for, counts_block, follow, after_progress, after_wait, is_enough, place_after_progress}
use Rattle.std.proofs.Common.{◌≡◌, ◌≢◌, inl, inr, ℕ, ◌+◌, Bool, true, false, not, if◌then◌else◌, [], ◌∷◌, Option, None, refl, sym, ap, ◌∙◌, subst}
use Rattle.std.proofs.lemmas.Bool.{true≢false, false≢true, cases_Bool}
use Rattle.bsc_history.proofs.OneConversation.{true-false}
use Rattle.bsc_history.specs.Outcome.{outcome_by, gave_up_before}
use Rattle.bsc_history.specs.Cores.{sender_turn, sender_after, IsSpoken, SenderCoreSays, SenderCoreKeeps, SenderCoreCounts}
use Rattle.bsc_history.proofs.Replies.{is_even-next}
use Rattle.bsc_history.proofs.Phases.{turn, or-false, saying-speaks}
use Rattle.bsc_history.proofs.Saying.{ungranted-from_bid, granted-from_said}
use Rattle.bsc_history.proofs.Lines.{Progresses, Waits, LineIs, at-bid, at-block, at-again, at-ask, at-delay}

-- A STATE MATCHES A HISTORY

-- b: the sender gave up before the last turn; m, n: the tries and the holds that count
pub record Matches (plan : Plan) (h : History) (b : Bool) (m n : ℕ) (s : SenderState) : Type 0 where
  pub parity : s.odd_counted ≡ not (is_even (known h))
  pub rvi : s.rvi_noted ≡ has_heard_rvi h
  pub tried : is_over h ≡ false → is_enough m n ≡ false → s.tries ≡ m
  pub held : is_over h ≡ false → is_enough m n ≡ false → s.holds ≡ n
  pub says : say_in s.place ≡ saying plan (is_enough m n) h
  pub ends : outcome_in s.place ≡ outcome_by plan b (is_enough m n) h
  pub early : has_grant h ≡ false → known h ≡ 0

-- the outcome while the sender goes on
outcome-going : (plan : Plan) (b g : Bool) (past : History) (said : Say) (arrived : Sound) (refused : Bool) (reply : Option Reply) (heard : Sound) (wish : Wish) (pause : Bool) → is_last (turn said arrived refused reply heard wish pause) ≡ false
    → outcome_by plan b g (turn said arrived refused reply heard wish pause ∷ past) ≡ outcome_due (due_after plan g (turn said arrived refused reply heard wish pause ∷ past))
outcome-going plan b g past Say.End arrived refused reply heard wish pause going = absurd (true≢false going)
outcome-going plan b g past Say.Bid arrived refused reply Sound.Eot wish pause going = absurd (true≢false going)
outcome-going plan b g past Say.Block arrived refused reply Sound.Eot wish pause going = absurd (true≢false going)
outcome-going plan b g past Say.Again arrived refused reply Sound.Eot wish pause going = absurd (true≢false going)
outcome-going plan b g past Say.Ask arrived refused reply Sound.Eot wish pause going = absurd (true≢false going)
outcome-going plan b g past Say.Delay arrived refused reply Sound.Eot wish pause going = absurd (true≢false going)
outcome-going plan b g past Say.Nothing arrived refused reply Sound.Eot wish pause going = absurd (true≢false going)
outcome-going plan b g past _ arrived refused reply _ wish pause going = refl

-- no turn without progress ends the transmission by itself
ending-block : (heard : Sound) → outcome_due (due_after_block heard) ≡ None
ending-block Sound.Nak = refl
ending-block _ = refl

ending-inquiry : (heard : Sound) → outcome_due (due_after_inquiry heard) ≡ None
ending-inquiry Sound.Nak = refl
ending-inquiry Sound.Ack0 = refl
ending-inquiry Sound.Ack1 = refl
ending-inquiry Sound.Rvi = refl
ending-inquiry _ = refl

ending-delay : (heard : Sound) (pause : Bool) → outcome_due (due_after_delay heard pause) ≡ None
ending-delay Sound.Nak true = refl
ending-delay Sound.Nak false = refl
ending-delay _ pause = refl

ending-turn : (t : SpokenTurn) (said : Say) → t.said ≡ said → outcome_due (due_without_progress t) ≡ None
ending-turn t Say.Ask e = rw e (ending-inquiry t.heard)
ending-turn t Say.Delay e = rw e (ending-delay t.heard t.pause)
ending-turn t Say.Block e = rw e (ending-block t.heard)
ending-turn t Say.Again e = rw e (ending-block t.heard)
ending-turn t _ e = rw e refl

ending-without_progress : (granted : Bool) (t : SpokenTurn) → outcome_due (if granted then due_without_progress t else Says Say.Bid) ≡ None
ending-without_progress true t = ending-turn t t.said refl
ending-without_progress false t = refl

say_in-progress : (next : Next) (noted pause : Bool) → say_in (place_after_progress next noted pause) ≡ said_of (due_after_progress next noted pause)
say_in-progress Next.Done noted pause = refl
say_in-progress Next.NewJob true pause = refl
say_in-progress Next.NewJob false true = refl
say_in-progress Next.NewJob false false = refl
say_in-progress Next.Block noted true = refl
say_in-progress Next.Block noted false = refl

outcome_in-progress : (next : Next) (noted pause : Bool) → outcome_in (place_after_progress next noted pause) ≡ outcome_due (due_after_progress next noted pause)
outcome_in-progress Next.Done noted pause = refl
outcome_in-progress Next.NewJob true pause = refl
outcome_in-progress Next.NewJob false true = refl
outcome_in-progress Next.NewJob false false = refl
outcome_in-progress Next.Block noted true = refl
outcome_in-progress Next.Block noted false = refl

after-progress : (plan : Plan) (past : History) (b : Bool) (m n : ℕ) (t : SpokenTurn) (s : SenderState) (odd noted : Bool) (next : Next) → Progresses past t → odd ≡ not (is_even (known (t ∷ past))) → noted ≡ has_heard_rvi (t ∷ past) → next ≡ what_follows plan (known (t ∷ past))
    → Matches plan (t ∷ past) b (tries_on m past t) (holds_on n past t) (after_progress odd noted next t.pause)
after-progress plan past b m n t s odd noted next p odd-is noted-is next-is =
    let no_tries : tries_on m past t ≡ 0 = rw p.progress refl in
    let no_holds : holds_on n past t ≡ 0 = rw p.progress refl in
    let hopeful : is_enough (tries_on m past t) (holds_on n past t) ≡ false = rw (no_tries, no_holds) refl in
    record {
      parity = odd-is;
      rvi = noted-is;
      tried = λ going hopeful. sym no_tries;
      held = λ going hopeful. sym no_holds;
      says = say_in-progress next noted t.pause ∙ rw (hopeful, p.going, p.granted, p.progress, noted-is, next-is) refl;
      ends = outcome_in-progress next noted t.pause ∙ sym (outcome-going plan b (is_enough (tries_on m past t) (holds_on n past t)) past t.said t.arrived t.refused t.reply t.heard t.wish t.pause p.going ∙ rw (hopeful, p.going, p.granted, p.progress, noted-is, next-is) refl);
      early = λ none. absurd (true-false _ p.granted none);
    }

-- a turn without progress that leaves the counts below their limits
after-wait-goes_on : (plan : Plan) (past : History) (b : Bool) (m n : ℕ) (t : SpokenTurn) (s : SenderState) (place : SenderPlace) (m' n' : ℕ) → s.odd_counted ≡ not (is_even (known past)) → s.rvi_noted ≡ has_heard_rvi past → Waits past t place → m' ≡ tries_on m past t → n' ≡ holds_on n past t → (has_grant (t ∷ past) ≡ false → known past ≡ 0)
    → is_enough m' n' ≡ false → Matches plan (t ∷ past) b (tries_on m past t) (holds_on n past t) (after_wait s place m' n')
after-wait-goes_on plan past b m n t s place m' n' parity rvi w m-is n-is early hopeful =
    let g = is_enough (tries_on m past t) (holds_on n past t) in
    let same_known : known (t ∷ past) ≡ known past = rw w.uncounted refl in
    let g-is : g ≡ false = rw (← m-is, ← n-is) hopeful in
    let due : due_after plan g (t ∷ past) ≡ (if has_grant (t ∷ past) then due_without_progress t else Says Say.Bid) = rw (g-is, w.going, w.progress) refl in
    rw hopeful (record {
      parity = parity ∙ rw same_known refl;
      rvi = rvi ∙ sym w.unheard;
      tried = λ going low. m-is;
      held = λ going low. n-is;
      says = w.says ∙ ap said_of (sym due);
      ends = w.open_ended ∙ sym (outcome-going plan b g past t.said t.arrived t.refused t.reply t.heard t.wish t.pause w.going ∙ ap outcome_due due ∙ ending-without_progress (has_grant (t ∷ past)) t);
      early = λ none. same_known ∙ early none;
    })

-- a turn without progress that brings one to its limit
after-wait-gives_up : (plan : Plan) (past : History) (b : Bool) (m n : ℕ) (t : SpokenTurn) (s : SenderState) (place : SenderPlace) (m' n' : ℕ) → s.odd_counted ≡ not (is_even (known past)) → s.rvi_noted ≡ has_heard_rvi past → Waits past t place → m' ≡ tries_on m past t → n' ≡ holds_on n past t → (has_grant (t ∷ past) ≡ false → known past ≡ 0)
    → is_enough m' n' ≡ true → Matches plan (t ∷ past) b (tries_on m past t) (holds_on n past t) (after_wait s place m' n')
after-wait-gives_up plan past b m n t s place m' n' parity rvi w m-is n-is early enough =
    let g = is_enough (tries_on m past t) (holds_on n past t) in
    let same_known : known (t ∷ past) ≡ known past = rw w.uncounted refl in
    let g-is : g ≡ true = rw (← m-is, ← n-is) enough in
    let due : due_after plan g (t ∷ past) ≡ Ends Outcome.GaveUp = rw (g-is, w.going) refl in
    rw enough (record {
      parity = parity ∙ rw same_known refl;
      rvi = rvi ∙ sym w.unheard;
      tried = λ going low. absurd (true-false _ g-is low);
      held = λ going low. absurd (true-false _ g-is low);
      says = ap said_of (sym due);
      ends = sym (outcome-going plan b g past t.said t.arrived t.refused t.reply t.heard t.wish t.pause w.going ∙ ap outcome_due due);
      early = λ none. same_known ∙ early none;
    })

after-wait : (plan : Plan) (past : History) (b : Bool) (m n : ℕ) (t : SpokenTurn) (s : SenderState) (place : SenderPlace) (m' n' : ℕ) → s.odd_counted ≡ not (is_even (known past)) → s.rvi_noted ≡ has_heard_rvi past → Waits past t place → m' ≡ tries_on m past t → n' ≡ holds_on n past t → (has_grant (t ∷ past) ≡ false → known past ≡ 0)
    → Matches plan (t ∷ past) b (tries_on m past t) (holds_on n past t) (after_wait s place m' n')
after-wait plan past b m n t s place m' n' parity rvi w m-is n-is early = elim (cases_Bool (is_enough m' n')) [
  | inl enough ↦ after-wait-gives_up plan past b m n t s place m' n' parity rvi w m-is n-is early enough
  | inr hopeful ↦ after-wait-goes_on plan past b m n t s place m' n' parity rvi w m-is n-is early hopeful
]

-- EOT was heard
after-stop : (plan : Plan) (past : History) (b b' : Bool) (m n m' n' : ℕ) (t : SpokenTurn) (s : SenderState) → Matches plan past b m n s → LineIs past t TableLine.HearsEot → (has_grant (t ∷ past) ≡ false → known past ≡ 0) → Matches plan (t ∷ past) b' m' n' (follow TableLine.HearsEot s Next.Done t.pause)
after-stop plan past b b' m n m' n' t s p w early =
    let same_known : known (t ∷ past) ≡ known past = rw w.3 refl in
    record {
      parity = p.parity ∙ rw same_known refl;
      rvi = p.rvi ∙ sym w.4;
      tried = λ going hopeful. absurd (true-false _ w.5 going);
      held = λ going hopeful. absurd (true-false _ w.5 going);
      says = rw w.5 refl;
      ends = rw w.0 refl;
      early = λ none. same_known ∙ early none;
    }

early-after : (past : History) (t : SpokenTurn) → (has_grant past ≡ false → known past ≡ 0) → has_grant (t ∷ past) ≡ false → known past ≡ 0
early-after past t early none = early (or-false _ _ none)

-- each line of the table leads to a match
follow-matches : (plan : Plan) (past : History) (b b' : Bool) (m n : ℕ) (t : SpokenTurn) (s : SenderState) (next : Next) (line : TableLine) → Matches plan past b m n s → is_over past ≡ false → is_enough m n ≡ false → LineIs past t line → (is_progress past t ≡ true → next ≡ what_follows plan (known (t ∷ past)))
    → Matches plan (t ∷ past) b' (tries_on m past t) (holds_on n past t) (follow line s next t.pause)
follow-matches plan past b b' m n t s next TableLine.Progress p goes hopes is next-is =
    let same_known : known (t ∷ past) ≡ known past = rw is.1 refl in
    after-progress plan past b' m n t s s.odd_counted s.rvi_noted next is.0 (p.parity ∙ rw same_known refl) (p.rvi ∙ sym is.2) (next-is is.0.progress)
follow-matches plan past b b' m n t s next TableLine.Count p goes hopes is next-is =
    let more : known (t ∷ past) ≡ known past + 1 = rw is.1 refl in
    after-progress plan past b' m n t s (not s.odd_counted) s.rvi_noted next is.0 (ap not p.parity ∙ ap not (sym (is_even-next (known past))) ∙ rw more refl) (p.rvi ∙ sym is.2) (next-is is.0.progress)
follow-matches plan past b b' m n t s next TableLine.CountByRvi p goes hopes is next-is =
    let more : known (t ∷ past) ≡ known past + 1 = rw is.1 refl in
    after-progress plan past b' m n t s (not s.odd_counted) true next is.0 (ap not p.parity ∙ ap not (sym (is_even-next (known past))) ∙ rw more refl) (sym is.2) (next-is is.0.progress)
follow-matches plan past b b' m n t s next (TableLine.Try place) p goes hopes is next-is =
    after-wait plan past b' m n t s place (s.tries + 1) s.holds p.parity p.rvi is.0 (ap (λ k. k + 1) (p.tried goes hopes) ∙ rw (is.1, is.0.progress, is.0.going) refl) (p.held goes hopes ∙ rw (is.1, is.0.progress) refl) (early-after past t p.early)
follow-matches plan past b b' m n t s next (TableLine.Hold place) p goes hopes is next-is =
    after-wait plan past b' m n t s place s.tries (s.holds + 1) p.parity p.rvi is.0 (p.tried goes hopes ∙ rw (is.1, is.0.progress) refl) (ap (λ k. k + 1) (p.held goes hopes) ∙ rw (is.1, is.0.progress) refl) (early-after past t p.early)
follow-matches plan past b b' m n t s next TableLine.HearsEot p goes hopes is next-is = after-stop plan past b b' m n (tries_on m past t) (holds_on n past t) t s p is (early-after past t p.early)
follow-matches plan past b b' m n t s next TableLine.NoChange p goes hopes is next-is = absurd is

-- EACH TURN, AND EACH HISTORY

odd-next : (odd : Bool) (n : ℕ) → odd ≡ not (is_even n) → odd ≡ is_even (n + 1)
odd-next odd n e = e ∙ sym (is_even-next n)

outcome-before : (plan : Plan) (b g : Bool) (past : History) → is_over past ≡ false → outcome_by plan b g past ≡ outcome_due (due_after plan g past)
outcome-before plan b g [] goes = refl
outcome-before plan b g (t ∷ past) goes = outcome-going plan b g past t.said t.arrived t.refused t.reply t.heard t.wish t.pause goes

-- a place in which the sender waits for an answer
abbrev pub IsListening : SenderPlace → Type 0
IsListening (SenderPlace.End o) = ⊥
IsListening (SenderPlace.Over o) = ⊥
IsListening _ = Unit {0}

-- a sender that waits for an answer hasn't given up
hopes-from_said : (plan : Plan) (past : History) (b : Bool) (i j : ℕ) (s : SenderState) → Matches plan past b i j s → is_over past ≡ false → say_in s.place ≢ Say.End → is_enough i j ≡ false
hopes-from_said plan past b i j s p goes waits = elim (cases_Bool (is_enough i j)) [
  | inl enough ↦ absurd (waits (p.says ∙ rw (goes, enough) refl))
  | inr hopeful ↦ hopeful
]

-- the line of the table is the one that looking back gives
line-is : (plan : Plan) (past : History) (b : Bool) (i j : ℕ) (place : SenderPlace) (odd noted : Bool) (m n : ℕ) (arrived : Sound) (refused : Bool) (reply : Option Reply) (heard : Sound) (wish : Wish) (pause : Bool)
    → Matches plan past b i j (record { place = place; odd_counted = odd; rvi_noted = noted; tries = m; holds = n }) → is_over past ≡ false → IsListening place
    → LineIs past (turn (say_in place) arrived refused reply heard wish pause) (line_for (record { place = place; odd_counted = odd; rvi_noted = noted; tries = m; holds = n }) heard pause)
line-is plan past b i j SenderPlace.Bid odd noted m n arrived refused reply heard wish pause p goes l =
    at-bid past arrived refused reply heard wish pause (ungranted-from_bid plan (is_enough i j) past goes (sym p.says))
line-is plan past b i j SenderPlace.Block odd noted m n arrived refused reply heard wish pause p goes l =
    let granted : has_grant past ≡ true = granted-from_said plan (is_enough i j) past goes (rw (← p.says) tt) in
    at-block past odd noted arrived refused reply heard wish pause granted (odd-next odd _ p.parity) p.rvi
line-is plan past b i j SenderPlace.Again odd noted m n arrived refused reply heard wish pause p goes l =
    let granted : has_grant past ≡ true = granted-from_said plan (is_enough i j) past goes (rw (← p.says) tt) in
    at-again past arrived refused reply heard wish pause _ (at-block past odd noted arrived refused reply heard wish pause granted (odd-next odd _ p.parity) p.rvi)
line-is plan past b i j SenderPlace.Ask odd noted m n arrived refused reply heard wish pause p goes l =
    let granted : has_grant past ≡ true = granted-from_said plan (is_enough i j) past goes (rw (← p.says) tt) in
    at-ask past odd noted arrived refused reply heard wish pause granted (odd-next odd _ p.parity) p.rvi
line-is plan past b i j SenderPlace.Delay odd noted m n arrived refused reply heard wish pause p goes l =
    let granted : has_grant past ≡ true = granted-from_said plan (is_enough i j) past goes (rw (← p.says) tt) in
    at-delay past arrived refused reply heard wish pause granted
line-is plan past b i j (SenderPlace.End o) odd noted m n arrived refused reply heard wish pause p goes l = absurd l
line-is plan past b i j (SenderPlace.Over o) odd noted m n arrived refused reply heard wish pause p goes l = absurd l

-- that a line of the table counts a block, as the station above is informed
counts-line : (past : History) (t : SpokenTurn) (line : TableLine) → LineIs past t line → counts_block line ≡ is_counting past t
counts-line past t TableLine.Progress is = sym is.1
counts-line past t TableLine.Count is = sym is.1
counts-line past t TableLine.CountByRvi is = sym is.1
counts-line past t (TableLine.Try place) is = sym is.0.uncounted
counts-line past t (TableLine.Hold place) is = sym is.0.uncounted
counts-line past t TableLine.HearsEot is = sym is.3
counts-line past t TableLine.NoChange is = absurd is

pub core-step : (plan : Plan) (past : History) (b : Bool) (i j : ℕ) (place : SenderPlace) (odd noted : Bool) (m n : ℕ) (arrived : Sound) (refused : Bool) (reply : Option Reply) (heard : Sound) (wish : Wish) (pause : Bool)
    → what_follows plan 0 ≡ Next.NewJob → Matches plan past b i j (record { place = place; odd_counted = odd; rvi_noted = noted; tries = m; holds = n }) → is_over past ≡ false → (say_in place ≡ Say.End → heard ≡ Sound.Quiet) → say_in place ≢ Say.Nothing
    → Matches plan (turn (say_in place) arrived refused reply heard wish pause ∷ past) (is_enough i j) (tries_on i past (turn (say_in place) arrived refused reply heard wish pause)) (holds_on j past (turn (say_in place) arrived refused reply heard wish pause)) (sender_turn plan (known past) (record { place = place; odd_counted = odd; rvi_noted = noted; tries = m; holds = n }) (turn (say_in place) arrived refused reply heard wish pause))
core-step plan past b i j SenderPlace.Bid odd noted m n arrived refused reply heard wish pause begins p goes quiet spoke =
    follow-matches plan past b (is_enough i j) i j (turn Say.Bid arrived refused reply heard wish pause) _ Next.NewJob _ p goes (hopes-from_said plan past b i j _ p goes (λ e. cc)) (line-is plan past b i j SenderPlace.Bid odd noted m n arrived refused reply heard wish pause p goes tt)
    (λ e. rw (p.early (ungranted-from_bid plan (is_enough i j) past goes (sym p.says))) (sym begins))
core-step plan past b i j SenderPlace.Block odd noted m n arrived refused reply heard wish pause begins p goes quiet spoke =
    follow-matches plan past b (is_enough i j) i j (turn Say.Block arrived refused reply heard wish pause) _ _ _ p goes (hopes-from_said plan past b i j _ p goes (λ e. cc)) (line-is plan past b i j SenderPlace.Block odd noted m n arrived refused reply heard wish pause p goes tt) (λ e. rw e refl)
core-step plan past b i j SenderPlace.Again odd noted m n arrived refused reply heard wish pause begins p goes quiet spoke =
    follow-matches plan past b (is_enough i j) i j (turn Say.Again arrived refused reply heard wish pause) _ _ _ p goes (hopes-from_said plan past b i j _ p goes (λ e. cc)) (line-is plan past b i j SenderPlace.Again odd noted m n arrived refused reply heard wish pause p goes tt) (λ e. rw e refl)
core-step plan past b i j SenderPlace.Ask odd noted m n arrived refused reply heard wish pause begins p goes quiet spoke =
    follow-matches plan past b (is_enough i j) i j (turn Say.Ask arrived refused reply heard wish pause) _ _ _ p goes (hopes-from_said plan past b i j _ p goes (λ e. cc)) (line-is plan past b i j SenderPlace.Ask odd noted m n arrived refused reply heard wish pause p goes tt) (λ e. rw e refl)
core-step plan past b i j SenderPlace.Delay odd noted m n arrived refused reply heard wish pause begins p goes quiet spoke =
    follow-matches plan past b (is_enough i j) i j (turn Say.Delay arrived refused reply heard wish pause) _ _ _ p goes (hopes-from_said plan past b i j _ p goes (λ e. cc)) (line-is plan past b i j SenderPlace.Delay odd noted m n arrived refused reply heard wish pause p goes tt) (λ e. absurd (false≢true e))
core-step plan past b i j (SenderPlace.End o) odd noted m n arrived refused reply heard wish pause begins p goes quiet spoke =
    let e : heard ≡ Sound.Quiet = quiet refl in
    record {
      parity = p.parity;
      rvi = p.rvi;
      tried = λ going hopeful. absurd (true≢false going);
      held = λ going hopeful. absurd (true≢false going);
      says = refl;
      ends = p.ends ∙ rw e (outcome-before plan b (is_enough i j) past goes);
      early = p.early;
    }
core-step plan past b i j (SenderPlace.Over o) odd noted m n arrived refused reply heard wish pause begins p goes quiet spoke = absurd (spoke refl)

counts-at : (plan : Plan) (past : History) (b : Bool) (i j : ℕ) (place : SenderPlace) (odd noted : Bool) (m n : ℕ) (arrived : Sound) (refused : Bool) (reply : Option Reply) (heard : Sound) (wish : Wish) (pause : Bool)
    → Matches plan past b i j (record { place = place; odd_counted = odd; rvi_noted = noted; tries = m; holds = n }) → is_over past ≡ false → say_in place ≢ Say.Nothing
    → counts_block (line_for (record { place = place; odd_counted = odd; rvi_noted = noted; tries = m; holds = n }) heard pause) ≡ is_counting past (turn (say_in place) arrived refused reply heard wish pause)
counts-at plan past b i j (SenderPlace.Over o) odd noted m n arrived refused reply heard wish pause p goes spoke = absurd (spoke refl)
counts-at plan past b i j (SenderPlace.End o) odd noted m n arrived refused reply heard wish pause p goes spoke = refl
counts-at plan past b i j place odd noted m n arrived refused reply heard wish pause p goes spoke =
    counts-line past (turn (say_in place) arrived refused reply heard wish pause) _ (line-is plan past b i j place odd noted m n arrived refused reply heard wish pause p goes tt)

-- one turn of the sender's core, whatever was heard
pub sender-step : (plan : Plan) (past : History) (b : Bool) (i j : ℕ) (s : SenderState) (t : SpokenTurn) → BeginsWithJob plan → Matches plan past b i j s → is_over past ≡ false → t.said ≡ saying plan (is_enough i j) past → (t.said ≡ Say.End → t.heard ≡ Sound.Quiet)
    → Matches plan (t ∷ past) (is_enough i j) (tries_on i past t) (holds_on j past t) (sender_turn plan (known past) s t)
sender-step plan past b i j s t begins p goes said done =
    let e : say_in s.place ≡ t.said = p.says ∙ sym said in
    subst (λ x. Matches plan (turn x t.arrived t.refused t.reply t.heard t.wish t.pause ∷ past) (is_enough i j) (tries_on i past (turn x t.arrived t.refused t.reply t.heard t.wish t.pause)) (holds_on j past (turn x t.arrived t.refused t.reply t.heard t.wish t.pause)) (sender_turn plan (known past) s (turn x t.arrived t.refused t.reply t.heard t.wish t.pause))) e
    (core-step plan past b i j s.place s.odd_counted s.rvi_noted s.tries s.holds t.arrived t.refused t.reply t.heard t.wish t.pause begins p goes (λ q. done (sym e ∙ q)) (rw p.says (saying-speaks plan (is_enough i j) past goes)))

-- the core reports a block as counted where the rule counts it
pub counts-step : (plan : Plan) (past : History) (b : Bool) (i j : ℕ) (s : SenderState) (t : SpokenTurn) → Matches plan past b i j s → is_over past ≡ false → t.said ≡ saying plan (is_enough i j) past
    → counts_block (line_for s t.heard t.pause) ≡ is_counting past t
counts-step plan past b i j s t p goes said =
    let e : say_in s.place ≡ t.said = p.says ∙ sym said in
    subst (λ x. counts_block (line_for s t.heard t.pause) ≡ is_counting past (turn x t.arrived t.refused t.reply t.heard t.wish t.pause)) e
    (counts-at plan past b i j s.place s.odd_counted s.rvi_noted s.tries s.holds t.arrived t.refused t.reply t.heard t.wish t.pause p goes (rw p.says (saying-speaks plan (is_enough i j) past goes)))

pub sender-matches : (plan : Plan) (h : History) → BeginsWithJob plan → IsSpoken plan h → Matches plan h (gave_up_before h) (tries h) (holds h) (sender_after plan h)
sender-matches plan [] begins spoken = record { parity = refl; rvi = refl; tried = λ g l. refl; held = λ g l. refl; says = refl; ends = refl; early = λ none. refl }
sender-matches plan (t ∷ past) begins spoken =
    let f = spoken.0 in
    sender-step plan past (gave_up_before past) (tries past) (holds past) (sender_after plan past) t begins (sender-matches plan past begins spoken.1) f.goes_on f.said f.done

pub sender_core_says : SenderCoreSays
sender_core_says plan h begins spoken =
    let p = sender-matches plan h begins spoken in
    (p.says, p.ends)

pub sender_core_keeps : SenderCoreKeeps
sender_core_keeps plan h begins spoken =
    let p = sender-matches plan h begins spoken in
    record { parity = p.parity; rvi = p.rvi; tries = p.tried; holds = p.held }

pub sender_core_counts : SenderCoreCounts
sender_core_counts plan t past begins spoken =
    let f = spoken.0 in
    counts-step plan past (gave_up_before past) (tries past) (holds past) (sender_after plan past) t (sender-matches plan past begins spoken.1) f.goes_on f.said
