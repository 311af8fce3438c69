-- What stations note, call by call.
use Rattle.std.proofs.Common.{◌≡◌, ◌≢◌, inl, inr, Bool, List, [], ◌∷◌, ◌++◌, Option, Some, None, refl, ap, sym, ◌∙◌, subst, append-nil}
use Rattle.std.proofs.lemmas.List.{append_assoc}
use Rattle.bsc_frame.specs.declared.heard.Heard.{Heard}
use Rattle.bsc_link.specs.declared.reply.Reply.{Reply}
use Rattle.bsc_link.specs.declared.say.Say.{Say}
use Rattle.bsc_link.specs.declared.sound.Sound.{Sound}
use Rattle.bsc_link.specs.Receiver.{receiver_news}
use Rattle.bsc_link.specs.Sender.{say_in, counts_block, line_for}
use Rattle.rje_station.specs.declared.event.Event.{Event}
use Rattle.rje_station.specs.declared.event.Event.TheVariants as event
use Rattle.rje_station.specs.Hearing.{sound_heard}
use Rattle.rje_station.specs.Laws.{TraceGoesOn}
use Rattle.rje_station.specs.Receiving.{Receiving, sound_taken, received_events, after_receiving, trace_after_reply}
use Rattle.rje_station.specs.Sending.{Sending, counted_events, after_speaking, after_hearing}
use Rattle.rje_station.specs.Trace.{last_events, IsTraceOf}
use Rattle.bsc_history.specs.declared.spoken_turn.SpokenTurn.{SpokenTurn}
use Rattle.bsc_history.specs.History.{History}
use Rattle.bsc_history.specs.Known.{is_counting}
use Rattle.bsc_history.specs.Got.{brings_block}
use Rattle.line_world.specs.Traces.{answer_events, sender_events, replied_events, heard_events}
use Rattle.line_world.specs.Turns.{after_turn}
use Rattle.line_world.proofs.SendingTurns.{turn_ends, turn_hears, cases_end}
use Rattle.rje_station.proofs.Due.{unsent}

-- ---- The sender.

said_more : (say : Say) (heard : Sound) (counts : Bool) → say ≢ Say.End → answer_events say heard counts ≡ event.Heard heard ∷ counted_events counts
said_more Say.End heard counts n = absurd (n refl)
said_more _ heard counts n = refl

module _ (law : TraceGoesOn) (h : History) (s : Sending) (t : SpokenTurn) (says : say_in s.core.place ≡ t.said) (p : IsTraceOf (sender_events h) s.trace) where
  abbrev so_far : List Event
  so_far = sender_events h ++ event.Said t.said ∷ []

  spoke : IsTraceOf so_far (after_speaking s).trace
  spoke = subst (λ say. IsTraceOf (sender_events h ++ event.Said say ∷ []) (after_speaking s).trace) says (law (sender_events h) (event.Said (say_in s.core.place) ∷ []) s.trace p)

  ends : t.said ≡ Say.End → IsTraceOf (sender_events (t ∷ h)) (after_turn s t).trace
  ends end =
      let all : sender_events (t ∷ h) ≡ so_far = rw end refl in
      ap (λ x. x.trace) (turn_ends s t end) ∙ spoke ∙ ap last_events (sym all)

  hears : t.said ≢ Say.End → counts_block (line_for s.core t.heard t.pause) ≡ is_counting h t → IsTraceOf (sender_events (t ∷ h)) (after_turn s t).trace
  hears more counts =
      let heard : Bool → List Event = λ c. event.Heard t.heard ∷ counted_events c in
      let same = unsent s.core (λ e. more (sym says ∙ e)) in
      let counted : counts_block (line_for (after_speaking s).core t.heard t.pause) ≡ is_counting h t = ap (λ x. counts_block (line_for x t.heard t.pause)) same ∙ counts in
      let after : IsTraceOf (so_far ++ heard (is_counting h t)) (after_hearing (after_speaking s) t.heard t.pause).trace =
      law so_far (heard (counts_block (line_for (after_speaking s).core t.heard t.pause))) (after_speaking s).trace spoke ∙ ap (λ c. last_events (so_far ++ heard c)) counted in
      let all : sender_events (t ∷ h) ≡ so_far ++ heard (is_counting h t) =
      ap (λ x. sender_events h ++ event.Said t.said ∷ x) (said_more t.said t.heard (is_counting h t) more) ∙ sym (append_assoc (sender_events h) (event.Said t.said ∷ []) (heard (is_counting h t))) in
      ap (λ x. x.trace) (turn_hears s t t.said refl more) ∙ after ∙ ap last_events (sym all)

  pub turn_noted : (t.said ≢ Say.End → counts_block (line_for s.core t.heard t.pause) ≡ is_counting h t) → IsTraceOf (sender_events (t ∷ h)) (after_turn s t).trace
  turn_noted counts = elim (cases_end t.said) [ inl end ↦ ends end | inr more ↦ hears more (counts more) ]

-- ---- The receiver.

pub hearing_noted : TraceGoesOn → (events : List Event) (r : Receiving) (what : Heard) (t : SpokenTurn) → t.arrived ≡ sound_heard what → (receiver_news r.core (sound_taken what t.refused) t.wish).accepted ≡ brings_block t → IsTraceOf events r.trace
    → IsTraceOf (events ++ event.Heard t.arrived ∷ received_events (brings_block t) t.refused) (after_receiving r what t.refused t.wish).trace
hearing_noted law events r what t arrived accepts p =
    law events (event.Heard (sound_heard what) ∷ received_events (receiver_news r.core (sound_taken what t.refused) t.wish).accepted t.refused) r.trace p
    ∙ ap (λ a. last_events (events ++ event.Heard (sound_heard what) ∷ received_events a t.refused)) accepts
    ∙ ap (λ x. last_events (events ++ event.Heard x ∷ received_events (brings_block t) t.refused)) (sym arrived)

reply_noted : TraceGoesOn → (events : List Event) (reply : Option Reply) (trace : List Event) → IsTraceOf events trace → IsTraceOf (events ++ replied_events reply) (trace_after_reply reply trace)
reply_noted law events None trace p = p ∙ ap last_events (sym (append-nil events))
reply_noted law events (Some reply) trace p = law events (event.Replied reply ∷ []) trace p

pub answer_noted : TraceGoesOn → (events : List Event) (t : SpokenTurn) (trace : List Event) → IsTraceOf (events ++ event.Heard t.arrived ∷ received_events (brings_block t) t.refused) trace → IsTraceOf (events ++ heard_events t) (trace_after_reply t.reply trace)
answer_noted law events t trace p =
    let heard = event.Heard t.arrived ∷ received_events (brings_block t) t.refused in
    reply_noted law (events ++ heard) t.reply trace p ∙ ap last_events (append_assoc events heard (replied_events t.reply))
