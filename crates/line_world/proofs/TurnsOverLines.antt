-- Turns of stations over lines of any kind: what their calls did is a turn, and the turns so far go on by it.
use Rattle.std.proofs.Common.{◌≡◌, Bool, false, List, [], ◌∷◌, Some, None, refl, ap, sym, ◌∙◌}
use Rattle.bsc_frame.specs.declared.heard.Heard.{Heard}
use Rattle.bsc_link.specs.declared.say.Say.{Say}
use Rattle.bsc_link.specs.declared.sound.Sound.{Sound}
use Rattle.bsc_link.specs.declared.wish.Wish.{Wish}
use Rattle.std.proofs.lemmas.Bool.{true≢false}
use Rattle.rje_station.specs.Hearing.{sound_heard}
use Rattle.rje_station.specs.Receiving.{Receiving, after_receiving}
use Rattle.rje_station.specs.Sending.{Sending, after_speaking, after_hearing, is_end}
use Rattle.bsc_history.specs.declared.spoken_turn.SpokenTurn.{SpokenTurn}
use Rattle.line_world.specs.Turns.{after_turn}
use Rattle.line_world.specs.AnyLines.{Turns, after_answering, ReceiverTakes}

-- ---- Some turns.

-- seen otherwise, they are the same turns
pub turns_as : {S S' T : Type 0} (Step : List T → S → S → T → Type 0) (Step' : List T → S' → S' → T → Type 0) (f : S → S')
    → ((past : List T) (s s' : S) (t : T) → Step past s s' t → Step' past (f s) (f s') t) → (s : S) (h : List T) (s' : S) → Turns Step s h s' → Turns Step' (f s) h (f s')
turns_as Step Step' f goes s [] s' same = ap f same
turns_as Step Step' f goes s (t ∷ past) s' (near, before, step) = (f near, turns_as Step Step' f goes s past near before, goes past near s' t step)

-- ---- The sending station's part.

-- a turn of which the sending station knows what it said and heard
abbrev pub heard_turn : Say → Sound → SpokenTurn
heard_turn said heard = record { said = said; arrived = Sound.Quiet; refused = false; reply = None; heard = heard; wish = Wish.Go; pause = false }

pub hears : (say : Say) (s : Sending) (sound : Sound) → is_end say ≡ false → after_turn s (heard_turn say sound) ≡ after_hearing (after_speaking s) sound false
hears Say.End s sound n = absurd (true≢false n)
hears Say.Bid s sound n = refl
hears Say.Block s sound n = refl
hears Say.Again s sound n = refl
hears Say.Ask s sound n = refl
hears Say.Delay s sound n = refl
hears Say.Nothing s sound n = refl

pub no_end : (say : Say) → is_end say ≡ false → say ≡ Say.End → ⊥
no_end say n e = true≢false (sym (ap is_end e) ∙ n)

-- ---- The receiving station's part.

-- a turn of which the receiving station knows what came and what it replied
abbrev pub arrived_turn : Say → Receiving → Heard → Bool → SpokenTurn
arrived_turn said r what refused =
    record { said = said; arrived = sound_heard what; refused = refused; reply = (after_receiving r what refused Wish.Go).due; heard = Sound.Quiet; wish = Wish.Go; pause = false }

-- what the station says of its last hearing is what arrived
arrival_after : (say : Say) (r : Receiving) (what : Heard) (t : SpokenTurn) → t.said ≡ say → (after_answering r what t).arrival ≡ Some (record { sound = sound_heard what; refused = t.refused })
arrival_after Say.End r what t e = rw e refl
arrival_after Say.Bid r what t e = rw e refl
arrival_after Say.Block r what t e = rw e refl
arrival_after Say.Again r what t e = rw e refl
arrival_after Say.Ask r what t e = rw e refl
arrival_after Say.Delay r what t e = rw e refl
arrival_after Say.Nothing r what t e = rw e refl

pub arrival_is : (r r' : Receiving) (t : SpokenTurn) → ReceiverTakes r r' t → r'.arrival ≡ Some (record { sound = t.arrived; refused = t.refused })
arrival_is r r' t p = ap (λ x. x.arrival) p.state ∙ arrival_after t.said r p.what t refl ∙ ap (λ x. Some (record { sound = x; refused = t.refused })) (sym p.arrived)
