-- What comes of what is sent, by the laws of hearing.
use Rattle.std.proofs.Common.{◌≡◌, ◌≢◌, ℕ, zero, suc, true, List, [], ◌∷◌, ◌++◌, drop, slice_get, Option, Some, None, refl, ap, sym, ◌∙◌, subst}
use Rattle.std.proofs.lemmas.Bool.{false≢true}
use Rattle.bsc_codes.specs.declared.block.Block.{Block}
use Rattle.bsc_codes.specs.declared.bytes.TheConstants.{SYN, PAD}
use Rattle.bsc_frame.specs.declared.frame.Frame.{Frame}
use Rattle.bsc_frame.specs.declared.frame.Frame.TheVariants as frame
use Rattle.bsc_frame.specs.declared.heard.Heard.{Heard}
use Rattle.bsc_frame.specs.declared.heard.Heard.TheVariants as heard
use Rattle.bsc_frame.specs.Heard.{IsHeard, IsTextStart}
use Rattle.bsc_frame.specs.Laws.{OneHearing, EveryHearing, WrittenIsTransmission}
use Rattle.bsc_frame.specs.Transmission.{SyncPattern, HasPrefix, HasNoFrame}
use Rattle.bsc_frame.specs.Written.{Written}
use Rattle.bsc_link.specs.declared.reply.Reply.{Reply}
use Rattle.bsc_link.specs.declared.say.Say.{Say}
use Rattle.bsc_link.specs.declared.sound.Sound.{Sound}
use Rattle.rje_station.specs.Hearing.{sound_heard, sound_of_frame}
use Rattle.rje_station.specs.Receiving.{frame_of}
use Rattle.rje_station.specs.Sending.{IsWrittenOf}
use Rattle.line_world.specs.declared.fate.Fate.{Fate}
use Rattle.bsc_history.specs.declared.sound_fate.SoundFate.{SoundFate}
use Rattle.line_world.specs.Damage.{AreHeardAs, Tells}
use Rattle.line_world.specs.Inside.Driving.{IsReplyCarried}
use Rattle.line_world.specs.Carrying.{IsCarried}
use Rattle.bsc_history.specs.Fate.{is_damage_of, sound_of, sound_of_reply, after_fate}
use Rattle.line_world.specs.Run.{FitsReply}
use Rattle.bsc_history.proofs.ForRuns.{lost-after}

-- ---- Nothing is heard of no bytes.

append_empty : (xs ys : List ℕ) → [] ≡ xs ++ ys → xs ≡ []
append_empty [] ys e = refl
append_empty (x ∷ xs) ys e = absurd cc

append_some : (xs : List ℕ) (y : ℕ) (ys : List ℕ) → [] ≡ xs ++ y ∷ ys → ⊥
append_some [] y ys e = absurd cc
append_some (x ∷ xs) y ys e = absurd cc

sync_some : (bytes : List ℕ) → SyncPattern bytes → bytes ≡ [] → ⊥
sync_some bytes s e = append_some s.pads SYN _ (sym e ∙ s.whole)

no_frame : HasNoFrame []
no_frame f p =
    let front : p.front ≡ [] = append_empty p.front p.rest p.whole in
    sync_some p.holds.sync p.holds.is_sync (append_empty p.holds.sync p.holds.body (sym front ∙ p.holds.whole))

no_text : HasPrefix IsTextStart [] → ⊥
no_text p =
    let front : p.front ≡ [] = append_empty p.front p.rest p.whole in
    sync_some p.holds.sync p.holds.is_sync (append_empty p.holds.sync _ (sym front ∙ p.holds.whole))

empty_quiet : IsHeard [] heard.Quiet
empty_quiet = (no_frame, no_text, tt)

-- ---- What fates of sounds do.

pub after_arrives : (said : Sound) → after_fate SoundFate.Arrives said ≡ Some said
after_arrives Sound.Quiet = refl
after_arrives _ = refl

after_damaged : (said x : Sound) → said ≢ Sound.Quiet → is_damage_of said x ≡ true → after_fate (SoundFate.Damaged x) said ≡ Some x
after_damaged Sound.Quiet x n may = absurd (n refl)
after_damaged Sound.Block x n may = rw may refl
after_damaged Sound.Ttd x n may = rw may refl
after_damaged _ x n may = rw may refl

-- no damage passes for a block
no_block : (said : Sound) → is_damage_of said Sound.Block ≡ true → ⊥
no_block Sound.Block e = false≢true e
no_block Sound.Ttd e = false≢true e
no_block _ e = false≢true e

-- ---- What is sent.

frame_some : (f : Frame) → sound_of_frame f ≢ Sound.Quiet
frame_some frame.Enq = λ e. cc
frame_some frame.Ack0 = λ e. cc
frame_some frame.Ack1 = λ e. cc
frame_some frame.Nak = λ e. cc
frame_some frame.Wack = λ e. cc
frame_some frame.Rvi = λ e. cc
frame_some frame.Ttd = λ e. cc
frame_some frame.Abort = λ e. cc
frame_some frame.Eot = λ e. cc
frame_some (frame.Block b) = λ e. cc

-- the frame that is due
pub frame_said : (say : Say) (rest : List Block) (sent : List ℕ) → IsWrittenOf say rest sent → (f : Frame) × Written f sent × (sound_of_frame f ≡ sound_of say)
frame_said Say.Bid rest sent w = (frame.Enq, w, refl)
frame_said Say.Ask rest sent w = (frame.Enq, w, refl)
frame_said Say.Delay rest sent w = (frame.Ttd, w, refl)
frame_said Say.End rest sent w = (frame.Eot, w, refl)
frame_said Say.Block [] sent w = absurd w
frame_said Say.Block (b ∷ rest) sent w = (frame.Block b, w, refl)
frame_said Say.Again [] sent w = absurd w
frame_said Say.Again (b ∷ rest) sent w = (frame.Block b, w, refl)
frame_said Say.Nothing rest sent w = absurd w

frame_replied : (reply : Reply) → sound_of_frame (frame_of reply) ≡ sound_of_reply (Some reply)
frame_replied Reply.Ack0 = refl
frame_replied Reply.Ack1 = refl
frame_replied Reply.Nak = refl
frame_replied Reply.Wack = refl
frame_replied Reply.Rvi = refl

-- ---- What is told.

-- any fate tells something
pub tell : EveryHearing → (fate : Fate) → (told : SoundFate) × Tells fate told
tell every (Fate.Arrives cuts) = (SoundFate.Arrives, refl)
tell every Fate.Lost = (SoundFate.Lost, refl)
tell every (Fate.Damaged bytes) =
    let h = every bytes.items in
    (SoundFate.Damaged (sound_heard h.0), (sound_heard h.0, record { what = h.0; heard = h.1; sound_is = refl }, refl))

-- a fate tells this, and so it is heard
pub record Told (fate : Fate) (said heard : Sound) : Type 0 where
  pub told : SoundFate
  pub tells : Tells fate told
  pub after : after_fate told said ≡ Some heard

module _ (one : OneHearing) (transmits : WrittenIsTransmission) where
  -- of what is sent the frame is heard
  sent_heard : (f : Frame) (sent : List ℕ) (what : Heard) → Written f sent → IsHeard sent what → what ≡ heard.Frame f
  sent_heard f sent what w h =
      let t = transmits f sent w in
      one sent what (heard.Frame f) h (record { front = t.0; rest = PAD ∷ []; holds = t.1; whole = t.2 })

  carried_told : (fate : Fate) (f : Frame) (sent : List ℕ) (what : Heard) → Written f sent → IsCarried fate (sound_of_frame f) sent what → Told fate (sound_of_frame f) (sound_heard what)
  carried_told (Fate.Arrives cuts) f sent what w c =
      let is : what ≡ heard.Frame f = sent_heard f sent what w c.heard in
      record { told = SoundFate.Arrives; tells = refl; after = after_arrives (sound_of_frame f) ∙ ap (λ x. Some (sound_heard x)) (sym is) }
  carried_told Fate.Lost f sent what w c =
      let is : what ≡ heard.Quiet = one [] what heard.Quiet c.heard empty_quiet in
      record { told = SoundFate.Lost; tells = refl; after = lost-after (sound_of_frame f) ∙ ap (λ x. Some (sound_heard x)) (sym is) }
  carried_told (Fate.Damaged bytes) f sent what w c = record {
    told = SoundFate.Damaged (sound_heard what);
    tells = (sound_heard what, record { what = what; heard = c.heard; sound_is = refl }, refl);
    after = after_damaged (sound_of_frame f) (sound_heard what) (frame_some f) c.may;
  }

  -- what is due, and its fate
  pub said_told : (fate : Fate) (say : Say) (rest : List Block) (sent : List ℕ) (what : Heard) (arrived : Sound) → IsWrittenOf say rest sent → IsCarried fate (sound_of say) sent what → arrived ≡ sound_heard what → Told fate (sound_of say) arrived
  said_told fate say rest sent what arrived w c is =
      let f = frame_said say rest sent w in
      subst (Told fate (sound_of say)) (sym is) (subst (λ x. Told fate x (sound_heard what)) f.2 (carried_told fate f.0 sent what f.1 (subst (λ x. IsCarried fate x sent what) (sym f.2) c)))

  nothing_heard : (sound : Sound) → AreHeardAs [] sound → sound ≡ Sound.Quiet
  nothing_heard sound h = h.sound_is ∙ ap sound_heard (one [] h.what heard.Quiet h.heard empty_quiet)

  -- a reply or none, and its fate
  pub reply_told : EveryHearing → (fate : Fate) (due : Option Reply) (sound : Sound) → IsReplyCarried fate due sound → Told fate (sound_of_reply due) sound
  reply_told every fate None sound c =
      let t = tell every fate in
      record { told = t.0; tells = t.1; after = ap (λ x. Some x) (sym (nothing_heard sound c)) }
  reply_told every fate (Some reply) sound (sent, written, (what, carried, is)) =
      rw is (
      let e = frame_replied reply in
      subst (λ x. Told fate x (sound_heard what)) e (carried_told fate (frame_of reply) sent what written (subst (λ x. IsCarried fate x sent what) (sym e) carried))
      )

  same_frame : (f g : Frame) → heard.Frame f ≡ heard.Frame g → f ≡ g
  same_frame f g e = cc

  -- where a block is heard of what was sent, it is the first of those left
  block_sent : (say : Say) (rest : List Block) (sent : List ℕ) (b : Block) → IsWrittenOf say rest sent → IsHeard sent (heard.Frame (frame.Block b)) → (more : List Block) × (rest ≡ b ∷ more)
  block_sent Say.Bid rest sent b w h = let e = same_frame _ _ (sent_heard frame.Enq sent _ w h) in absurd cc
  block_sent Say.Ask rest sent b w h = let e = same_frame _ _ (sent_heard frame.Enq sent _ w h) in absurd cc
  block_sent Say.Delay rest sent b w h = let e = same_frame _ _ (sent_heard frame.Ttd sent _ w h) in absurd cc
  block_sent Say.End rest sent b w h = let e = same_frame _ _ (sent_heard frame.Eot sent _ w h) in absurd cc
  block_sent Say.Nothing rest sent b w h = absurd w
  block_sent Say.Block [] sent b w h = absurd w
  block_sent Say.Block (c ∷ rest) sent b w h = let e : frame.Block b ≡ frame.Block c = same_frame _ _ (sent_heard (frame.Block c) sent _ w h) in let same : c ≡ b = cc in (rest, ap (λ x. x ∷ rest) same)
  block_sent Say.Again [] sent b w h = absurd w
  block_sent Say.Again (c ∷ rest) sent b w h = let e : frame.Block b ≡ frame.Block c = same_frame _ _ (sent_heard (frame.Block c) sent _ w h) in let same : c ≡ b = cc in (rest, ap (λ x. x ∷ rest) same)

  pub block_carried : (fate : Fate) (say : Say) (rest : List Block) (sent : List ℕ) (b : Block) → IsWrittenOf say rest sent → IsCarried fate (sound_of say) sent (heard.Frame (frame.Block b)) → (more : List Block) × (rest ≡ b ∷ more)
  block_carried (Fate.Arrives cuts) say rest sent b w c = block_sent say rest sent b w c.heard
  block_carried Fate.Lost say rest sent b w c = absurd (no_frame (frame.Block b) c.heard)
  block_carried (Fate.Damaged bytes) say rest sent b w c = absurd (no_block (sound_of say) c.may)

-- the first of those left, by its number
pub first_left : (n : ℕ) (blocks : List Block) (b : Block) (more : List Block) → drop n blocks ≡ b ∷ more → slice_get blocks n ≡ Some b
first_left zero [] b more e = absurd cc
first_left zero (x ∷ xs) b more e = cc
first_left (suc n) [] b more e = absurd cc
first_left (suc n) (x ∷ xs) b more e = first_left n xs b more e

-- the fate of a reply that was carried fits it
pub reply_fits : (fate : Fate) (due : Option Reply) (sound : Sound) → IsReplyCarried fate due sound → FitsReply fate due
reply_fits fate None sound c = tt
reply_fits fate (Some reply) sound (sent, written, (what, carried, is)) = (sent, written, carried.fits)
