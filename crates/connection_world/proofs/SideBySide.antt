-- The turns of the two ends of a connection, put side by side: what arrives later than its turn stands in it, and what never does is lost.
use Rattle.std.proofs.Common.{◌≡◌, refl, sym, ap, ◌∙◌, subst, ℕ, ◌+◌, ◌≤◌, Bool, true, false, Option, Some, None, List, [], ◌∷◌, ◌⊎◌, inl, inr, arith}
use Rattle.std.proofs.lemmas.Bool.{true≢false}
use Rattle.bsc_codes.specs.declared.block.Block.{Block}
use Rattle.bsc_frame.specs.declared.frame.Frame.{Frame}
use Rattle.bsc_frame.specs.declared.frame.Frame.TheVariants as frame
use Rattle.bsc_frame.specs.declared.heard.Heard.{Heard}
use Rattle.bsc_frame.specs.declared.heard.Heard.TheVariants as heard
use Rattle.bsc_link.specs.declared.reply.Reply.{Reply}
use Rattle.bsc_link.specs.declared.say.Say.{Say}
use Rattle.bsc_link.specs.declared.sound.Sound.{Sound}
use Rattle.bsc_link.specs.declared.wish.Wish.{Wish}
use Rattle.bsc_link.specs.Sender.{say_in}
use Rattle.bsc_history.specs.Fate.{MayBeHeardAs, sound_of_reply}
use Rattle.rje_answers.specs.declared.link_event.LinkEvent.{LinkEvent}
use Rattle.rje_answers.specs.declared.given.Given.{Given}
use Rattle.rje_answers.specs.declared.rest.Rest.{Rest}
use Rattle.rje_answers.specs.Awaiting.{Kept, given_at, has_answer, kept_after, said_in}
use Rattle.rje_answers.specs.Law.{Answer, things}
use Rattle.rje_station.specs.Hearing.{sound_heard, sound_of_frame}
use Rattle.rje_station.specs.JoinedJobs.{begun_in}
use Rattle.rje_station.specs.Receiving.{Receiving, MayRefuse, after_receiving, first_receiving}
use Rattle.rje_station.specs.Sending.{Sending, after_hearing}
use Rattle.connection_world.specs.Connection.{AtReceiver, AtSender, Says, Arrives, NothingArrives, OneHearing, ComeDown, ComeUp, IsFrameOf, IsReplied, IsThing, Listens, MayComeAs, Speaks, come_by, hearing_of, is_passed_over, sound_given, told}
use Rattle.connection_world.proofs.Awaited.{EndsWith, Settles}
use Rattle.connection_world.proofs.Numbers.{AllAnswered, AllSaid, down_before_arrival, down_before_nothing, replied_below, thing_below, up_before_saying}
use Rattle.connection_world.specs.Headline.{but_for_notes}
use Rattle.connection_world.proofs.Stations.{all_arrives, all_lost, ends_or_asks, heard_in_vain, passed_is_nothing, quiet_is_silent, turned, wordless}

-- what may be heard of a reply; and nothing after EOT
pub record MayHear (say : Say) (reply : Option Reply) (sound : Sound) : Type 0 where
  pub down : MayBeHeardAs (sound_of_reply reply) sound
  pub done : say ≡ Say.End → sound ≡ Sound.Quiet

-- What holds of two stations that take turns, whatever it is: it asks nothing of what they note, and each turn keeps it in which the sending one
-- spoke such a frame where it stood.
pub record Grows (Spoken : Frame → Sending → Type 0) (T : Sending → Receiving → Type 0) : Type 0 where
  pub same : (s s' : Sending) (r r' : Receiving) → but_for_notes s ≡ but_for_notes s' → wordless r ≡ wordless r' → T s r → T s' r'
  pub more : (s : Sending) (r : Receiving) (f : Frame) (h : OneHearing) (sound : Sound) (pause : Bool) → s.over ≡ false → IsFrameOf (say_in s.core.place) s.rest f → Spoken f s
      → MayComeAs f h.what → MayRefuse h.what (begun_in r.jobs) h.refused → h.reply ≡ (after_receiving r h.what h.refused h.wish).due
      → MayHear (say_in s.core.place) h.reply sound → T s r → T (turned s (say_in s.core.place) sound pause) (after_receiving r h.what h.refused h.wish)

-- whatever it spoke
abbrev pub AnyFrame : Frame → Sending → Type 0
AnyFrame f s = Unit {0}

-- ---- A receiving station.

-- it took what it heard; or it passed it over
abbrev pub FarGoes : OneHearing → Receiving → Receiving → Type 0
FarGoes h r r' =
    (MayRefuse h.what (begun_in r.jobs) h.refused × (h.reply ≡ (after_receiving r h.what h.refused h.wish).due) × (wordless r' ≡ wordless (after_receiving r h.what h.refused h.wish)))
    ⊎ ((h.reply ≡ None) × (wordless r' ≡ wordless r))

abbrev pub FarWent : List AtReceiver → Receiving → Type 0
FarWent [] r = r ≡ first_receiving
FarWent (e ∷ past) r = (mid : Receiving) × FarWent past mid × FarGoes (hearing_of e) mid r

passed : (h : OneHearing) (r r' : Receiving) → is_passed_over (sound_heard h.what) ≡ true → FarGoes h r r' → wordless r ≡ wordless r'
passed h r r' over (inl (may, reply, state)) = sym (state ∙ passed_is_nothing r h.what h.refused h.wish may over)
passed h r r' over (inr (none, state)) = sym state

module _ (Spoken : Frame → Sending → Type 0) (T : Sending → Receiving → Type 0) (grows : Grows Spoken T) where
  -- before anything was said
  pub begin : (s : Sending) (far : List AtReceiver) (r : Receiving) → T s first_receiving → FarWent far r → ComeUp [] far → T s r
  begin s [] r t went up = grows.same s s first_receiving r refl (ap wordless (sym went)) t
  begin s (Arrives k h ∷ far) r t went up = absurd up.0.1.1
  begin s (NothingArrives h ∷ far) r t (last, went, goes) up = grows.same s s last r refl (passed h last r up.0 goes) (begin s far last t went up.1)

  -- a thing that never arrives, or hasn't yet
  one_lost : (s : Sending) (r : Receiving) (f : Frame) (sound : Sound) (pause : Bool) → s.over ≡ false → IsFrameOf (say_in s.core.place) s.rest f → Spoken f s → sound ≡ Sound.Quiet
      → T s r → T (turned s (say_in s.core.place) sound pause) r
  one_lost s r f sound pause live due spoken quiet t =
      let none : OneHearing = record { what = heard.Quiet; refused = false; wish = Wish.Go; reply = None } in
      grows.same _ _ (after_receiving r heard.Quiet false Wish.Go) r refl (passed_is_nothing r heard.Quiet false Wish.Go refl refl)
      (grows.more s r f none sound pause live due spoken (record { sound = all_lost (sound_of_frame f); block = no_block }) refl (quiet_is_silent r Wish.Go)
      (record { down = subst (MayBeHeardAs Sound.Quiet) (sym quiet) (all_lost Sound.Quiet); done = λ e. quiet }) t)
    where
      is_quiet : Heard → Bool
      is_quiet heard.Quiet = true
      is_quiet _ = false

      no_block : (b : Block) → heard.Quiet ≡ heard.Frame (frame.Block b) → f ≡ frame.Block b
      no_block b is = absurd (true≢false (ap is_quiet is))

-- what may be heard after `n` things were said: the reply to the last one, or nothing
abbrev pub MayBeGiven : ℕ → List AtReceiver → Sound → Type 0
MayBeGiven n far sound = (sound ≡ Sound.Quiet) ⊎ ((a : Answer) × (a.thing + 1 ≡ n) × IsReplied a far × (sound ≡ sound_of_reply (Some a.reply)))

-- ---- The last thing that was said, and all that has arrived.

module _ (Spoken : Frame → Sending → Type 0) (T : Sending → Receiving → Type 0) (grows : Grows Spoken T) (f : Frame) (past : List AtSender) (s : Sending) (sound : Sound) (pause : Bool)
    (live : s.over ≡ false) (due : IsFrameOf (say_in s.core.place) s.rest f) (spoken : Spoken f s) (done : say_in s.core.place ≡ Say.End → sound ≡ Sound.Quiet)
    (said : AllSaid past) (answered : AllAnswered past)
    (before : (far : List AtReceiver) (r : Receiving) → FarWent far r → ComeUp past far → ComeDown past far → T s r) where
  abbrev n : ℕ
  n = things (told past)

  abbrev After : Receiving → Type 0
  After r = T (turned s (say_in s.core.place) sound pause) r

  -- where it hasn't arrived nothing is heard
  not_arrived : (far : List AtReceiver) → ComeUp (Says f ∷ past) far → come_by far ≤ n → MayBeGiven (n + 1) far sound → sound ≡ Sound.Quiet
  not_arrived far up below (inl quiet) = quiet
  not_arrived far up below (inr heard) =
      let less = replied_below heard.0 (Says f ∷ past) far up heard.2 in
      absurd (omega (arith, less, below, heard.1))

  missing : (far : List AtReceiver) (r : Receiving) → FarWent far r → ComeUp (Says f ∷ past) far → ComeDown past far → come_by far ≤ n → MayBeGiven (n + 1) far sound
      → After r
  missing far r went up down below heard =
      one_lost Spoken T grows s r f sound pause live due spoken (not_arrived far up below heard) (before far r went (up_before_saying f past far below up) down)

  arrived : (k : ℕ) (h : OneHearing) (far : List AtReceiver) (r r' : Receiving) → FarWent far r → FarGoes h r r' → ComeUp (Says f ∷ past) (Arrives k h ∷ far)
      → ComeDown past (Arrives k h ∷ far) → k ≡ n → MayComeAs f h.what → MayBeGiven (n + 1) (Arrives k h ∷ far) sound → After r'
  arrived k h far r r' went goes up down same comes heard = which goes
    where
      older : (a : Answer) → a.thing + 1 ≡ n + 1 → IsReplied a far → ⊥
      older a own is =
          let less = replied_below a (Says f ∷ past) far up.1 is in
          let in_order = up.0.0 in
          absurd (omega (arith, less, in_order, own, same))

      t : T s r
      t =
          let in_order = up.0.0 in
          before far r went (up_before_saying f past far (omega (arith, in_order, same)) up.1) (down_before_arrival k h past far said (omega (arith, same)) down)

      fate : MayBeGiven (n + 1) (Arrives k h ∷ far) sound → MayBeHeardAs (sound_of_reply h.reply) sound
      fate (inl quiet) = subst (MayBeHeardAs (sound_of_reply h.reply)) (sym quiet) (all_lost (sound_of_reply h.reply))
      fate (inr (a, own, inl is, heard)) = subst (MayBeHeardAs (sound_of_reply h.reply)) (ap sound_of_reply is.1 ∙ sym heard) (all_arrives (sound_of_reply h.reply))
      fate (inr (a, own, inr is, heard)) = absurd (older a own is)

      silent : h.reply ≡ None → MayBeGiven (n + 1) (Arrives k h ∷ far) sound → sound ≡ Sound.Quiet
      silent none (inl quiet) = quiet
      silent none (inr (a, own, inl is, heard)) = heard ∙ ap sound_of_reply (sym is.1 ∙ none)
      silent none (inr (a, own, inr is, heard)) = absurd (older a own is)

      which : FarGoes h r r' → After r'
      which (inl (may, reply, state)) =
          grows.same _ _ (after_receiving r h.what h.refused h.wish) r' refl (sym state)
          (grows.more s r f h sound pause live due spoken comes may reply (record { down = fate heard; done = done }) t)
      which (inr (none, state)) = grows.same _ _ r r' refl (sym state) (one_lost Spoken T grows s r f sound pause live due spoken (silent none heard) t)

  pub side_by_side : (far : List AtReceiver) (r : Receiving) → FarWent far r → ComeUp (Says f ∷ past) far → ComeDown past far → MayBeGiven (n + 1) far sound → After r
  side_by_side [] r went up down heard = missing [] r went up down (omega arith) heard
  side_by_side (Arrives k h ∷ far) r (last, went, goes) up down heard = which up.0.1.1
    where
      which : IsThing k up.0.1.0 (Says f ∷ past) → After r
      which (inl is) = arrived k h far last r went goes up down is.0 (subst (λ x. MayComeAs x h.what) is.1 up.0.1.2) heard
      which (inr is) =
          let less = thing_below k up.0.1.0 past answered is in
          missing (Arrives k h ∷ far) r (last, went, goes) up down (omega (arith, less)) heard
  side_by_side (NothingArrives h ∷ far) r (last, went, goes) up down heard =
      grows.same _ _ last r refl (passed h last r up.0 goes) (side_by_side far last went up.1 (down_before_nothing h past far down) heard)

-- ---- What happens at the sending end.

-- after `n` things: where no answer is awaited it holds of both stations; where one is, it does with whatever may be heard now
pub record Stand (T : Sending → Receiving → Type 0) (awaits : Bool) (n : ℕ) (s : Sending) (far : List AtReceiver) (r : Receiving) : Type 0 where
  pub settled : awaits ≡ false → T s r
  pub awaiting : awaits ≡ true → (sound : Sound) (pause : Bool) → MayBeGiven n far sound → T (after_hearing s sound pause) r

-- what the station is given, where it is given something
pub given_some : (given : Given Answer) (s s' : Sending) → Listens given s s' → (given ≡ Given.Nothing → ⊥) → (pause : Bool) × (s' ≡ after_hearing s (sound_given given) pause)
given_some Given.Nothing s s' listens some = absurd (some refl)
given_some (Given.Answer a) s s' listens some = listens
given_some Given.Bid s s' listens some = listens
given_some Given.End s s' listens some = listens
given_some (Given.InVain rest) s s' listens some = listens

pub given_none : (given : Given Answer) (s s' : Sending) → Listens given s s' → given ≡ Given.Nothing → s' ≡ s
given_none given s s' listens none = rw none at listens

-- after something came, or a hearing was in vain
module _ (Spoken : Frame → Sending → Type 0) (T : Sending → Receiving → Type 0) (grows : Grows Spoken T) (e : LinkEvent Answer) (k : Kept Answer) (n : ℕ) (s s' : Sending) (far : List AtReceiver) (r : Receiving)
    (listens : Listens (given_at e k) s s') (before : Stand T (has_answer k.said) n s far r) where
  pub goes_on : given_at e k ≡ Given.Nothing → (awaits : Bool) → awaits ≡ has_answer k.said → Stand T awaits n s' far r
  goes_on none awaits same =
      let still : s ≡ s' = sym (given_none (given_at e k) s s' listens none) in
      record {
        settled = λ over. subst (λ x. T x r) still (before.settled (sym same ∙ over));
        awaiting = λ awaited sound pause may. subst (λ x. T (after_hearing x sound pause) r) still (before.awaiting (sym same ∙ awaited) sound pause may);
      }

  pub hears_sound : has_answer k.said ≡ true → (pause : Bool) (sound : Sound) → but_for_notes (after_hearing s sound pause) ≡ but_for_notes s' → MayBeGiven n far sound → T s' r
  hears_sound awaited pause sound same may = grows.same (after_hearing s sound pause) s' r r same refl (before.awaiting awaited sound pause may)

  given_answer : (g : Given Answer) (a : Answer) → g ≡ Given.Answer a → g ≡ Given.Nothing → ⊥
  given_answer g a is none = grind (arith, is, none)

  given_vain : (g : Given Answer) (rest : Rest) → g ≡ Given.InVain rest → g ≡ Given.Nothing → ⊥
  given_vain g rest is none = grind (arith, is, none)

  module _ (own : (a : Answer) → given_at e k ≡ Given.Answer a → a.thing + 1 ≡ n) (replied : (a : Answer) → given_at e k ≡ Given.Answer a → IsReplied a far) where
    ends_with : has_answer k.said ≡ true → EndsWith (given_at e k) → T s' r
    ends_with awaited (inl (a, is)) =
        let heard = given_some (given_at e k) s s' listens (given_answer (given_at e k) a is) in
        hears_sound awaited heard.0 (sound_of_reply (Some a.reply)) (ap but_for_notes (ap (λ g. after_hearing s (sound_given g) heard.0) (sym is) ∙ sym heard.1))
        (inr (a, own a is, replied a is, refl))
    ends_with awaited (inr (rest, is)) =
        let heard = given_some (given_at e k) s s' listens (given_vain (given_at e k) rest is) in
        hears_sound awaited heard.0 Sound.Quiet (sym (heard_in_vain s rest heard.0) ∙ ap but_for_notes (ap (λ g. after_hearing s (sound_given g) heard.0) (sym is) ∙ sym heard.1))
        (inl refl)

    pub after_event : Settles e k EndsWith → Stand T (has_answer (kept_after e k).said) n s' far r
    after_event (inl (none, same)) = goes_on none _ same
    after_event (inr (awaited, over, ends)) = record {
      settled = λ _. ends_with awaited ends;
      awaiting = λ still. absurd (true≢false (sym still ∙ over));
    }

-- after it spoke
module _ (Spoken : Frame → Sending → Type 0) (T : Sending → Receiving → Type 0) (grows : Grows Spoken T) (f : Frame) (past : List AtSender) (s s' : Sending) (far : List AtReceiver) (r : Receiving)
    (speaks : Speaks f s s') (spoken : Spoken f s) (said : AllSaid past) (answered : AllAnswered past) (went : FarWent far r) (up : ComeUp (Says f ∷ past) far) (down : ComeDown past far)
    (before : (far : List AtReceiver) (r : Receiving) → FarWent far r → ComeUp past far → ComeDown past far → T s r) where
  with_turn : (sound : Sound) (pause : Bool) → (say_in s.core.place ≡ Say.End → sound ≡ Sound.Quiet) → MayBeGiven (things (told past) + 1) far sound
      → T (turned s (say_in s.core.place) sound pause) r
  with_turn sound pause done heard = side_by_side Spoken T grows f past s sound pause speaks.live speaks.due spoken done said answered before far r went up down heard

  not_end : has_answer (said_in f) ≡ true → say_in s.core.place ≡ Say.End → ⊥
  not_end asks ends =
      let eot : f ≡ frame.Eot = subst (λ x. IsFrameOf x s.rest f) ends speaks.due in
      true≢false (sym asks ∙ ap (λ x. has_answer (said_in x)) eot)

  last_heard : has_answer (said_in f) ≡ true → (sound : Sound) → MayBeGiven (things (told (Says f ∷ past))) far sound → MayBeGiven (things (told past) + 1) far sound
  last_heard asks sound may = rw asks at may

  pub after_saying : Stand T (has_answer (said_in f)) (things (told (Says f ∷ past))) s' far r
  after_saying = elim (ends_or_asks (say_in s.core.place) s.rest f speaks.due) [
    | inl ends ↦ record {
      settled = λ _.
          grows.same (turned s (say_in s.core.place) Sound.Quiet false) s' r r (ap but_for_notes (ap (λ x. turned s x Sound.Quiet false) ends.0 ∙ sym speaks.state)) refl
          (with_turn Sound.Quiet false (λ _. refl) (inl refl));
      awaiting = λ asked. absurd (true≢false (sym asked ∙ ap (λ x. has_answer (said_in x)) ends.1));
    }
    | inr asks ↦ record {
      settled = λ over. absurd (true≢false (sym asks.0 ∙ over));
      awaiting = λ _ sound pause may.
          grows.same (turned s (say_in s.core.place) sound pause) (after_hearing s' sound pause) r r
          (ap but_for_notes (asks.1 s sound pause ∙ ap (λ x. after_hearing x sound pause) (sym speaks.state))) refl
          (with_turn sound pause (λ ends. absurd (not_end asks.0 ends)) (last_heard asks.0 sound may));
    }
  ]
