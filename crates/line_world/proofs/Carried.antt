-- What is heard of what a line in memory brings after a fate.
use Rattle.std.proofs.Common.{◌≡◌, inr, ℕ, false, List, [], ◌++◌, Option, Some, None, Result, Ok, Err, IfOk, ap, sym, ◌∙◌, subst}
use Rattle.std.specs.List.{flat_map}
use Rattle.std.proofs.lemmas.List.{append_assoc}
use Rattle.bsc_frame.specs.declared.heard.Heard.{Heard}
use Rattle.bsc_frame.specs.declared.heard.Heard.TheVariants as heard
use Rattle.bsc_frame.specs.Heard.{IsHeard}
use Rattle.bsc_frame.specs.Written.{Written}
use Rattle.bsc_link.specs.declared.reply.Reply.{Reply}
use Rattle.bsc_link.specs.declared.sound.Sound.{Sound}
use Rattle.bsc_link.specs.declared.wish.Wish.{Wish}
use Rattle.rje_station.specs.declared.arrival.Arrival.{Arrival}
use Rattle.rje_station.specs.Hearing.{Hearing, HearsSound, sound_heard}
use Rattle.rje_station.specs.JoinedJobs.{begun_in}
use Rattle.rje_station.specs.Line.{Talk, Passes}
use Rattle.rje_station.specs.Receiving.{Receiving, Received, MayRefuse, Replied, after_receiving, after_replying, frame_of}
use Rattle.rje_station.specs.Sending.{Sending, after_hearing}
use Rattle.line_world.specs.declared.fate.Fate.{Fate}
use Rattle.line_world.specs.declared.turn.Turn.{Turn}
use Rattle.line_world.specs.declared.turn_fault.TurnFault.{TurnFault}
use Rattle.line_world.specs.declared.turn_fault.TurnFault.TheVariants as Fault
use Rattle.line_world.specs.Damage.{Fits, IsNoDamage}
use Rattle.line_world.specs.Inside.Driving.{GoesUp, GoesDown, IsReplyCarried, IsReplyFault}
use Rattle.line_world.specs.Carrying.{bytes_after, MayDamage, IsDamaged, IsFateFault}
use Rattle.bsc_history.specs.Fate.{is_damage_of, sound_of_reply}
use Rattle.line_world.specs.MemoryLine.{LineInMemory, talk_of}
use Rattle.line_world.proofs.Cutting.{append_nil}

quiet_hears : (t u : Talk) (what : Heard) → (h : Hearing t u what) → h.left ≡ [] → IsHeard t.coming what
quiet_hears t u what h none = subst (λ xs. IsHeard xs what) (sym (h.came ∙ ap (λ xs. h.given ++ xs) none ∙ append_nil h.given)) h.heard

-- what is heard in one hearing is what is heard of all that was to come
pub hears_all : (t u : Talk) (what : Heard) → Hearing t u what → IsHeard t.coming what
hears_all t u (heard.Frame f) h =
    record { front = h.heard.front; rest = h.heard.rest ++ h.left; holds = h.heard.holds; whole = h.came ∙ ap (λ xs. xs ++ h.left) h.heard.whole ∙ append_assoc h.heard.front h.heard.rest h.left }
hears_all t u heard.Bad h = quiet_hears t u heard.Bad h h.ends.1
hears_all t u heard.Noise h = quiet_hears t u heard.Noise h h.ends.1
hears_all t u heard.Quiet h = quiet_hears t u heard.Quiet h h.ends.1

-- so is what a line in memory brings
pub line_hears : (l m : LineInMemory) (what : Heard) (bytes : List ℕ) → flat_map (λ p. p) l.waiting ≡ bytes → Passes (Some (talk_of l)) (Some (talk_of m)) (λ t u. Hearing t u what) → IsHeard bytes what
line_hears l m what bytes comes h = subst (λ xs. IsHeard xs what) comes (hears_all (talk_of l) (talk_of m) what h)

-- ---- Up.

-- of two arrivals that are told as one, the sounds are the same ..
pub same_sound : (a b : Arrival) → ◌≡◌ {A = Option Arrival} (Some a) (Some b) → a.sound ≡ b.sound
same_sound a b e = cc

-- .. and so are the refusals
pub same_refusal : (a b : Arrival) → ◌≡◌ {A = Option Arrival} (Some a) (Some b) → a.refused ≡ b.refused
same_refusal a b e = cc

module _ (r r' : Receiving) (wish : Wish) (reply : Option Reply) (l m : LineInMemory) (arrival : Arrival)
    (g : Received r r' wish reply (λ what. Passes (Some (talk_of l)) (Some (talk_of m)) (λ t u. Hearing t u what)))
    (seen : r'.arrival ≡ Some arrival) where
  told : ◌≡◌ {A = Option Arrival} (Some arrival) (Some (record { sound = sound_heard g.what; refused = g.refused }))
  told = sym seen ∙ ap (λ s. s.arrival) g.state

  pub arrived_is : arrival.sound ≡ sound_heard g.what
  arrived_is = same_sound arrival _ told

  pub refused_is : arrival.refused ≡ g.refused
  refused_is = same_refusal arrival _ told

pub goes_up : (turn : Turn) (said : Sound) (sent : List ℕ) (r r' : Receiving) (reply : Option Reply) (l m : LineInMemory) (arrival : Arrival)
    → Fits turn.up sent → flat_map (λ p. p) l.waiting ≡ bytes_after turn.up sent
    → Received r r' turn.wish reply (λ what. Passes (Some (talk_of l)) (Some (talk_of m)) (λ t u. Hearing t u what))
    → r'.arrival ≡ Some arrival → MayDamage turn.up said arrival.sound
    → GoesUp turn said sent r r' arrival.sound arrival.refused reply
goes_up turn said sent r r' reply l m arrival fits comes g seen may =
    let a : arrival.sound ≡ sound_heard g.what = arrived_is r r' turn.wish reply l m arrival g seen in
    let f : arrival.refused ≡ g.refused = refused_is r r' turn.wish reply l m arrival g seen in
    record {
      what = g.what;
      carried = record { fits = fits; heard = line_hears l m g.what (bytes_after turn.up sent) comes g.told; may = subst (MayDamage turn.up said) a may };
      arrived_is = a;
      may = subst (MayRefuse g.what (begun_in r.jobs)) (sym f) g.may;
      state = g.state ∙ ap (λ b. after_receiving r g.what b turn.wish) (sym f);
      reply_is = g.reply_is;
    }

-- ---- Down.

pub goes_down : (turn : Turn) (s s' : Sending) (r r' : Receiving) (sound : Sound) → IsReplyCarried turn.down r.due sound → s' ≡ after_hearing s sound turn.pause → r' ≡ after_replying r
    → GoesDown turn s s' r r' sound
goes_down turn s s' r r' sound carried sender state =
    record { carried = carried; sender = sender; receiver = state }

-- where no reply is due, nothing comes
pub nothing_carried : (fate : Fate) (due : Option Reply) (l m : LineInMemory) (sound : Sound) → due ≡ None → flat_map (λ p. p) l.waiting ≡ []
    → Passes (Some (talk_of l)) (Some (talk_of m)) (λ t u. HearsSound t u sound) → IsReplyCarried fate due sound
nothing_carried fate due l m sound none comes h = rw none (record { what = h.what; heard = line_hears l m h.what [] comes h.hearing; sound_is = h.sound_is })

-- the reply that was due was sent
pub reply_written : (due : Option Reply) (reply : Reply) (t u : Talk) → Some reply ≡ due → Replied due t u → Written (frame_of reply) u.sent
reply_written due reply t u is sends = let e : Replied (Some reply) t u = subst (λ d. Replied d t u) (sym is) sends in e.0

pub reply_carried : (fate : Fate) (due : Option Reply) (reply : Reply) (sent : List ℕ) (l m : LineInMemory) (sound : Sound) → Some reply ≡ due → Written (frame_of reply) sent → Fits fate sent
    → flat_map (λ p. p) l.waiting ≡ bytes_after fate sent → Passes (Some (talk_of l)) (Some (talk_of m)) (λ t u. HearsSound t u sound) → MayDamage fate (sound_of_reply (Some reply)) sound → IsReplyCarried fate due sound
reply_carried fate due reply sent l m sound is written fits comes h may =
    rw (← is) (
      sent,
      written,
      (
        h.what,
        record { fits = fits; heard = line_hears l m h.what (bytes_after fate sent) comes h.hearing; may = subst (MayDamage fate (sound_of_reply (Some reply))) h.sound_is may },
        h.sound_is,
      ),
    )

-- ---- Damage that is none.

pub no_damage : (fate : Fate) (said : Sound) (sent : List ℕ) (sound : Sound) (what : Heard) → IsDamaged fate → is_damage_of said sound ≡ false → IsHeard (bytes_after fate sent) what → sound ≡ sound_heard what → IsNoDamage fate said sent
no_damage (Fate.Arrives cuts) said sent sound what d wrong h is = absurd d
no_damage Fate.Lost said sent sound what d wrong h is = absurd d
no_damage (Fate.Damaged bytes) said sent sound what d wrong h is = inr (sound, record { what = what; heard = h; sound_is = is }, wrong)

pub damage_fault : (fate : Fate) (said : Sound) (sent : List ℕ) (sound : Sound) (what : Heard) (fault : TurnFault) → fault ≡ Fault.NotDamage → IsDamaged fate × (is_damage_of said sound ≡ false) → IsHeard (bytes_after fate sent) what → sound ≡ sound_heard what
    → IsFateFault fate said sent fault
damage_fault fate said sent sound what fault e wrong h is = rw e (no_damage fate said sent sound what wrong.0 wrong.1 h is)

-- and so of the value of an Ok
pub if_ok : {A E : Type 0} (r : Result A E) (P Q : A → Type 0) → ((x : A) → P x → Q x) → IfOk r P → IfOk r Q
if_ok (Ok x) P Q h p = h x p
if_ok (Err e) P Q h p = tt

pub reply_fault : (fate : Fate) (due : Option Reply) (reply : Reply) (sent : List ℕ) (fault : TurnFault) → Some reply ≡ due → Written (frame_of reply) sent → IsFateFault fate (sound_of_reply (Some reply)) sent fault → IsReplyFault fate due fault
reply_fault fate due reply sent Fault.OutOfMemory is written h = tt
reply_fault fate due reply sent Fault.NotDamage is written h = rw (← is) (sent, written, h)
reply_fault fate due reply sent Fault.BadCut is written h = rw (← is) (sent, written, h)
