-- What one station hears of the other over lines in memory.
use Rattle.std.proofs.Common.{◌≡◌, ◌≢◌, inl, inr, ℕ, Bool, false, List, [], Option, Some, refl, ap, sym, ◌∙◌, subst}
use Rattle.std.specs.List.{flat_map}
use Rattle.std.proofs.lemmas.Bool.{cases_Bool}
use Rattle.bsc_link.specs.declared.reply.Reply.{Reply}
use Rattle.bsc_link.specs.declared.say.Say.{Say}
use Rattle.bsc_link.specs.declared.sound.Sound.{Sound}
use Rattle.bsc_link.specs.declared.wish.Wish.{Wish}
use Rattle.rje_station.specs.declared.arrival.Arrival.{Arrival}
use Rattle.rje_station.specs.Hearing.{Hearing, HearsSound, sound_heard}
use Rattle.rje_station.specs.JoinedJobs.{begun_in}
use Rattle.rje_station.specs.Line.{Passes}
use Rattle.rje_station.specs.Receiving.{MayRefuse}
use Rattle.rje_station.specs.Sending.{IsWrittenOf}
use Rattle.rje_station.specs.Station.{Contending, due_at, after_answer, HeardOther, after_other, lets_in}
use Rattle.line_world.specs.declared.turn.Turn.{Turn}
use Rattle.line_world.specs.declared.turn_fault.TurnFault.{TurnFault}
use Rattle.line_world.specs.Damage.{AreHeardAs, Fits}
use Rattle.line_world.specs.Inside.Driving.{ReplyBreaks, IsReplyFault}
use Rattle.line_world.specs.Carrying.{bytes_after, MayDamage}
use Rattle.bsc_history.specs.Fate.{sound_of}
use Rattle.line_world.specs.MemoryLine.{LineInMemory, talk_of}
use Rattle.rje_station.proofs.PassedOver.{passed_enq, passed_unrefused}
use Rattle.line_world.proofs.ForPairs.{fault_so, line_hears, same_sound, same_refusal}
use Rattle.pair_world.specs.Inside.PairDriving.{GoesAcross, HearsNothing, BreaksAlone, IsAloneFault}

-- ---- Across.

module _ (s s' : Contending) (wish : Wish) (reply : Option Reply) (l m : LineInMemory) (arrival : Arrival)
    (g : HeardOther s s' wish reply (λ what. Passes (Some (talk_of l)) (Some (talk_of m)) (λ t u. Hearing t u what)))
    (seen : s'.receiver.arrival ≡ Some arrival) where
  -- an ENQ that is passed over is told too
  brought : s'.receiver.arrival ≡ Some (record { sound = sound_heard g.what; refused = g.refused })
  brought = elim (cases_Bool (lets_in s.contender (sound_heard g.what))) [
    | inl let_in ↦ ap (λ x. x.receiver.arrival) g.state ∙ rw let_in refl
    | inr out ↦
        let is : sound_heard g.what ≡ Sound.Enq = passed_enq s.contender (sound_heard g.what) out in
        let none : g.refused ≡ false = passed_unrefused g.what (begun_in s.receiver.jobs) g.refused is g.may in
        ap (λ x. x.receiver.arrival) g.state ∙ rw (out, is, none) refl
  ]

  pub arrived_across : arrival.sound ≡ sound_heard g.what
  arrived_across = same_sound arrival _ (sym seen ∙ brought)

  pub refused_across : arrival.refused ≡ g.refused
  refused_across = same_refusal arrival _ (sym seen ∙ brought)

pub goes_across : (turn : Turn) (said : Sound) (sent : List ℕ) (s s' : Contending) (reply : Option Reply) (l m : LineInMemory) (arrival : Arrival)
    → Fits turn.up sent → flat_map (λ p. p) l.waiting ≡ bytes_after turn.up sent
    → HeardOther s s' turn.wish reply (λ what. Passes (Some (talk_of l)) (Some (talk_of m)) (λ t u. Hearing t u what))
    → s'.receiver.arrival ≡ Some arrival → MayDamage turn.up said arrival.sound
    → GoesAcross turn said sent s s' arrival.sound arrival.refused reply
goes_across turn said sent s s' reply l m arrival fits comes g seen may =
    let a : arrival.sound ≡ sound_heard g.what = arrived_across s s' turn.wish reply l m arrival g seen in
    let f : arrival.refused ≡ g.refused = refused_across s s' turn.wish reply l m arrival g seen in
    record {
      what = g.what;
      carried = record { fits = fits; heard = line_hears l m g.what (bytes_after turn.up sent) comes g.told; may = subst (MayDamage turn.up said) a may };
      arrived_is = a;
      may = subst (MayRefuse g.what (begun_in s.receiver.jobs)) (sym f) g.may;
      state = g.state ∙ ap (λ b. after_other s g.what b turn.wish) (sym f);
      reply_is = g.reply_is;
    }

-- ---- In vain.

pub hears_nothing : (say : Say) (pause : Bool) (s s' : Contending) (heard : Sound) → say ≢ Say.End → s' ≡ after_answer s heard pause → AreHeardAs [] heard → HearsNothing say pause s s' heard
hears_nothing Say.End pause s s' heard n state h = absurd (n refl)
hears_nothing _ pause s s' heard n state h = (state, h)

pub nothing_came : (l m : LineInMemory) (sound : Sound) → flat_map (λ p. p) l.waiting ≡ [] → Passes (Some (talk_of l)) (Some (talk_of m)) (λ t u. HearsSound t u sound) → AreHeardAs [] sound
nothing_came l m sound comes h = record { what = h.what; heard = line_hears l m h.what [] comes h.hearing; sound_is = h.sound_is }

-- ---- Faults.

pub fault_back : (turn : Turn) (s l middle : Contending) (sent : List ℕ) (arrived : Sound) (refused : Bool) (answer : Option Reply) (fault : TurnFault) → IsWrittenOf (due_at s) s.sender.rest sent
    → GoesAcross turn (sound_of (due_at s)) sent l middle arrived refused answer → IsReplyFault turn.down middle.receiver.due fault → IsAloneFault turn s l fault
fault_back turn s l middle sent arrived refused answer fault written across h =
    fault_so (λ Breaks. ReplyBreaks Breaks turn.down middle.receiver.due) (λ Breaks. BreaksAlone Breaks turn s l)
    (λ Breaks b. record { sent = sent; written = written; breaks = inr (record { arrived = arrived; refused = refused; answer = answer; middle = middle; across = across; breaks = b }) }) fault h
