-- Both speak at once: one turn of each direction, of which nothing arrives.
use Rattle.std.proofs.Common.{◌≡◌, ◌≢◌, inl, inr, Bool, false, List, ◌∷◌, None, refl, ap, sym, ◌∙◌}
use Rattle.std.proofs.lemmas.Bool.{true≢false}
use Rattle.std.proofs.lemmas.Option.{same_Some}
use Rattle.bsc_codes.specs.declared.block.Block.{Block}
use Rattle.bsc_link.specs.declared.say.Say.{Say}
use Rattle.bsc_link.specs.declared.sound.Sound.{Sound}
use Rattle.rje_jobs.specs.declared.job.Job.{Job}
use Rattle.rje_jobs.specs.Blocks.{blocks}
use Rattle.rje_station.specs.Station.{Contending, due_at}
use Rattle.line_world.specs.declared.fate.Fate.TheVariants as fates
use Rattle.line_world.specs.declared.spoken.Spoken.{Spoken}
use Rattle.bsc_history.specs.declared.spoken_turn.SpokenTurn.{SpokenTurn}
use Rattle.line_world.specs.declared.turn.Turn.{Turn}
use Rattle.bsc_history.specs.History.{History, is_over}
use Rattle.bsc_history.specs.Got.{got}
use Rattle.bsc_history.specs.Conversation.{Follows}
use Rattle.bsc_history.specs.Cores.{receiver_after}
use Rattle.line_world.specs.Plan.{plan_of}
use Rattle.bsc_history.specs.SayingRule.{saying}
use Rattle.line_world.proofs.ForPairs.{Told, after_end, after_more, reply_told, turn_of, cases_end}
use Rattle.pair_world.specs.Contending.{other_turn}
use Rattle.bsc_history.specs.Pair.{as_counted}
use Rattle.pair_world.specs.Inside.PairDriving.{SpeaksInVain, after_end_of}
use Rattle.pair_world.specs.PairDrive.{ReceivesAfter}
use Rattle.pair_world.proofs.Alone.{Laws, HasSpoken, spoken_last, spoken_on, quiet_place, end_more, end_jobs}
use Rattle.bsc_history.proofs.ForRuns.{vain-follows}

module _ (laws : Laws) (jobs : List Job) (own : History) (g bid_out : Bool) (s s' : Contending) (turn : Turn) (t : Spoken) (goes : is_over own ≡ false) (due_is : due_at s ≡ saying (plan_of (blocks jobs)) g own)
    (something : due_at s ≢ Say.Nothing) (vain : SpeaksInVain turn.pause s s' t) where
  abbrev u : SpokenTurn
  u = turn_of turn t

  -- the end, or silence
  pub record IsVainly : Type 0 where
    pub heard : t.heard ≡ Sound.Quiet
    pub spoke : HasSpoken s s' turn t

  pub vainly : IsVainly
  vainly = elim (cases_end t.said) [
    | inl end ↦ let h = after_end _ _ (due_at s) (sym vain.said ∙ end) vain.hears in record { heard = h.1; spoke = spoken_last s s' turn t vain.said something end h.0 }
    | inr more ↦
        let h = after_more _ _ (due_at s) (λ e. more (vain.said ∙ e)) vain.hears in
        let told : Told fates.Lost Sound.Quiet t.heard = reply_told laws.one laws.transmits laws.every fates.Lost None t.heard h.1 in
        record { heard = sym (same_Some Sound.Quiet t.heard told.after); spoke = spoken_on s s' turn t vain.said something more h.0 }
  ]

  pub vain_follows : Follows (plan_of (blocks jobs)) g own (as_counted bid_out u)
  vain_follows = vain-follows bid_out (plan_of (blocks jobs)) g own u goes (vain.said ∙ due_is) vain.arrived vain.refused vain.reply vainly.heard

-- ---- The receiver of a turn of which nothing arrived.

taken_quiet : (own : History) (u : SpokenTurn) → u.arrived ≡ Sound.Quiet → receiver_after (u ∷ own) ≡ receiver_after own
taken_quiet own u e = rw e (quiet_place (receiver_after own) u.wish (receiver_after own).place refl)

got_quiet : (own : History) (u : SpokenTurn) → u.arrived ≡ Sound.Quiet → got (u ∷ own) ≡ got own
got_quiet own u e = rw e refl

pub vain_listens : (blocks : List Block) (own : History) (u : SpokenTurn) (x : Contending) → u.arrived ≡ Sound.Quiet → is_over own ≡ false → ReceivesAfter blocks own x.receiver → ReceivesAfter blocks (u ∷ own) (after_end_of u.said x).receiver
vain_listens blocks own u x e goes p =
    let stands = p.live goes in
    record {
      jobs = end_jobs u.said x ∙ rw (got_quiet own u e) p.jobs;
      live = λ going. elim (cases_end u.said) [
        | inl end ↦ absurd (true≢false (rw end at going))
        | inr more ↦
            let is : after_end_of u.said x ≡ x = end_more u.said x more in
            record {
              core = ap (λ y. y.receiver.core) is ∙ stands.core ∙ sym (taken_quiet own u e);
              jobs = ap (λ y. y.receiver.jobs) is ∙ rw (got_quiet own u e) stands.jobs;
              over = λ z. ap (λ y. y.receiver.over) is ∙ stands.over goes;
            }
      ];
    }

pub end_contender : (say : Say) (x : Contending) → (after_end_of say x).contender ≡ other_turn say Sound.Quiet x.contender
end_contender Say.End x = refl
end_contender _ x = refl

pub end_sender_kept : (say : Say) (x : Contending) → ((after_end_of say x).sender ≡ x.sender) × ((after_end_of say x).failed ≡ x.failed)
end_sender_kept Say.End x = (refl, refl)
end_sender_kept _ x = (refl, refl)
