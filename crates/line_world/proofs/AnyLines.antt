-- Two stations over lines of any kind that keep the headline's premises: their turns are a conversation, and both stand where it left
-- them.
use Rattle.std.proofs.Common.{◌≡◌, ℕ, ◌<◌, Bool, true, false, ◌&&◌, List, [], ◌∷◌, length, take, slice_get, Some, refl, ap, sym, ◌∙◌, subst, arith}
use Rattle.std.proofs.lemmas.Bool.{true≢false}
use Rattle.bsc_codes.specs.declared.block.Block.{Block}
use Rattle.bsc_frame.specs.declared.frame.Frame.TheVariants as frame
use Rattle.bsc_frame.specs.declared.heard.Heard.{Heard}
use Rattle.bsc_frame.specs.declared.heard.Heard.TheVariants as heard
use Rattle.bsc_link.specs.declared.say.Say.{Say}
use Rattle.bsc_link.specs.declared.sound.Sound.{Sound}
use Rattle.bsc_link.specs.Sender.{say_in}
use Rattle.bsc_link.specs.Receiver.{receiver_news}
use Rattle.rje_jobs.specs.declared.job.Job.{Job}
use Rattle.rje_jobs.specs.Blocks.{blocks}
use Rattle.rje_station.specs.Hearing.{sound_heard}
use Rattle.rje_station.specs.Receiving.{Receiving, first_receiving, after_receiving}
use Rattle.rje_station.specs.Sending.{Sending, first_sending, ended_by}
use Rattle.bsc_history.specs.declared.spoken_turn.SpokenTurn.{SpokenTurn}
use Rattle.bsc_history.specs.History.{Plan, History, is_over}
use Rattle.bsc_history.specs.Known.{known, gives_up_now}
use Rattle.bsc_history.specs.Conversation.{IsConversation, Follows, is_block}
use Rattle.bsc_history.specs.Cores.{taken}
use Rattle.bsc_history.specs.ReplyRule.{replying}
use Rattle.bsc_history.specs.SayingRule.{saying}
use Rattle.bsc_history.proofs.ForRuns.{conversations_may_be_spoken, conversations_are_spoken, receiver_core_replies, sender_core_says}
use Rattle.line_world.specs.AnyLines.{SenderTakes, SenderTook, ReceiverTakes, ReceiverTook, after_answering, IsFaithful, AreFaithful, OverFaithfulLines}
use Rattle.line_world.specs.Headline.{OfHistories}
use Rattle.line_world.specs.Plan.{plan_of}
use Rattle.line_world.specs.Turns.{StandsSending, StandsReceiving, SendingTurns, ReceivingTurns}
use Rattle.line_world.proofs.Comings.{first_left}
use Rattle.line_world.proofs.Planned.{begins}
use Rattle.line_world.proofs.ReceivingTurns.{taken_is, refused_block}
use Rattle.line_world.proofs.RunLoop.{some_jobs}

-- the turns so far are a conversation, and both stations stand where it left them
record StandOver (jobs : List Job) (h : History) (s : Sending) (r : Receiving) : Type 0 where
  spoken : IsConversation (plan_of (blocks jobs)) h
  sends : StandsSending jobs h s
  receives : StandsReceiving (blocks jobs) h r

-- an answer that is sent changes nothing of what stands
answered : (bs : List Block) (h : History) (r r' : Receiving) (what : Heard) (t : SpokenTurn) (say : Say) → t.said ≡ say → r' ≡ after_answering r what t
    → StandsReceiving bs h (after_receiving r what t.refused t.wish) → StandsReceiving bs h r'
answered bs h r r' what t Say.End e state p = subst (StandsReceiving bs h) (sym (state ∙ rw e refl)) p
answered bs h r r' what t Say.Bid e state p = rw (state, e) (record { core = p.core; jobs = p.jobs; over = p.over })
answered bs h r r' what t Say.Block e state p = rw (state, e) (record { core = p.core; jobs = p.jobs; over = p.over })
answered bs h r r' what t Say.Again e state p = rw (state, e) (record { core = p.core; jobs = p.jobs; over = p.over })
answered bs h r r' what t Say.Ask e state p = rw (state, e) (record { core = p.core; jobs = p.jobs; over = p.over })
answered bs h r r' what t Say.Delay e state p = rw (state, e) (record { core = p.core; jobs = p.jobs; over = p.over })
answered bs h r r' what t Say.Nothing e state p = rw (state, e) (record { core = p.core; jobs = p.jobs; over = p.over })

-- a refusal is told of a block alone
block_alone : (refused : Bool) (sound arrived : Sound) → refused ≡ (refused && is_block sound) → arrived ≡ sound → refused ≡ true → arrived ≡ Sound.Block
block_alone refused Sound.Block arrived e same told = same
block_alone true _ arrived e same told = absurd (true≢false e)
block_alone false _ arrived e same told = absurd (true≢false (sym told))

-- ---- One turn.

module _ (sending : SendingTurns) (receiving : ReceivingTurns) (jobs : List Job) (h : History) (s s' : Sending) (r r' : Receiving) (t : SpokenTurn)
    (l : 0 < length jobs) (p : StandOver jobs h s r) (says : SenderTakes s s' t) (hears : ReceiverTakes r r' t) (faithful : IsFaithful s hears.what t) where
  abbrev plan : Plan
  plan = plan_of (blocks jobs)

  goes : is_over h ≡ false
  goes = sym p.sends.over ∙ says.live

  said : t.said ≡ saying plan (gives_up_now h) h
  said = says.said ∙ ap (λ x. say_in x.place) p.sends.core ∙ (sender_core_says plan h (begins jobs l) (conversations_are_spoken plan h p.spoken)).0

  replied : t.reply ≡ replying h t.arrived t.refused t.wish
  replied =
      hears.reply
      ∙ ap (λ x. (receiver_news r.core x t.wish).reply) (taken_is hears.what _ t.refused hears.may ∙ ap (λ x. taken x t.refused) (sym hears.arrived))
      ∙ ap (λ x. (receiver_news x (taken t.arrived t.refused) t.wish).reply) p.receives.core
      ∙ receiver_core_replies plan h t.arrived t.refused t.wish (conversations_may_be_spoken plan h p.spoken) goes

  follows : Follows plan (gives_up_now h) h t
  follows = record {
    goes_on = goes;
    said = said;
    arrived = faithful.up;
    refusal = block_alone t.refused (sound_heard hears.what) t.arrived (refused_block hears.what _ t.refused hears.may) hears.arrived;
    replied = replied;
    heard = faithful.down;
  }

  abbrev longer : IsConversation plan (t ∷ h)
  longer = (follows, p.spoken)

  outstanding : (b : Block) → hears.what ≡ heard.Frame (frame.Block b) → slice_get (blocks jobs) (known h) ≡ Some b
  outstanding b is =
      let first = faithful.block b is in
      first_left (known h) (blocks jobs) b first.0 (sym p.sends.counted.rest ∙ first.1)

  stands : StandOver jobs (t ∷ h) s' r'
  stands = record {
    spoken = longer;
    sends = subst (StandsSending jobs (t ∷ h)) (sym says.state) (sending jobs h s t l p.sends (conversations_are_spoken plan (t ∷ h) longer));
    receives = answered (blocks jobs) (t ∷ h) r r' hears.what t t.said refl hears.state
        (receiving (blocks jobs) h r t hears.what p.receives (conversations_may_be_spoken plan (t ∷ h) longer) hears.arrived hears.may outstanding);
  }

-- ---- All turns.

module _ (sending : SendingTurns) (receiving : ReceivingTurns) (jobs : List Job) (l : 0 < length jobs) where
  first_stands : StandOver jobs [] (first_sending jobs) first_receiving
  first_stands = record {
    spoken = tt;
    sends = record { jobs_are = refl; core = refl; counted = record { rest = refl; counted = refl }; over = some_jobs jobs l };
    receives = record { core = refl; jobs = refl; over = λ e. refl };
  }

  all_stand : (s : Sending) (r : Receiving) (h : History) (sent : SenderTook (first_sending jobs) h s) (received : ReceiverTook first_receiving h r)
      → AreFaithful (first_sending jobs) s first_receiving r h sent received → StandOver jobs h s r
  all_stand s r [] sent received faithful = rw (sent, received) first_stands
  all_stand s r (t ∷ h) (near, sent, says) (far, received, hears) (now, before) =
      stands sending receiving jobs h near s far r t l (all_stand near far h sent received before) says hears now

-- a station that has no jobs takes no turn
none_takes : (near s : Sending) (h : History) (t : SpokenTurn) → SenderTook (first_sending []) h near → SenderTakes near s t → ⊥
none_takes near s [] t sent says = true≢false (sym (ap (λ x. x.over) sent) ∙ says.live)
none_takes near s (u ∷ h) t (far, sent, before) says = none_takes far near h u sent before

pub over_faithful_lines : (Holds : ℕ → List Job → List Job → Type 0) → SendingTurns → ReceivingTurns → OfHistories Holds → OverFaithfulLines Holds
over_faithful_lines Holds sending receiving law [] s r [] sent received fit faithful = rw (sent, received) (law [] [] fit tt)
over_faithful_lines Holds sending receiving law [] s r (t ∷ h) (near, sent, says) received fit faithful = absurd (none_takes near s h t sent says)
over_faithful_lines Holds sending receiving law (j ∷ js) s r h sent received fit faithful =
    let p = all_stand sending receiving (j ∷ js) (omega arith) s r h sent received faithful in
    subst (λ n. Holds n (j ∷ js) r.jobs) (sym p.sends.counted.counted)
    (subst (Holds (ended_by (take (known h) (blocks (j ∷ js)))) (j ∷ js)) (sym p.receives.jobs) (law (j ∷ js) h fit (conversations_may_be_spoken _ h p.spoken)))
