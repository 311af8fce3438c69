-- One turn of the receiving station.
use Rattle.std.proofs.Common.{◌≡◌, ◌≢◌, inl, inr, ℕ, ◌+◌, ◌-◌, Bool, true, false, ◌&&◌, List, [], ◌∷◌, ◌++◌, slice_get, Option, Some, refl, ap, sym, ◌∙◌, subst, arith}
use Rattle.std.specs.Option.{option_to_list}
use Rattle.std.proofs.lemmas.Bool.{true≢false, cases_Bool}
use Rattle.std.proofs.lemmas.Grind.{flat_map-append}
use Rattle.bsc_codes.specs.declared.block.Block.{Block}
use Rattle.bsc_frame.specs.declared.frame.Frame.TheVariants as frame
use Rattle.bsc_frame.specs.declared.heard.Heard.{Heard}
use Rattle.bsc_frame.specs.declared.heard.Heard.TheVariants as heard
use Rattle.bsc_link.specs.declared.say.Say.{Say}
use Rattle.bsc_link.specs.declared.sound.Sound.{Sound}
use Rattle.bsc_link.specs.declared.wish.Wish.{Wish}
use Rattle.bsc_link.specs.declared.receiver_place.ReceiverPlace.{ReceiverPlace}
use Rattle.bsc_link.specs.Receiver.{ReceiverState, receiver_hears, receiver_news}
use Rattle.rje_jobs.specs.declared.job.Job.{Job}
use Rattle.rje_jobs.specs.Joined.{joined}
use Rattle.rje_station.specs.Hearing.{sound_heard}
use Rattle.rje_station.specs.Laws.{HearsJobs, accepted_after}
use Rattle.rje_station.specs.JoinedJobs.{begun_in}
use Rattle.rje_station.specs.Receiving.{Receiving, MayRefuse, sound_taken}
use Rattle.bsc_history.specs.declared.spoken_turn.SpokenTurn.{SpokenTurn}
use Rattle.bsc_history.specs.History.{Plan, History, is_over}
use Rattle.bsc_history.specs.Known.{known}
use Rattle.bsc_history.specs.Got.{got, brings_block}
use Rattle.bsc_history.specs.Conversation.{MayBeSpoken, is_block}
use Rattle.bsc_history.specs.Cores.{taken, receiver_after}
use Rattle.line_world.specs.Plan.{plan_of, numbered}
use Rattle.line_world.specs.Turns.{ReceivingTurns}
use Rattle.bsc_history.proofs.ForRuns.{comes, receiver_core_accepts, eot-said}

-- what goes to the core is what the history says
pub taken_is : (what : Heard) (begun : Option Job) (refused : Bool) → MayRefuse what begun refused → sound_taken what refused ≡ taken (sound_heard what) refused
taken_is (heard.Frame (frame.Block b)) begun true m = refl
taken_is (heard.Frame (frame.Block b)) begun false m = refl
taken_is (heard.Frame frame.Enq) begun refused m = rw m refl
taken_is (heard.Frame frame.Ack0) begun refused m = rw m refl
taken_is (heard.Frame frame.Ack1) begun refused m = rw m refl
taken_is (heard.Frame frame.Nak) begun refused m = rw m refl
taken_is (heard.Frame frame.Wack) begun refused m = rw m refl
taken_is (heard.Frame frame.Rvi) begun refused m = rw m refl
taken_is (heard.Frame frame.Ttd) begun refused m = rw m refl
taken_is (heard.Frame frame.Abort) begun refused m = rw m refl
taken_is (heard.Frame frame.Eot) begun refused m = rw m refl
taken_is heard.Bad begun refused m = refl
taken_is heard.Noise begun refused m = refl
taken_is heard.Quiet begun refused m = refl

-- a block alone is refused
pub refused_block : (what : Heard) (begun : Option Job) (refused : Bool) → MayRefuse what begun refused → refused ≡ (refused && is_block (sound_heard what))
refused_block (heard.Frame (frame.Block b)) begun true m = refl
refused_block (heard.Frame (frame.Block b)) begun false m = refl
refused_block (heard.Frame frame.Enq) begun refused m = rw m refl
refused_block (heard.Frame frame.Ack0) begun refused m = rw m refl
refused_block (heard.Frame frame.Ack1) begun refused m = rw m refl
refused_block (heard.Frame frame.Nak) begun refused m = rw m refl
refused_block (heard.Frame frame.Wack) begun refused m = rw m refl
refused_block (heard.Frame frame.Rvi) begun refused m = rw m refl
refused_block (heard.Frame frame.Ttd) begun refused m = rw m refl
refused_block (heard.Frame frame.Abort) begun refused m = rw m refl
refused_block (heard.Frame frame.Eot) begun refused m = rw m refl
refused_block heard.Bad begun refused m = rw m refl
refused_block heard.Noise begun refused m = rw m refl
refused_block heard.Quiet begun refused m = rw m refl

-- ---- The blocks got.

pub numbered_more : (blocks : List Block) (numbers : List ℕ) (n : ℕ) (b : Block) → slice_get blocks n ≡ Some b → numbered blocks (numbers ++ (n + 1) ∷ []) ≡ numbered blocks numbers ++ b ∷ []
numbered_more blocks numbers n b here =
    let e : n ≡ n + 1 - 1 = omega arith in
    let there : slice_get blocks (n + 1 - 1) ≡ Some b = subst (λ k. slice_get blocks k ≡ Some b) e here in
    flat_map-append (λ k. option_to_list (slice_get blocks (k - 1))) numbers ((n + 1) ∷ []) ∙ ap (λ o. numbered blocks numbers ++ (option_to_list o ++ [])) there

abbrev pub IsOutstanding : List Block → History → Heard → Type 0
IsOutstanding blocks h what = (b : Block) → what ≡ heard.Frame (frame.Block b) → slice_get blocks (known h) ≡ Some b

-- a block that is accepted stands behind those that were got before
blocks_are : (blocks : List Block) (h : History) (t : SpokenTurn) (what : Heard) → t.arrived ≡ sound_heard what → IsOutstanding blocks h what
    → accepted_after what (brings_block t) (numbered blocks (got h)) ≡ numbered blocks (got (t ∷ h))
blocks_are blocks h t (heard.Frame (frame.Block b)) e out = elim (cases_Bool (brings_block t)) [
  | inl brings ↦ rw brings (sym (numbered_more blocks (got h) (known h) b (out b refl)))
  | inr none ↦ rw none refl
]
blocks_are blocks h t (heard.Frame frame.Enq) e out = rw e refl
blocks_are blocks h t (heard.Frame frame.Ack0) e out = rw e refl
blocks_are blocks h t (heard.Frame frame.Ack1) e out = rw e refl
blocks_are blocks h t (heard.Frame frame.Nak) e out = rw e refl
blocks_are blocks h t (heard.Frame frame.Wack) e out = rw e refl
blocks_are blocks h t (heard.Frame frame.Rvi) e out = rw e refl
blocks_are blocks h t (heard.Frame frame.Ttd) e out = rw e refl
blocks_are blocks h t (heard.Frame frame.Abort) e out = rw e refl
blocks_are blocks h t (heard.Frame frame.Eot) e out = rw e refl
blocks_are blocks h t heard.Bad e out = rw e refl
blocks_are blocks h t heard.Noise e out = rw e refl
blocks_are blocks h t heard.Quiet e out = rw e refl

-- ---- The end.

-- the receiver ends at an EOT alone
pub ended_early : (s : ReceiverState) (sound : Sound) (wish : Wish) (place : ReceiverPlace) → s.place ≡ place → sound ≢ Sound.Eot → (receiver_news s sound wish).ended ≡ false
ended_early s Sound.Eot wish place e n = absurd (n refl)
ended_early s Sound.Enq Wish.Hold ReceiverPlace.Idle e n = rw e refl
ended_early s Sound.Enq Wish.Go ReceiverPlace.Idle e n = rw e refl
ended_early s Sound.Enq Wish.Turn ReceiverPlace.Idle e n = rw e refl
ended_early s sound wish ReceiverPlace.Idle e n = rw e refl
ended_early s sound wish ReceiverPlace.InTransmission e n = rw e refl
ended_early s sound wish ReceiverPlace.Ended e n = rw e refl

pub taken_eot : (arrived : Sound) (refused : Bool) → arrived ≢ Sound.Eot → taken arrived refused ≢ Sound.Eot
taken_eot Sound.Block true n = λ e. cc
taken_eot Sound.Block false n = λ e. cc
taken_eot _ refused n = n

pub no_eot : (plan : Plan) (t : SpokenTurn) (h : History) → MayBeSpoken plan (t ∷ h) → is_over (t ∷ h) ≡ false → t.arrived ≢ Sound.Eot
no_eot plan t h spoken goes = λ e. let said : t.said ≡ Say.End = eot-said t.said (rw e at (comes _ _ spoken.0.1.arrived)) in true≢false (rw said at goes)

-- the core accepts just the blocks that are brought
pub accepted_is : (plan : Plan) (h : History) (r : Receiving) (t : SpokenTurn) (what : Heard) → r.core ≡ receiver_after h → MayBeSpoken plan (t ∷ h) → t.arrived ≡ sound_heard what → MayRefuse what (begun_in r.jobs) t.refused
    → (receiver_news r.core (sound_taken what t.refused) t.wish).accepted ≡ brings_block t
accepted_is plan h r t what core spoken arrived may =
    ap (λ x. (receiver_news r.core x t.wish).accepted) (taken_is what _ t.refused may ∙ ap (λ s. taken s t.refused) (sym arrived))
    ∙ ap (λ x. (receiver_news x (taken t.arrived t.refused) t.wish).accepted) core ∙ receiver_core_accepts plan t h spoken

pub receiving_turns : HearsJobs → ReceivingTurns
receiving_turns law blocks h r t what p spoken arrived may out =
    let plan = plan_of blocks in
    let sound : sound_taken what t.refused ≡ taken t.arrived t.refused = taken_is what _ t.refused may ∙ ap (λ s. taken s t.refused) (sym arrived) in
    let accepts = accepted_is plan h r t what p.core spoken arrived may in
    record {
      core = ap (λ s. receiver_hears r.core s t.wish) sound ∙ ap (λ c. receiver_hears c (taken t.arrived t.refused) t.wish) p.core;
      jobs = law (numbered blocks (got h)) r what t.refused t.wish p.jobs ∙ ap (λ a. joined (accepted_after what a (numbered blocks (got h)))) accepts ∙ ap joined (blocks_are blocks h t what arrived out);
      over = λ goes. ap (λ x. (receiver_news r.core x t.wish).ended) sound ∙ ended_early r.core (taken t.arrived t.refused) t.wish r.core.place refl (taken_eot t.arrived t.refused (no_eot plan t h spoken goes));
    }
