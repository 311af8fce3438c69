-- One turn of one direction, of a run and of two stations that both have jobs.
use Rattle.std.proofs.Common.{◌≡◌, inl, inr, ℕ, Bool, false, ◌&&◌, List, drop, slice_get, Option, Some, None, refl, ap, sym, ◌∙◌, subst}
use Rattle.bsc_codes.specs.declared.block.Block.{Block}
use Rattle.bsc_frame.specs.declared.frame.Frame.TheVariants as frame
use Rattle.bsc_frame.specs.declared.heard.Heard.{Heard}
use Rattle.bsc_frame.specs.declared.heard.Heard.TheVariants as heard
use Rattle.bsc_frame.specs.Laws.{OneHearing, EveryHearing, WrittenIsTransmission}
use Rattle.bsc_link.specs.declared.reply.Reply.{Reply}
use Rattle.bsc_link.specs.declared.say.Say.{Say}
use Rattle.bsc_link.specs.declared.sound.Sound.{Sound}
use Rattle.bsc_link.specs.declared.wish.Wish.{Wish}
use Rattle.bsc_link.specs.Receiver.{receiver_news}
use Rattle.rje_station.specs.Hearing.{sound_heard}
use Rattle.rje_station.specs.JoinedJobs.{begun_in}
use Rattle.rje_station.specs.Receiving.{Receiving, MayRefuse, after_receiving, after_replying, trace_after_reply}
use Rattle.rje_station.specs.Sending.{IsWrittenOf}
use Rattle.bsc_history.specs.declared.sound_turn.SoundTurn.{SoundTurn}
use Rattle.bsc_history.specs.declared.spoken_turn.SpokenTurn.{SpokenTurn}
use Rattle.bsc_history.specs.Conversation.{MayBeSpoken, is_block}
use Rattle.bsc_history.specs.Cores.{taken, receiver_after}
use Rattle.bsc_history.specs.Fate.{sound_of, sound_of_reply, after_fate, MayBeHeardAs}
use Rattle.bsc_history.specs.History.{Plan, History, is_over}
use Rattle.bsc_history.specs.Known.{known}
use Rattle.bsc_history.specs.ReplyRule.{replying}
use Rattle.bsc_history.specs.SayingRule.{saying}
use Rattle.bsc_history.proofs.ForRuns.{comes, no-answer, receiver_core_replies}
use Rattle.line_world.specs.declared.fate.Fate.{Fate}
use Rattle.line_world.specs.declared.spoken.Spoken.{Spoken}
use Rattle.line_world.specs.declared.turn.Turn.{Turn}
use Rattle.line_world.specs.Carrying.{IsCarried}
use Rattle.line_world.specs.Damage.{Fits}
use Rattle.line_world.specs.Inside.Driving.{IsReplyCarried, ReplyBreaks}
use Rattle.line_world.specs.Plan.{plan_of}
use Rattle.line_world.specs.Run.{TellsTurn, IsDue, FitsReply, BreaksTurn}
use Rattle.line_world.proofs.Comings.{Told, tell, reply_told, reply_fits, block_carried, first_left}
use Rattle.line_world.proofs.ReceivingTurns.{taken_is}
use Rattle.line_world.proofs.Telling.{told_turn}

-- the turn with the wish and the pause of its place
abbrev pub turn_of : Turn → Spoken → SpokenTurn
turn_of turn t = record { said = t.said; arrived = t.arrived; refused = t.refused; reply = t.reply; heard = t.heard; wish = turn.wish; pause = turn.pause }

-- ---- What is said.

-- a block that is heard is the next one
pub outstanding_is : OneHearing → WrittenIsTransmission → (fate : Fate) (say : Say) (rest blocks : List Block) (n : ℕ) (sent : List ℕ) (what : Heard) → IsWrittenOf say rest sent → IsCarried fate (sound_of say) sent what → rest ≡ drop n blocks
    → (b : Block) → what ≡ heard.Frame (frame.Block b) → slice_get blocks n ≡ Some b
outstanding_is one transmits fate say rest blocks n sent what written carried left b is =
    let first = block_carried one transmits fate say rest sent b written (subst (IsCarried fate (sound_of say) sent) is carried) in
    first_left n blocks b first.0 (sym left ∙ first.1)

-- what arrives is answered by the reply rule
pub replies_by : (plan : Plan) (own : History) (r : Receiving) (what : Heard) (arrived : Sound) (refused : Bool) (wish : Wish) → r.core ≡ receiver_after own → MayRefuse what (begun_in r.jobs) refused → arrived ≡ sound_heard what → MayBeSpoken plan own → is_over own ≡ false
    → (after_receiving r what refused wish).due ≡ replying own arrived refused wish
replies_by plan own r what arrived refused wish core may is spoken goes =
    ap (λ x. (receiver_news r.core x wish).reply) (taken_is what _ refused may ∙ ap (λ x. taken x refused) (sym is))
    ∙ ap (λ x. (receiver_news x (taken arrived refused) wish).reply) core
    ∙ receiver_core_replies plan own arrived refused wish spoken goes

-- an EOT isn't answered
pub unanswered : (own : History) (said : Say) (arrived : Sound) (refused : Bool) (reply : Option Reply) (wish : Wish) → said ≡ Say.End → MayBeHeardAs (sound_of said) arrived → reply ≡ replying own arrived refused wish → reply ≡ None
unanswered own said arrived refused reply wish end may e =
    let eot : sound_of said ≡ Sound.Eot = rw end refl in
    e ∙ no-answer own arrived refused wish (comes Sound.Eot arrived (subst (λ x. MayBeHeardAs x arrived) eot may))

-- ---- The reply.

-- its fate tells what is heard, and it fits
pub record ToldDown (fate : Fate) (reply : Option Reply) (heard : Sound) : Type 0 where
  pub told : Told fate (sound_of_reply reply) heard
  pub fits : FitsReply fate reply

pub no_reply_told : EveryHearing → (fate : Fate) (reply : Option Reply) (heard : Sound) → reply ≡ None → heard ≡ Sound.Quiet → ToldDown fate reply heard
no_reply_told every fate reply heard none quiet =
    let told = tell every fate in
    record {
      told = record { told = told.0; tells = told.1; after = rw (none, quiet) refl };
      fits = rw none tt;
    }

pub reply_told_as : OneHearing → EveryHearing → WrittenIsTransmission → (fate : Fate) (reply due : Option Reply) (heard : Sound) → reply ≡ due → IsReplyCarried fate due heard → ToldDown fate reply heard
reply_told_as one every transmits fate reply due heard is carried =
    let same : IsReplyCarried fate reply heard = subst (λ x. IsReplyCarried fate x heard) (sym is) carried in
    record { told = reply_told one transmits every fate reply heard same; fits = reply_fits fate reply heard same }

-- where none is due the receiver stays as it is
pub rested : (r : Receiving) → r.due ≡ None → after_replying r ≡ r
rested r none = ap (λ due. record r { due = None; trace = trace_after_reply due r.trace }) none ∙ ap (λ due. record r { due = due }) (sym none)

-- ---- A broken rule.

-- what was sent is what is due
pub sent_is_due : (blocks : List Block) (g : Bool) (own : History) (say : Say) (rest : List Block) (sent : List ℕ) → say ≡ saying (plan_of blocks) g own → rest ≡ drop (known own) blocks → IsWrittenOf say rest sent → IsDue blocks g own sent
sent_is_due blocks g own say rest sent due left written = subst (λ x. IsWrittenOf (saying (plan_of blocks) g own) x sent) left (subst (λ x. IsWrittenOf x rest sent) due written)

module _ (every : EveryHearing) (Breaks : Fate → Sound → List ℕ → Type 0) (counts : Sound → Sound) (blocks : List Block) (g : Bool) (own : History) (turn : Turn) (say : Say) (rest : List Block) (sent : List ℕ)
    (due : say ≡ saying (plan_of blocks) g own) (left : rest ≡ drop (known own) blocks) (written : IsWrittenOf say rest sent) where
  pub breaks_said : Breaks turn.up (sound_of say) sent → (place : SoundTurn) × TellsTurn turn place × BreaksTurn Breaks counts blocks g own turn place
  breaks_said broken =
      let told = told_turn every turn in
      (told.0, told.1, record { sent = sent; due = sent_is_due blocks g own say rest sent due left written; breaks = inl (subst (λ x. Breaks turn.up (sound_of x) sent) due broken) })

  pub breaks_replied : (arrived : Sound) (refused : Bool) (owed : Option Reply) → Fits turn.up sent → Told turn.up (sound_of say) arrived → refused ≡ (refused && is_block arrived) → replying own (counts arrived) refused turn.wish ≡ owed → ReplyBreaks Breaks turn.down owed
      → (place : SoundTurn) × TellsTurn turn place × BreaksTurn Breaks counts blocks g own turn place
  breaks_replied arrived refused None fits told block owes broken = absurd broken
  breaks_replied arrived refused (Some reply) fits told block owes (reply_sent, reply_written, broken) =
      let down = tell every turn.down in (
        record { up = told.told; down = down.0; refused = refused; wish = turn.wish; pause = turn.pause },
        record { up = told.tells; down = down.1; wish = refl; pause = refl },
        record {
          sent = sent;
          due = sent_is_due blocks g own say rest sent due left written;
          breaks = inr (record {
            fits = fits;
            arrived = arrived;
            up = ap (λ x. after_fate told.told (sound_of x)) (sym due) ∙ told.after;
            reply = reply;
            replies = ap (λ f. replying own (counts arrived) f turn.wish) (sym block) ∙ owes;
            reply_sent = reply_sent;
            written = reply_written;
            breaks = broken;
          });
        },
      )
