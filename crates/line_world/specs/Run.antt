-- The run of jobs over a schedule of losses and damage: its conversation, what it reports, and when it is refused. Own profile.
use Rattle.std.specs.Prelude.{◌≡◌, ◌⊎◌, ℕ, ◌+◌, Bool, false, ◌&&◌, List, [], ◌∷◌, length, map, reverse, take, drop, slice_get, Option, Some, None}
use Rattle.std.specs.List.{AllByRecursion}
use Rattle.bsc_codes.specs.declared.block.Block.{Block}
use Rattle.bsc_frame.specs.Written.{Written}
use Rattle.bsc_link.specs.declared.outcome.Outcome.{Outcome}
use Rattle.bsc_link.specs.declared.reply.Reply.{Reply}
use Rattle.bsc_link.specs.declared.sound.Sound.{Sound}
use Rattle.rje_jobs.specs.declared.job.Job.{Job}
use Rattle.rje_jobs.specs.Blocks.{blocks}
use Rattle.rje_jobs.specs.Fitting.{JobFits}
use Rattle.rje_jobs.specs.Joined.{joined}
use Rattle.rje_station.specs.Receiving.{frame_of}
use Rattle.rje_station.specs.Sending.{IsWrittenOf, ended_by}
use Rattle.rje_station.specs.StationFault.{IsFirstUnfit}
use Rattle.line_world.specs.declared.fate.Fate.{Fate}
use Rattle.bsc_history.specs.declared.sound_turn.SoundTurn.{SoundTurn}
use Rattle.line_world.specs.declared.spoken.Spoken.{Spoken}
use Rattle.bsc_history.specs.declared.spoken_turn.SpokenTurn.{SpokenTurn}
use Rattle.line_world.specs.declared.turn.Turn.{Turn}
use Rattle.line_world.specs.declared.world_fault.WorldFault.{WorldFault}
use Rattle.bsc_history.specs.History.{History, is_over}
use Rattle.bsc_history.specs.Known.{known, gives_up_now}
use Rattle.bsc_history.specs.Got.{got}
use Rattle.bsc_history.specs.ReplyRule.{replying}
use Rattle.bsc_history.specs.SayingRule.{saying}
use Rattle.bsc_history.specs.Outcome.{outcome}
use Rattle.bsc_history.specs.Fate.{sound_of, sound_of_reply, after_fate}
use Rattle.bsc_history.specs.Conversation.{is_block, IsSpokenOver, IsConversationOver}
use Rattle.line_world.specs.Plan.{plan_of, numbered}
use Rattle.line_world.specs.Damage.{Tells, Fits, HasBadCut, IsNoDamage}

-- WHAT A SCHEDULE TELLS

-- a turn of the schedule tells a turn of sounds; whether a block finds memory in it is left open
pub record TellsTurn (turn : Turn) (place : SoundTurn) : Type 0 where
  pub up : Tells turn.up place.up
  pub down : Tells turn.down place.down
  pub wish : place.wish ≡ turn.wish
  pub pause : place.pause ≡ turn.pause

-- turn by turn, and for each turn a place
abbrev pub TurnByTurn : {X Y : Type 0} → (X → Y → Type 0) → List X → List Y → Type 0
TurnByTurn Tells [] [] = Unit {0}
TurnByTurn Tells [] (place ∷ places) = ⊥
TurnByTurn Tells (turn ∷ turns) [] = ⊥
TurnByTurn Tells (turn ∷ turns) (place ∷ places) = Tells turn place × TurnByTurn Tells turns places

-- a schedule tells these turns of sounds
abbrev pub TellsSchedule : List Turn → List SoundTurn → Type 0
TellsSchedule turns places = TurnByTurn TellsTurn turns places

-- THE FATES THAT ARE LOOKED AT

-- the bytes that are due at the sender after its past, where it gives up now or doesn't
abbrev pub IsDue : List Block → Bool → History → List ℕ → Type 0
IsDue blocks gives_up past sent = IsWrittenOf (saying (plan_of blocks) gives_up past) (drop (known past) blocks) sent

-- the fate fits the reply; where there is none it isn't looked at
abbrev pub FitsReply : Fate → Option Reply → Type 0
FitsReply fate None = Unit {0}
FitsReply fate (Some reply) = (sent : List ℕ) × Written (frame_of reply) sent × Fits fate sent

-- both fates of a turn fit what was sent in it
pub record FitsTurn (blocks : List Block) (gives_up : Bool) (past : History) (t : SpokenTurn) (turn : Turn) : Type 0 where
  pub up : (sent : List ℕ) × IsDue blocks gives_up past sent × Fits turn.up sent
  pub down : FitsReply turn.down t.reply

-- each turn of a history fits the turn at its place in a schedule, the oldest one the first
abbrev pub FitsAtItsPlace : {X T : Type 0} → (List T → T → X → Type 0) → List X → List T → Type 0
FitsAtItsPlace Fits turns [] = Unit {0}
FitsAtItsPlace {X = X} Fits turns (t ∷ past) = ((turn : X) × (slice_get turns (length past) ≡ Some turn) × Fits past t turn) × FitsAtItsPlace Fits turns past

-- the fates of every turn of the history fit
abbrev pub AllFit : List Block → List Turn → History → Type 0
AllFit blocks turns h = FitsAtItsPlace (λ past t turn. FitsTurn blocks (gives_up_now past) past t turn) turns h

-- THE CONVERSATION

-- the conversation of these blocks over a schedule, which tells these turns of sounds
pub record IsConversationOn (blocks : List Block) (turns : List Turn) (places : List SoundTurn) (h : History) : Type 0 where
  pub told : TellsSchedule turns places
  pub conversation : IsConversationOver (plan_of blocks) places h
  pub fits : AllFit blocks turns h

-- a turn of the history without the wish and the pause of its place
abbrev pub spoken_of : SpokenTurn → Spoken
spoken_of t = record { said = t.said; arrived = t.arrived; refused = t.refused; reply = t.reply; heard = t.heard }

-- the turns of the history, the oldest first
abbrev pub spoken_turns : History → List Spoken
spoken_turns h = map spoken_of (reverse h)

-- what a run of these jobs over this schedule tells: the turns of its conversation, the jobs of the blocks that the receiver got, how
-- many jobs the blocks end that the sender knows to be received, and how the transmission ends
pub record IsRun (jobs : List Job) (turns : List Turn) (spoken : List Spoken) (handed : List Job) (counted : ℕ) (ending : Option Outcome) : Type 0 where
  pub history : History
  pub places : List SoundTurn
  pub conversation : IsConversationOn (blocks jobs) turns places history
  pub spoken_is : spoken ≡ spoken_turns history
  pub handed_is : handed ≡ joined (numbered (blocks jobs) (got history))
  pub counted_is : counted ≡ ended_by (take (known history) (blocks jobs))
  pub ending_is : ending ≡ outcome (plan_of (blocks jobs)) history

-- THE REFUSALS

-- the fate of the reply breaks a rule, where what was said arrives after a fate that keeps both; `counts` is what counts of a sound that
-- arrived
pub record BreaksDown (Breaks : Fate → Sound → List ℕ → Type 0) (counts : Sound → Sound) (past : History) (turn : Turn) (place : SoundTurn) (said : Sound) (sent : List ℕ) : Type 0 where
  pub fits : Fits turn.up sent
  pub arrived : Sound
  pub up : after_fate place.up said ≡ Some arrived
  pub reply : Reply
  pub replies : replying past (counts arrived) (place.refused && is_block arrived) turn.wish ≡ Some reply
  pub reply_sent : List ℕ
  pub written : Written (frame_of reply) reply_sent
  pub breaks : Breaks turn.down (sound_of_reply (Some reply)) reply_sent

-- a fate of the turn breaks a rule: that of what is due, or else that of the reply
pub record BreaksTurn (Breaks : Fate → Sound → List ℕ → Type 0) (counts : Sound → Sound) (blocks : List Block) (gives_up : Bool) (past : History) (turn : Turn) (place : SoundTurn) : Type 0 where
  pub sent : List ℕ
  pub due : IsDue blocks gives_up past sent
  pub breaks : Breaks turn.up (sound_of (saying (plan_of blocks) gives_up past)) sent
      ⊎ BreaksDown Breaks counts past turn place (sound_of (saying (plan_of blocks) gives_up past)) sent

-- of one transmission every sound counts
abbrev pub as_it_is : Sound → Sound
as_it_is sound = sound

-- turn n, counted from 1, is the first of which a looked-at fate breaks a rule: it comes after the conversation of the turns before it
pub record BreaksFirst (Breaks : Fate → Sound → List ℕ → Type 0) (blocks : List Block) (turns : List Turn) (places : List SoundTurn) (n : ℕ) : Type 0 where
  pub told : TellsSchedule turns places
  pub past : History
  pub before : length past + 1 ≡ n
  pub some_block : blocks ≡ [] → ⊥
  pub spoken : IsSpokenOver (plan_of blocks) places past
  pub fits : AllFit blocks turns past
  pub goes_on : is_over past ≡ false
  pub turn : Turn
  pub here : slice_get turns (length past) ≡ Some turn
  pub place : SoundTurn
  pub there : slice_get places (length past) ≡ Some place
  pub breaks : BreaksTurn Breaks as_it_is blocks (gives_up_now past) past turn place

-- the fault holds of driving stations of these jobs over this schedule: the first broken rule, in the first attempt; of memory nothing is
-- said
abbrev pub IsDriveFault : List Job → List Turn → WorldFault → Type 0
IsDriveFault jobs turns WorldFault.OutOfMemory = Unit {0}
IsDriveFault jobs turns (WorldFault.NotDamage attempt turn) = (attempt ≡ 1) × ((places : List SoundTurn) × BreaksFirst IsNoDamage (blocks jobs) turns places turn)
IsDriveFault jobs turns (WorldFault.BadCut attempt turn) = (attempt ≡ 1) × ((places : List SoundTurn) × BreaksFirst HasBadCut (blocks jobs) turns places turn)
IsDriveFault jobs turns (WorldFault.BadJob job) = ⊥

-- the fault holds of a run: the first job that can't be sent, looked for before any turn; or else, of jobs that can, a fault of driving
abbrev pub IsRunFault : List Job → List Turn → WorldFault → Type 0
IsRunFault jobs turns (WorldFault.BadJob job) = IsFirstUnfit jobs job
IsRunFault jobs turns fault = AllByRecursion JobFits jobs × IsDriveFault jobs turns fault

-- WHAT HOLDS OF SCHEDULES

-- where a looked-at fate is no damage, there is no conversation with the same refusals
abbrev pub NoDamageNoConversation : Type 0
NoDamageNoConversation =
    (blocks : List Block) (turns : List Turn) (places : List SoundTurn) (h : History) (n : ℕ) → IsConversationOn blocks turns places h
    → BreaksFirst IsNoDamage blocks turns places n → ⊥

-- nor where one has a bad cut
abbrev pub BadCutNoConversation : Type 0
BadCutNoConversation =
    (blocks : List Block) (turns : List Turn) (places : List SoundTurn) (h : History) (n : ℕ) → IsConversationOn blocks turns places h
    → BreaksFirst HasBadCut blocks turns places n → ⊥
