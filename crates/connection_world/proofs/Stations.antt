-- What a turn makes of the two stations, but for what they note.
use Rattle.std.proofs.Common.{◌≡◌, refl, sym, ap, ◌∙◌, ℕ, Bool, true, false, Option, Some, None, List, [], ◌∷◌, ◌⊎◌, inl, inr, arith}
use Rattle.std.proofs.lemmas.Bool.{true≢false}
use Rattle.bsc_codes.specs.declared.block.Block.{Block}
use Rattle.bsc_frame.specs.declared.frame.Frame.{Frame}
use Rattle.bsc_frame.specs.declared.frame.Frame.TheVariants as frame
use Rattle.bsc_frame.specs.declared.heard.Heard.{Heard}
use Rattle.bsc_frame.specs.declared.heard.Heard.TheVariants as heard
use Rattle.bsc_link.specs.declared.receiver_place.ReceiverPlace.{ReceiverPlace}
use Rattle.bsc_link.specs.declared.reply.Reply.{Reply}
use Rattle.bsc_link.specs.declared.say.Say.{Say}
use Rattle.bsc_link.specs.declared.sender_place.SenderPlace.{SenderPlace}
use Rattle.bsc_link.specs.declared.sound.Sound.{Sound}
use Rattle.bsc_link.specs.declared.table_line.TableLine.{TableLine}
use Rattle.bsc_link.specs.declared.wish.Wish.{Wish}
use Rattle.bsc_link.specs.Receiver.{ReceiverState, receiver_hears, receiver_news}
use Rattle.bsc_link.specs.Sender.{counts_block, follow, line_for, say_in}
use Rattle.bsc_history.specs.declared.sound_fate.SoundFate.{SoundFate}
use Rattle.bsc_history.specs.Fate.{MayBeHeardAs, sound_of}
use Rattle.rje_answers.specs.declared.rest.Rest.{Rest}
use Rattle.rje_answers.specs.Awaiting.{has_answer, said_in}
use Rattle.rje_jobs.specs.declared.job.Job.{Job}
use Rattle.rje_station.specs.Hearing.{sound_heard, sound_of_frame}
use Rattle.rje_station.specs.JoinedJobs.{begun_in}
use Rattle.rje_station.specs.Receiving.{Receiving, MayRefuse, after_receiving, after_replying, jobs_after, sound_taken}
use Rattle.rje_station.specs.Sending.{Sending, after_hearing, after_speaking, counted_after, is_done, next_for, rest_after}
use Rattle.connection_world.specs.Connection.{IsFrameOf, is_passed_over, sound_of_rest}
use Rattle.connection_world.specs.Headline.{but_for_notes}

-- ---- What is said.

-- what one turn makes of a sending station
abbrev pub turned : Sending → Say → Sound → Bool → Sending
turned s say sound pause = elim say [ Say.End ↦ after_speaking s | _ ↦ after_hearing (after_speaking s) sound pause ]

-- EOT is due, or what is due has an answer, and then the station listens
abbrev pub IsAnswered : Say → Frame → Type 0
IsAnswered say f = (has_answer (said_in f) ≡ true) × ((s : Sending) (sound : Sound) (pause : Bool) → turned s say sound pause ≡ after_hearing (after_speaking s) sound pause)

pub ends_or_asks : (say : Say) (rest : List Block) (f : Frame) → IsFrameOf say rest f → ((say ≡ Say.End) × (f ≡ frame.Eot)) ⊎ IsAnswered say f
ends_or_asks Say.Bid rest f due = inr (rw due refl, λ s sound pause. refl)
ends_or_asks Say.Ask rest f due = inr (rw due refl, λ s sound pause. refl)
ends_or_asks Say.Delay rest f due = inr (rw due refl, λ s sound pause. refl)
ends_or_asks Say.End rest f due = inl (refl, due)
ends_or_asks Say.Block [] f due = absurd due
ends_or_asks Say.Block (b ∷ more) f due = inr (rw due refl, λ s sound pause. refl)
ends_or_asks Say.Again [] f due = absurd due
ends_or_asks Say.Again (b ∷ more) f due = inr (rw due refl, λ s sound pause. refl)
ends_or_asks Say.Nothing rest f due = absurd due

pub said_sound : (say : Say) (rest : List Block) (f : Frame) → IsFrameOf say rest f → sound_of_frame f ≡ sound_of say
said_sound Say.Bid rest f due = rw due refl
said_sound Say.Ask rest f due = rw due refl
said_sound Say.Delay rest f due = rw due refl
said_sound Say.End rest f due = rw due refl
said_sound Say.Block [] f due = absurd due
said_sound Say.Block (b ∷ more) f due = rw due refl
said_sound Say.Again [] f due = absurd due
said_sound Say.Again (b ∷ more) f due = rw due refl
said_sound Say.Nothing rest f due = absurd due

abbrev block_in : Frame → Option Block
block_in (frame.Block b) = Some b
block_in _ = None

other_block : (f g : Frame) (b : Block) → f ≡ g → f ≡ frame.Block b → block_in g ≡ None → ⊥
other_block f g b is block none = grind (arith, ap block_in (sym is ∙ block))

same_block : (b c : Block) (f : Frame) (more : List Block) → f ≡ frame.Block c → f ≡ frame.Block b → c ∷ more ≡ b ∷ more
same_block b c f more is block = ap (λ x. elim (block_in x) [ None ↦ c ∷ more | Some d ↦ d ∷ more ]) (sym is ∙ block)

-- a block that is said is the first that is left
pub said_block : (say : Say) (rest : List Block) (f : Frame) (b : Block) → IsFrameOf say rest f → f ≡ frame.Block b → (more : List Block) × (rest ≡ b ∷ more)
said_block Say.Bid rest f b due is = absurd (other_block f _ b due is refl)
said_block Say.Ask rest f b due is = absurd (other_block f _ b due is refl)
said_block Say.Delay rest f b due is = absurd (other_block f _ b due is refl)
said_block Say.End rest f b due is = absurd (other_block f _ b due is refl)
said_block Say.Block [] f b due is = absurd due
said_block Say.Block (c ∷ more) f b due is = (more, same_block b c f more due is)
said_block Say.Again [] f b due is = absurd due
said_block Say.Again (c ∷ more) f b due is = (more, same_block b c f more due is)
said_block Say.Nothing rest f b due is = absurd due

-- and it is said for the first time or again
pub said_of_block : (say : Say) (rest : List Block) (f : Frame) (b : Block) → IsFrameOf say rest f → f ≡ frame.Block b → (say ≡ Say.Block) ⊎ (say ≡ Say.Again)
said_of_block Say.Bid rest f b due is = absurd (other_block f _ b due is refl)
said_of_block Say.Ask rest f b due is = absurd (other_block f _ b due is refl)
said_of_block Say.Delay rest f b due is = absurd (other_block f _ b due is refl)
said_of_block Say.End rest f b due is = absurd (other_block f _ b due is refl)
said_of_block Say.Block rest f b due is = inl refl
said_of_block Say.Again rest f b due is = inr refl
said_of_block Say.Nothing rest f b due is = absurd due

-- ---- Fates.

pub all_lost : (said : Sound) → MayBeHeardAs said Sound.Quiet
all_lost Sound.Quiet = (SoundFate.Lost, refl)
all_lost _ = (SoundFate.Lost, refl)

pub all_arrives : (said : Sound) → MayBeHeardAs said said
all_arrives Sound.Quiet = (SoundFate.Arrives, refl)
all_arrives _ = (SoundFate.Arrives, refl)

-- ---- The sending station, but for what it notes.

pub turned_same : (say : Say) (s t : Sending) (sound : Sound) (pause : Bool) → but_for_notes s ≡ but_for_notes t → but_for_notes (turned s say sound pause) ≡ but_for_notes (turned t say sound pause)
turned_same Say.End s t sound pause same = ap (λ x. but_for_notes (after_speaking x)) same
turned_same _ s t sound pause same = ap (λ x. but_for_notes (after_hearing (after_speaking x) sound pause)) same

-- where no answer came it is all one to a sending station what was heard
line_in_vain : (rest : Rest) (place : SenderPlace) (odd noted : Bool) (tries holds : ℕ) (pause : Bool)
    → line_for (record { place = place; odd_counted = odd; rvi_noted = noted; tries = tries; holds = holds }) (sound_of_rest rest) pause
    ≡ line_for (record { place = place; odd_counted = odd; rvi_noted = noted; tries = tries; holds = holds }) Sound.Quiet pause
line_in_vain Rest.Quiet place odd noted tries holds pause = refl
line_in_vain Rest.Noise SenderPlace.Bid odd noted tries holds pause = refl
line_in_vain Rest.Noise _ odd noted tries holds pause = refl
line_in_vain Rest.Bad SenderPlace.Bid odd noted tries holds pause = refl
line_in_vain Rest.Bad _ odd noted tries holds pause = refl

-- what a line of the table makes of the station
abbrev by_line : Sending → Bool → TableLine → Sending
by_line s pause line = record {
  jobs = s.jobs;
  rest = rest_after (counts_block line) s.rest;
  counted = counted_after (counts_block line) s.rest s.counted;
  core = follow line s.core (next_for (say_in s.core.place) s.rest) pause;
  over = is_done (say_in (follow line s.core (next_for (say_in s.core.place) s.rest) pause).place);
  trace = [];
}

pub heard_in_vain : (s : Sending) (rest : Rest) (pause : Bool) → but_for_notes (after_hearing s (sound_of_rest rest) pause) ≡ but_for_notes (after_hearing s Sound.Quiet pause)
heard_in_vain s rest pause =
    ap (λ line. by_line s pause line) (line_in_vain rest s.core.place s.core.odd_counted s.core.rvi_noted s.core.tries s.core.holds pause)

-- and no block counts, nor where it heard EOT
none_counted : (place : SenderPlace) (odd noted : Bool) (tries holds : ℕ) (pause : Bool)
    → (counts_block (line_for (record { place = place; odd_counted = odd; rvi_noted = noted; tries = tries; holds = holds }) Sound.Quiet pause) ≡ false)
    × (counts_block (line_for (record { place = place; odd_counted = odd; rvi_noted = noted; tries = tries; holds = holds }) Sound.Eot pause) ≡ false)
none_counted SenderPlace.Bid odd noted tries holds pause = (refl, refl)
none_counted _ odd noted tries holds pause = (refl, refl)

abbrev CountsNone : Sending → Sending → Type 0
CountsNone s s' = (s'.rest ≡ s.rest) × (s'.counted ≡ s.counted)

uncounted : (s : Sending) (sound : Sound) (pause : Bool) → counts_block (line_for s.core sound pause) ≡ false → CountsNone s (after_hearing s sound pause)
uncounted s sound pause e = (ap (λ counts. rest_after counts s.rest) e, ap (λ counts. counted_after counts s.rest s.counted) e)

pub quiet_counts_none : (s : Sending) (pause : Bool) → CountsNone s (after_hearing s Sound.Quiet pause)
quiet_counts_none s pause = uncounted s Sound.Quiet pause (none_counted s.core.place s.core.odd_counted s.core.rvi_noted s.core.tries s.core.holds pause).0

pub end_counts_none : (s : Sending) (pause : Bool) → CountsNone s (after_hearing s Sound.Eot pause)
end_counts_none s pause = uncounted s Sound.Eot pause (none_counted s.core.place s.core.odd_counted s.core.rvi_noted s.core.tries s.core.holds pause).1

-- ---- The receiving station, but for what it notes and says.

abbrev pub wordless : Receiving → Receiving
wordless r = record r { due = None; over = false; arrival = None; trace = [] }

-- whether it replies or not
pub answering_same : (say : Say) (r : Receiving) → wordless (elim say [ Say.End ↦ r | _ ↦ after_replying r ]) ≡ wordless r
answering_same Say.End r = refl
answering_same _ r = refl

-- a core that hears what it passes over stays as it is, and replies nothing
abbrev Idles : ReceiverState → Sound → Wish → Type 0
Idles core sound wish = (receiver_hears core sound wish ≡ core) × ((receiver_news core sound wish).reply ≡ None)

core_idles : (place : ReceiverPlace) (odd : Bool) (last : Option Reply) (rvi : Bool) (sound : Sound) (wish : Wish) → is_passed_over sound ≡ true
    → Idles (record { place = place; odd_accepted = odd; last_reply = last; rvi_made = rvi }) sound wish
core_idles place odd last rvi Sound.Enq wish e = absurd (true≢false (sym e))
core_idles place odd last rvi Sound.Ttd wish e = absurd (true≢false (sym e))
core_idles place odd last rvi Sound.Abort wish e = absurd (true≢false (sym e))
core_idles place odd last rvi Sound.Eot wish e = absurd (true≢false (sym e))
core_idles place odd last rvi Sound.Block wish e = absurd (true≢false (sym e))
core_idles place odd last rvi Sound.Bad wish e = absurd (true≢false (sym e))
core_idles ReceiverPlace.Idle odd last rvi _ wish e = (refl, refl)
core_idles ReceiverPlace.InTransmission odd last rvi _ wish e = (refl, refl)
core_idles ReceiverPlace.Ended odd last rvi _ wish e = (refl, refl)

pub idles : (r : Receiving) (sound : Sound) (wish : Wish) → is_passed_over sound ≡ true → Idles r.core sound wish
idles r sound wish e = core_idles r.core.place r.core.odd_accepted r.core.last_reply r.core.rvi_made sound wish e

-- nothing but a block is taken otherwise than it is heard, and what is passed over is no block
taken_so : (what : Heard) (begun : Option Job) (refused : Bool) → MayRefuse what begun refused → is_passed_over (sound_heard what) ≡ true
    → (sound_taken what refused ≡ sound_heard what) × ((accepted : Bool) (jobs : List Job) → jobs_after what accepted jobs ≡ jobs)
taken_so heard.Quiet begun refused may e = (refl, λ accepted jobs. refl)
taken_so heard.Noise begun refused may e = (refl, λ accepted jobs. refl)
taken_so heard.Bad begun refused may e = absurd (true≢false (sym e))
taken_so (heard.Frame (frame.Block b)) begun refused may e = absurd (true≢false (sym e))
taken_so (heard.Frame frame.Enq) begun refused may e = absurd (true≢false (sym e))
taken_so (heard.Frame f) begun refused may e = (rw may refl, λ accepted jobs. refl)

-- a station that hears what it passes over holds what it held
pub passed_is_nothing : (r : Receiving) (what : Heard) (refused : Bool) (wish : Wish) → MayRefuse what (begun_in r.jobs) refused → is_passed_over (sound_heard what) ≡ true
    → wordless (after_receiving r what refused wish) ≡ wordless r
passed_is_nothing r what refused wish may e =
    let so = taken_so what (begun_in r.jobs) refused may e in
    ap (λ sound. record (wordless r) { core = receiver_hears r.core sound wish; jobs = jobs_after what (receiver_news r.core sound wish).accepted r.jobs }) so.0
    ∙ ap (λ jobs. record (wordless r) { core = receiver_hears r.core (sound_heard what) wish; jobs = jobs }) (so.1 (receiver_news r.core (sound_heard what) wish).accepted r.jobs)
    ∙ ap (λ core. record (wordless r) { core = core }) (idles r (sound_heard what) wish e).0

-- and a quiet one isn't answered
pub quiet_is_silent : (r : Receiving) (wish : Wish) → None ≡ (after_receiving r heard.Quiet false wish).due
quiet_is_silent r wish = sym (idles r Sound.Quiet wish refl).1
