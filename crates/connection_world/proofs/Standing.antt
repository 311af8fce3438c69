-- Where a sending station, which may give way to bids, and a receiving one stand that take turns: as a conversation leaves them.
use Rattle.std.proofs.Common.{◌≡◌, refl, sym, ap, ◌∙◌, subst, ℕ, ◌+◌, ◌<◌, ◌≤◌, Bool, true, false, ◌&&◌, if◌then◌else◌, List, [], ◌∷◌, length, ◌⊎◌, inl, inr, arith}
use Rattle.std.proofs.lemmas.Bool.{cases_Bool, true≢false}
use Rattle.bsc_codes.specs.declared.block.Block.{Block}
use Rattle.bsc_frame.specs.declared.frame.Frame.{Frame}
use Rattle.bsc_frame.specs.declared.frame.Frame.TheVariants as frame
use Rattle.bsc_frame.specs.declared.heard.Heard.{Heard}
use Rattle.bsc_frame.specs.declared.heard.Heard.TheVariants as heard
use Rattle.bsc_link.specs.declared.next.Next.{Next}
use Rattle.bsc_link.specs.declared.sender_place.SenderPlace.{SenderPlace}
use Rattle.bsc_link.specs.declared.sound.Sound.{Sound}
use Rattle.bsc_link.specs.Sender.{SenderState, is_enough, say_in, sender_hears, sender_sent_end, sender_yielded}
use Rattle.bsc_history.specs.declared.spoken_turn.SpokenTurn.{SpokenTurn}
use Rattle.bsc_history.specs.Agreement.{GetsAtMostOneMore, KnowsBeforeBlocks}
use Rattle.bsc_history.specs.Conversation.{Follows, MayBeSpoken, is_block}
use Rattle.bsc_history.specs.Cores.{receiver_after}
use Rattle.bsc_history.specs.Fate.{MayBeHeardAs}
use Rattle.bsc_history.specs.Got.{brings_block, got}
use Rattle.bsc_history.specs.History.{History, Plan, is_over}
use Rattle.bsc_history.specs.Known.{counts as counts_turn, has_grant, has_heard_rvi, holds_on, known, tries_on}
use Rattle.bsc_history.proofs.Got.{got-brought, got-same}
use Rattle.bsc_history.proofs.Phases.{brings-block}
use Rattle.bsc_history.proofs.ForRuns.{Matches, ungranted-from_bid}
use Rattle.rje_answers.specs.Awaiting.{has_answer, said_in}
use Rattle.rje_jobs.specs.declared.job.Job.{Job}
use Rattle.rje_jobs.specs.Blocks.{blocks}
use Rattle.rje_jobs.specs.Joined.{joined}
use Rattle.rje_station.specs.Hearing.{sound_heard}
use Rattle.rje_station.specs.JoinedJobs.{begun_in}
use Rattle.rje_station.specs.Laws.{CountsBlocks, HasCounted}
use Rattle.rje_station.specs.Receiving.{Receiving, MayRefuse, after_receiving, first_receiving}
use Rattle.rje_station.specs.Sending.{Sending, after_hearing, after_speaking, first_sending, is_done}
use Rattle.line_world.specs.Plan.{numbered, plan_of}
use Rattle.line_world.specs.Turns.{ReceivingTurns, StandsReceiving}
use Rattle.line_world.proofs.ForPairs.{first_left, refused_block, replies_by}
use Rattle.pair_world.proofs.Sends.{SendsBy, again, none_not, sends_first, sends_turn, sends_yielded}
use Rattle.connection_world.specs.Connection.{IsFrameOf, MayComeAs, OneHearing}
use Rattle.connection_world.proofs.SideBySide.{Grows, MayHear}
use Rattle.connection_world.specs.Headline.{but_for_notes}
use Rattle.connection_world.proofs.Stations.{end_counts_none, quiet_counts_none, said_block, said_of_block, said_sound, turned}

-- as long as it isn't over, the sending one stands where these turns left it, whatever counts for giving up
abbrev pub Going : List Job → History → Sending → Type 0
Going jobs h s = (b : Bool) × (m : ℕ) × (n : ℕ) × SendsBy jobs h b m n s

-- a block was spoken when so many of them were counted: the first of those that weren't
pub record NextSpoken (Spoken : Frame → Sending → Type 0) (jobs : List Job) (n : ℕ) : Type 0 where
  pub f : Frame
  pub s : Sending
  pub spoken : Spoken f s
  pub block : Block
  pub behind : List Block
  pub is : f ≡ frame.Block block
  pub rest : s.rest ≡ block ∷ behind
  pub counted : HasCounted jobs n s

-- the receiver got what the sender knows of, or one block more, which then was spoken
abbrev pub GotSpoken : (Frame → Sending → Type 0) → List Job → History → Type 0
GotSpoken Spoken jobs h = (length (got h) ≡ known h) ⊎ ((length (got h) ≡ known h + 1) × NextSpoken Spoken jobs (known h))

-- it counted the blocks that it knows of, and the receiving one holds the jobs of those that it got
pub record Stood (Spoken : Frame → Sending → Type 0) (jobs : List Job) (s : Sending) (r : Receiving) : Type 0 where
  pub h : History
  pub spoken : MayBeSpoken (plan_of (blocks jobs)) h
  pub counted : HasCounted jobs (known h) s
  pub live : s.over ≡ false → Going jobs h s
  pub core : r.core ≡ receiver_after h
  pub jobs_are : r.jobs ≡ joined (numbered (blocks jobs) (got h))
  pub got_is : GotSpoken Spoken jobs h

pub first_stood : (Spoken : Frame → Sending → Type 0) (jobs : List Job) → Stood Spoken jobs (first_sending jobs) first_receiving
first_stood Spoken jobs = record {
  h = [];
  spoken = tt;
  counted = (sends_first jobs).counted;
  live = λ live. (false, 0, 0, sends_first jobs);
  core = refl;
  jobs_are = refl;
  got_is = inl refl;
}

-- ---- What is noted is nothing.

counted_same : (jobs : List Job) (k : ℕ) (s s' : Sending) → but_for_notes s ≡ but_for_notes s' → HasCounted jobs k s → HasCounted jobs k s'
counted_same jobs k s s' same p = record { rest = ap (λ x. x.rest) (sym same) ∙ p.rest; counted = ap (λ x. x.counted) (sym same) ∙ p.counted }

sends_same : (jobs : List Job) (h : History) (b : Bool) (m n : ℕ) (s s' : Sending) → but_for_notes s ≡ but_for_notes s' → SendsBy jobs h b m n s → SendsBy jobs h b m n s'
sends_same jobs h b m n s s' same p = record {
  jobs_are = ap (λ x. x.jobs) (sym same) ∙ p.jobs_are;
  core = subst (λ x. Matches (plan_of (blocks jobs)) h b m n x.core) same p.core;
  counted = counted_same jobs (known h) s s' same p.counted;
  over = ap (λ x. x.over) (sym same) ∙ p.over;
}

-- ---- One more turn.

pub more_blocks : (jobs : List Job) (h : History) (b : Bool) (m n : ℕ) (s : Sending) → SendsBy jobs h b m n s → s.over ≡ false → (0 < length jobs) × (is_over h ≡ false)
more_blocks [] h b m n s p live = absurd (true≢false (sym p.over ∙ live))
more_blocks (j ∷ jobs) h b m n s p live = (omega arith, sym (p.over ∙ rw (none_not j jobs) refl) ∙ live)

-- ---- What the receiver got.

known_more : (counts : Bool) (n : ℕ) → n ≤ (if counts then n + 1 else n)
known_more true n = omega arith
known_more false n = omega arith

-- a turn that brings no block
none_brought : (Spoken : Frame → Sending → Type 0) (jobs : List Job) (g k k' : ℕ) → k ≤ k' → (g ≡ k') ⊎ (g ≡ k' + 1)
    → (g ≡ k) ⊎ ((g ≡ k + 1) × NextSpoken Spoken jobs k) → (g ≡ k') ⊎ ((g ≡ k' + 1) × NextSpoken Spoken jobs k')
none_brought Spoken jobs g k k' more (inl same) before = inl same
none_brought Spoken jobs g k k' more (inr one) (inl same) = absurd (omega (arith, more, one, same))
none_brought Spoken jobs g k k' more (inr one) (inr (ahead, next)) = inr (one, subst (NextSpoken Spoken jobs) (omega (arith, more, one, ahead)) next)

-- one that brings a block, which the sender spoke as it stood
one_brought : (Spoken : Frame → Sending → Type 0) (jobs : List Job) (g g' k k' : ℕ) → k ≤ k' → g' ≡ g + 1 → g ≡ k → (g' ≡ k') ⊎ (g' ≡ k' + 1)
    → NextSpoken Spoken jobs k → (g' ≡ k') ⊎ ((g' ≡ k' + 1) × NextSpoken Spoken jobs k')
one_brought Spoken jobs g g' k k' more brought knew (inl same) next = inl same
one_brought Spoken jobs g g' k k' more brought knew (inr one) next = inr (one, subst (NextSpoken Spoken jobs) (omega (arith, more, one, brought, knew)) next)

-- only a block is heard as one
block_heard : (what : Heard) → sound_heard what ≡ Sound.Block → (b : Block) × (what ≡ heard.Frame (frame.Block b))
block_heard (heard.Frame (frame.Block b)) e = (b, refl)
block_heard (heard.Frame frame.Enq) e = cc
block_heard (heard.Frame frame.Ack0) e = cc
block_heard (heard.Frame frame.Ack1) e = cc
block_heard (heard.Frame frame.Nak) e = cc
block_heard (heard.Frame frame.Wack) e = cc
block_heard (heard.Frame frame.Rvi) e = cc
block_heard (heard.Frame frame.Ttd) e = cc
block_heard (heard.Frame frame.Abort) e = cc
block_heard (heard.Frame frame.Eot) e = cc
block_heard heard.Bad e = cc
block_heard heard.Noise e = cc
block_heard heard.Quiet e = cc

-- only a block can be refused
block_alone : (refused : Bool) (sound arrived : Sound) → refused ≡ (refused && is_block sound) → arrived ≡ sound → refused ≡ true → arrived ≡ Sound.Block
block_alone refused Sound.Block arrived e same told = same
block_alone true _ arrived e same told = absurd (true≢false e)
block_alone false _ arrived e same told = absurd (true≢false (sym told))

module _ (at_most : GetsAtMostOneMore) (knows : KnowsBeforeBlocks) (Spoken : Frame → Sending → Type 0) (counts : CountsBlocks) (receiving : ReceivingTurns)
    (jobs : List Job) (s : Sending) (r : Receiving) (f : Frame) (h : OneHearing) (sound : Sound) (pause : Bool)
    (live : s.over ≡ false) (due : IsFrameOf (say_in s.core.place) s.rest f) (spoken : Spoken f s) (up : MayComeAs f h.what) (may : MayRefuse h.what (begun_in r.jobs) h.refused)
    (reply : h.reply ≡ (after_receiving r h.what h.refused h.wish).due) (hears : MayHear (say_in s.core.place) h.reply sound) (p : Stood Spoken jobs s r) where
  abbrev plan : Plan
  plan = plan_of (blocks jobs)

  abbrev turn : SpokenTurn
  turn = record { said = say_in s.core.place; arrived = sound_heard h.what; refused = h.refused; reply = h.reply; heard = sound; wish = h.wish; pause = pause }

  abbrev going : Going jobs p.h s
  going = p.live live

  abbrev gives_up : Bool
  gives_up = is_enough going.1 going.2

  some : (0 < length jobs) × (is_over p.h ≡ false)
  some = more_blocks jobs p.h going.0 going.1 going.2 s going.3 live

  follows : Follows plan gives_up p.h turn
  follows = record {
    goes_on = some.1;
    said = going.3.core.says;
    arrived = subst (λ x. MayBeHeardAs x (sound_heard h.what)) (said_sound (say_in s.core.place) s.rest f due) up.sound;
    refusal = block_alone h.refused (sound_heard h.what) (sound_heard h.what) (refused_block h.what _ h.refused may) refl;
    replied = reply ∙ replies_by plan p.h r h.what (sound_heard h.what) h.refused h.wish p.core may refl p.spoken some.1;
    heard = hears.down;
  }

  abbrev longer : MayBeSpoken plan (turn ∷ p.h)
  longer = ((gives_up, follows), p.spoken)

  sends : SendsBy jobs (turn ∷ p.h) gives_up (tries_on going.1 p.h turn) (holds_on going.2 p.h turn) (turned s (say_in s.core.place) sound pause)
  sends = sends_turn counts jobs p.h going.0 going.1 going.2 s turn some.0 going.3 follows

  receives : StandsReceiving (blocks jobs) (turn ∷ p.h) (after_receiving (record r { over = false }) h.what h.refused h.wish)
  receives =
      receiving (blocks jobs) p.h (record r { over = false }) turn h.what (record { core = p.core; jobs = p.jobs_are; over = λ e. refl }) longer refl may
      (λ b is.
      let first = said_block (say_in s.core.place) s.rest f b due (up.block b is) in
      first_left (known p.h) (blocks jobs) b first.0 (sym p.counted.rest ∙ first.1))

  -- what was brought is what it spoke
  next_spoken : (b : Block) → h.what ≡ heard.Frame (frame.Block b) → NextSpoken Spoken jobs (known p.h)
  next_spoken b is =
      let first = said_block (say_in s.core.place) s.rest f b due (up.block b is) in
      record { f = f; s = s; spoken = spoken; block = b; behind = first.0; is = up.block b is; rest = first.1; counted = p.counted }

  got_more : GotSpoken Spoken jobs (turn ∷ p.h)
  got_more = elim (cases_Bool (brings_block turn)) [
    | inl brought ↦
        let b = block_heard h.what (brings-block (sound_heard h.what) h.refused brought).0 in
        one_brought Spoken jobs (length (got p.h)) (length (got (turn ∷ p.h))) (known p.h) (known (turn ∷ p.h)) (known_more (counts_turn (known p.h) (has_heard_rvi p.h) turn) (known p.h))
        (got-brought turn p.h brought) (knows plan turn p.h longer (said_of_block (say_in s.core.place) s.rest f b.0 due (up.block b.0 b.1)))
        (at_most plan (turn ∷ p.h) longer) (next_spoken b.0 b.1)
    | inr unbrought ↦
        subst (λ g. (g ≡ known (turn ∷ p.h)) ⊎ ((g ≡ known (turn ∷ p.h) + 1) × NextSpoken Spoken jobs (known (turn ∷ p.h)))) (sym (got-same turn p.h unbrought))
        (none_brought Spoken jobs (length (got p.h)) (known p.h) (known (turn ∷ p.h)) (known_more (counts_turn (known p.h) (has_heard_rvi p.h) turn) (known p.h))
        (subst (λ g. (g ≡ known (turn ∷ p.h)) ⊎ (g ≡ known (turn ∷ p.h) + 1)) (got-same turn p.h unbrought) (at_most plan (turn ∷ p.h) longer)) p.got_is)
  ]

  stood_more : Stood Spoken jobs (turned s (say_in s.core.place) sound pause) (after_receiving r h.what h.refused h.wish)
  stood_more = record {
    h = turn ∷ p.h;
    spoken = longer;
    counted = sends.counted;
    live = λ _. (gives_up, tries_on going.1 p.h turn, holds_on going.2 p.h turn, sends);
    core = receives.core;
    jobs_are = receives.jobs;
    got_is = got_more;
  }

pub stood_grows : GetsAtMostOneMore → KnowsBeforeBlocks → (Spoken : Frame → Sending → Type 0) → CountsBlocks → ReceivingTurns → (jobs : List Job) → Grows Spoken (Stood Spoken jobs)
stood_grows at_most knows Spoken counts receiving jobs = record {
  same = λ s s' r r' sending receives p. record {
    h = p.h;
    spoken = p.spoken;
    counted = counted_same jobs (known p.h) s s' sending p.counted;
    live = λ live.
        let going = p.live (ap (λ x. x.over) sending ∙ live) in
        (going.0, going.1, going.2, sends_same jobs p.h going.0 going.1 going.2 s s' sending going.3);
    core = ap (λ x. x.core) (sym receives) ∙ p.core;
    jobs_are = ap (λ x. x.jobs) (sym receives) ∙ p.jobs_are;
    got_is = p.got_is;
  };
  more = λ s r f h sound pause live due spoken up may reply hears p.
      stood_more at_most knows Spoken counts receiving jobs s r f h sound pause live due spoken up may reply hears p;
}

-- ---- It gives way.

yielded_same : (s : SenderState) (place : SenderPlace) → s.place ≡ place → (place ≡ SenderPlace.Bid) ⊎ (sender_yielded s ≡ s)
yielded_same s SenderPlace.Bid e = inl refl
yielded_same s _ e = inr (rw e refl)

pub stood_yielded : (Spoken : Frame → Sending → Type 0) (jobs : List Job) (s : Sending) (r : Receiving) → Stood Spoken jobs s r
    → Stood Spoken jobs (record s { core = sender_yielded s.core }) r
stood_yielded Spoken jobs s r p = record {
  h = p.h;
  spoken = p.spoken;
  counted = record { rest = p.counted.rest; counted = p.counted.counted };
  live = λ live.
      let going = p.live live in
      elim (yielded_same s.core s.core.place refl) [
        | inl bids ↦ (going.0, again going.1 going.2 going.1, again going.1 going.2 going.2, sends_yielded jobs p.h going.0 going.1 going.2 s (ungranted going bids) going.3)
        | inr same ↦ (going.0, going.1, going.2, subst (λ x. SendsBy jobs p.h going.0 going.1 going.2 (record s { core = x })) (sym same) going.3)
      ];
  core = p.core;
  jobs_are = p.jobs_are;
  got_is = p.got_is;
}
  where
    ungranted : (going : Going jobs p.h s) → s.core.place ≡ SenderPlace.Bid → is_over p.h ≡ false → has_grant p.h ≡ false
    ungranted going bids goes = ungranted-from_bid (plan_of (blocks jobs)) (is_enough going.1 going.2) p.h goes (sym going.3.core.says ∙ ap say_in bids)

-- ---- It hears EOT in place of an answer.

-- then it is over
eot_ends : (place : SenderPlace) (odd noted : Bool) (tries holds : ℕ) (next : Next) (pause : Bool) (rest : List Block) (f : Frame) → IsFrameOf (say_in place) rest f
    → has_answer (said_in f) ≡ true
    → is_done (say_in (sender_hears (sender_sent_end (record { place = place; odd_counted = odd; rvi_noted = noted; tries = tries; holds = holds })) Sound.Eot next pause).place) ≡ true
eot_ends SenderPlace.Bid odd noted tries holds next pause rest f due asks = refl
eot_ends SenderPlace.Block odd noted tries holds next pause rest f due asks = refl
eot_ends SenderPlace.Again odd noted tries holds next pause rest f due asks = refl
eot_ends SenderPlace.Ask odd noted tries holds next pause rest f due asks = refl
eot_ends SenderPlace.Delay odd noted tries holds next pause rest f due asks = refl
eot_ends (SenderPlace.End outcome) odd noted tries holds next pause rest f due asks = absurd (true≢false (sym asks ∙ ap (λ x. has_answer (said_in x)) due))
eot_ends (SenderPlace.Over outcome) odd noted tries holds next pause rest f due asks = absurd due

-- and counts what it counted
pub stood_ended : (Spoken : Frame → Sending → Type 0) (jobs : List Job) (s : Sending) (r : Receiving) (f : Frame) (pause : Bool) → IsFrameOf (say_in s.core.place) s.rest f → has_answer (said_in f) ≡ true
    → Stood Spoken jobs (after_hearing (after_speaking s) Sound.Quiet pause) r → Stood Spoken jobs (after_hearing (after_speaking s) Sound.Eot pause) r
stood_ended Spoken jobs s r f pause due asks p = record {
  h = p.h;
  spoken = p.spoken;
  counted = record {
    rest = eot_counts_none.0 ∙ sym (quiet_counts_none (after_speaking s) pause).0 ∙ p.counted.rest;
    counted = eot_counts_none.1 ∙ sym (quiet_counts_none (after_speaking s) pause).1 ∙ p.counted.counted;
  };
  live = λ live. absurd (true≢false (sym (eot_ends s.core.place s.core.odd_counted s.core.rvi_noted s.core.tries s.core.holds _ pause s.rest f due asks) ∙ live));
  core = p.core;
  jobs_are = p.jobs_are;
  got_is = p.got_is;
}
  where
    eot_counts_none : ((after_hearing (after_speaking s) Sound.Eot pause).rest ≡ s.rest) × ((after_hearing (after_speaking s) Sound.Eot pause).counted ≡ s.counted)
    eot_counts_none = end_counts_none (after_speaking s) pause
