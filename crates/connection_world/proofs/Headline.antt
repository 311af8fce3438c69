-- The headline over a connection, from that over faithful lines.
use Rattle.std.proofs.Common.{refl, sym, ap, ◌∙◌, subst, ℕ, Bool, false, List, [], ◌∷◌, take, inl, inr}
use Rattle.std.specs.List.{AllByRecursion}
use Rattle.std.proofs.lemmas.Bool.{cases_Bool, true≢false}
use Rattle.bsc_frame.specs.declared.frame.Frame.{Frame}
use Rattle.bsc_link.specs.declared.rank.Rank.{Rank}
use Rattle.bsc_link.specs.declared.sound.Sound.{Sound}
use Rattle.bsc_history.specs.Agreement.{GetsAtMostOneMore, KnowsBeforeBlocks}
use Rattle.bsc_history.specs.Known.{known}
use Rattle.rje_answers.specs.Law.{GivesOwnAnswers}
use Rattle.rje_jobs.specs.declared.job.Job.{Job}
use Rattle.rje_jobs.specs.Blocks.{blocks}
use Rattle.rje_jobs.specs.Fitting.{JobFits}
use Rattle.rje_station.specs.Laws.{CountsBlocks}
use Rattle.rje_station.specs.Receiving.{Receiving}
use Rattle.rje_station.specs.Sending.{Sending, ended_by}
use Rattle.rje_station.specs.Station.{Contending}
use Rattle.line_world.specs.AnyLines.{OverFaithfulLines}
use Rattle.line_world.specs.Headline.{AreHandedInOrder, AreHandedWhole, HandsFirstJobs, OfHistories}
use Rattle.line_world.specs.Turns.{ReceivingTurns}
use Rattle.connection_world.specs.BothWays.{AreConnected, AtEnd, Own, Crosses, Others, EndWent, OverExchanges}
use Rattle.connection_world.specs.Connection.{AtReceiver, Says, Comes, InVain}
use Rattle.connection_world.specs.Headline.{FaithfulTurns, OverConnections, TakeFaithfulTurns}
use Rattle.connection_world.proofs.Faithful.{Taken, stand}
use Rattle.connection_world.proofs.OneWay.{AllSpoken, stand_at_last}
use Rattle.connection_world.proofs.SideBySide.{AnyFrame, Stand}
use Rattle.connection_world.proofs.Standing.{Stood}
use Rattle.connection_world.proofs.Stations.{quiet_counts_none}

-- as long as an answer is awaited, the turn stands as one in which nothing was heard
turns_of : (jobs : List Job) (awaits : Bool) (n : ℕ) (s : Sending) (far : List AtReceiver) (r : Receiving) → Stand (Taken jobs) awaits n s far r
    → FaithfulTurns jobs awaits s r
turns_of jobs awaits n s far r p = elim (cases_Bool awaits) [
  | inl e ↦
      let t = p.awaiting e Sound.Quiet false (inl refl) in
      record {
        turns = t.turns;
        near = t.near;
        far = t.far;
        sent = t.sent;
        received = t.received;
        faithful = t.faithful;
        sending = λ over. absurd (true≢false (sym e ∙ over));
        counted = ap (λ x. x.counted) t.sending ∙ (quiet_counts_none s false).1;
        receiving = ap (λ x. x.core) t.receiving;
        jobs_are = ap (λ x. x.jobs) t.receiving;
      }
  | inr e ↦
      let t = p.settled e in
      record {
        turns = t.turns;
        near = t.near;
        far = t.far;
        sent = t.sent;
        received = t.received;
        faithful = t.faithful;
        sending = λ _. t.sending;
        counted = ap (λ x. x.counted) t.sending;
        receiving = ap (λ x. x.core) t.receiving;
        jobs_are = ap (λ x. x.jobs) t.receiving;
      }
]

pub take_faithful_turns : GivesOwnAnswers → TakeFaithfulTurns
take_faithful_turns own jobs gives_way near s far r c =
    turns_of jobs _ _ s far r (stand own jobs gives_way near s far r c.sends c.receives c.up c.down c.in_time)

over_connections : (Holds : ℕ → List Job → List Job → Type 0) → TakeFaithfulTurns → OverFaithfulLines Holds → OverConnections Holds
over_connections Holds faithful law jobs gives_way near s far r fit c =
    let t = faithful jobs gives_way near s far r c in
    subst (λ n. Holds n jobs r.jobs) t.counted (subst (Holds t.near.counted jobs) t.jobs_are (law jobs t.near t.far t.turns t.sent t.received fit t.faithful))

pub in_order : TakeFaithfulTurns → OverFaithfulLines (λ counted given handed. AreHandedInOrder given handed) → OverConnections (λ counted given handed. AreHandedInOrder given handed)
in_order = over_connections (λ counted given handed. AreHandedInOrder given handed)

pub counted_whole : TakeFaithfulTurns → OverFaithfulLines AreHandedWhole → OverConnections AreHandedWhole
counted_whole = over_connections AreHandedWhole

pub first_jobs : TakeFaithfulTurns → OverFaithfulLines HandsFirstJobs → OverConnections HandsFirstJobs
first_jobs = over_connections HandsFirstJobs

pub ruleset headlines = (in_order, counted_whole, first_jobs)

-- ---- Both ways.

-- what holds of all histories holds of two stations that stand so
of_stood : (Holds : ℕ → List Job → List Job → Type 0) → OfHistories Holds → (Spoken : Frame → Sending → Type 0) (jobs : List Job) (s : Sending) (r : Receiving)
    → AllByRecursion JobFits jobs → Stood Spoken jobs s r → Holds s.counted jobs r.jobs
of_stood Holds law Spoken jobs s r fit p =
    subst (λ n. Holds n jobs r.jobs) (sym p.counted.counted)
    (subst (Holds (ended_by (take (known p.h) (blocks jobs))) jobs) (sym p.jobs_are) (law jobs p.h fit p.spoken))

any_spoken : (rank : Rank) (jobs : List Job) (past : List AtEnd) (s : Contending) (went : EndWent rank jobs past s) → AllSpoken AnyFrame rank jobs past s went
any_spoken rank jobs [] s went = tt
any_spoken rank jobs (Own (Says f) ∷ past) s (mid, went, speaks) = (tt, any_spoken rank jobs past mid went)
any_spoken rank jobs (Own (Comes a) ∷ past) s (mid, went, listens) = any_spoken rank jobs past mid went
any_spoken rank jobs (Own (InVain rest) ∷ past) s (mid, went, listens) = any_spoken rank jobs past mid went
any_spoken rank jobs (Crosses c ∷ past) s (mid, went, listens) = any_spoken rank jobs past mid went
any_spoken rank jobs (Others e ∷ past) s (mid, went, hears) = any_spoken rank jobs past mid went

module _ (own : GivesOwnAnswers) (at_most : GetsAtMostOneMore) (knows : KnowsBeforeBlocks) (counts : CountsBlocks) (receiving : ReceivingTurns) where
  one_way : (Holds : ℕ → List Job → List Job → Type 0) → OfHistories Holds → (rank other : Rank) (jobs others : List Job) (near far : List AtEnd) (p s : Contending)
      → AllByRecursion JobFits jobs → EndWent rank jobs near p → EndWent other others far s → AreConnected rank near far → Holds p.sender.counted jobs s.receiver.jobs
  one_way Holds law rank other jobs others near far p s fit went went_other c =
      let last =
      stand_at_last own at_most knows counts receiving AnyFrame jobs rank other others near far p s went went_other c (any_spoken rank jobs near p went) in
      subst (λ n. Holds n jobs s.receiver.jobs) last.counted (of_stood Holds law _ jobs last.near s.receiver fit last.stood)

  pub over_exchanges : (Holds : ℕ → List Job → List Job → Type 0) → OfHistories Holds → OverExchanges Holds
  over_exchanges Holds law ups downs near far p s fit_ups fit_downs c = (
    one_way Holds law Rank.Primary Rank.Secondary ups downs near far p s fit_ups c.primary c.secondary c.up,
    one_way Holds law Rank.Secondary Rank.Primary downs ups far near s p fit_downs c.secondary c.primary c.down,
  )

pub exchange_in_order : GivesOwnAnswers → GetsAtMostOneMore → KnowsBeforeBlocks → CountsBlocks → ReceivingTurns
    → OfHistories (λ counted given handed. AreHandedInOrder given handed) → OverExchanges (λ counted given handed. AreHandedInOrder given handed)
exchange_in_order own at_most knows counts receiving = over_exchanges own at_most knows counts receiving (λ counted given handed. AreHandedInOrder given handed)

pub exchange_counted_whole : GivesOwnAnswers → GetsAtMostOneMore → KnowsBeforeBlocks → CountsBlocks → ReceivingTurns → OfHistories AreHandedWhole
    → OverExchanges AreHandedWhole
exchange_counted_whole own at_most knows counts receiving = over_exchanges own at_most knows counts receiving AreHandedWhole

pub exchange_first_jobs : GivesOwnAnswers → GetsAtMostOneMore → KnowsBeforeBlocks → CountsBlocks → ReceivingTurns → OfHistories HandsFirstJobs
    → OverExchanges HandsFirstJobs
exchange_first_jobs own at_most knows counts receiving = over_exchanges own at_most knows counts receiving HandsFirstJobs

pub ruleset both_headlines = (exchange_in_order, exchange_counted_whole, exchange_first_jobs)
