-- Where the sender knows every block to be received, every job is counted and handed out.
use Rattle.std.proofs.Common.{◌≡◌, inl, inr, ℕ, ◌≤◌, List, [], ◌++◌, length, take, drop, slice_get, Option, None, refl, ap, sym, ◌∙◌, arith}
use Rattle.std.specs.List.{AllByRecursion}
use Rattle.std.proofs.lemmas.List.{append-nil, take-append-drop, take_all}
use Rattle.std.proofs.lemmas.Option.{slice_get_past}
use Rattle.bsc_link.specs.declared.outcome.Outcome.{Outcome}
use Rattle.rje_text.specs.Laws.{CutReadsBack}
use Rattle.rje_jobs.specs.declared.job.Job.{Job}
use Rattle.rje_jobs.specs.Blocks.{blocks}
use Rattle.rje_jobs.specs.Fitting.{JobFits}
use Rattle.rje_station.specs.Sending.{ended_by}
use Rattle.bsc_history.specs.declared.sound_turn.SoundTurn.{SoundTurn}
use Rattle.line_world.specs.declared.spoken.Spoken.{Spoken}
use Rattle.line_world.specs.declared.turn.Turn.{Turn}
use Rattle.bsc_history.specs.History.{Plan, History}
use Rattle.bsc_history.specs.Known.{known}
use Rattle.bsc_history.specs.Conversation.{IsConversationOver}
use Rattle.line_world.specs.Headline.{IsBegun, HandsFirstJobs}
use Rattle.line_world.specs.Plan.{plan_of}
use Rattle.line_world.specs.Run.{IsRun}
use Rattle.line_world.proofs.Headline.{first_jobs}
use Rattle.line_world.proofs.JobsAgain.{ended_all}
use Rattle.line_world.proofs.Numbered.{plan_length}
use Rattle.bsc_history.proofs.ForRuns.{cases-plan}

-- with no blocks there is nothing to know
pub known_if_some : (plan : Plan) (places : List SoundTurn) (h : History) → IsConversationOver plan places h → ((plan ≡ [] → ⊥) → known h ≡ length plan) → known h ≡ length plan
known_if_some plan places h c known_is = elim (cases-plan plan) [ inl none ↦ rw (c.empty none, none) refl | inr some ↦ known_is some ]

-- ---- All of them.

-- behind all jobs there is none to begin
nothing_left : (w : ℕ) (jobs rest : List Job) → length jobs ≤ w → IsBegun (slice_get jobs w) rest → rest ≡ []
nothing_left w jobs rest all (inl none) = none
nothing_left w jobs rest all (inr (job, here, begun)) = let none : slice_get jobs w ≡ None = slice_get_past jobs w all in absurd cc

-- where every job is counted, the first jobs that are handed out are all of them
all_handed : (jobs handed : List Job) (counted : ℕ) → counted ≡ length jobs → HandsFirstJobs counted jobs handed → handed ≡ jobs
all_handed jobs handed counted all (w, more, first) =
    let every : length jobs ≤ w = elim more [ inl e ↦ omega (arith, e, all) | inr e ↦ omega (arith, e, all) ] in
    sym (take-append-drop w handed)
    ∙ ap (λ xs. take w handed ++ xs) (nothing_left w jobs (drop w handed) every first.after)
    ∙ append-nil (take w handed) ∙ first.first ∙ take_all w jobs every

pub all_counted : CutReadsBack → (jobs : List Job) (turns : List Turn) (spoken : List Spoken) (handed : List Job) (counted : ℕ) (ending : Option Outcome) → AllByRecursion JobFits jobs → (run : IsRun jobs turns spoken handed counted ending)
    → known run.history ≡ length (plan_of (blocks jobs)) → (counted ≡ length jobs) × (handed ≡ jobs)
all_counted back jobs turns spoken handed counted ending fit run known_is =
    let bs = blocks jobs in
    let whole : take (known run.history) bs ≡ bs = take_all (known run.history) bs (omega (arith, known_is, plan_length bs)) in
    let all : counted ≡ length jobs = run.counted_is ∙ ap ended_by whole ∙ ended_all jobs in
    (all, all_handed jobs handed counted all (first_jobs back jobs turns spoken handed counted ending fit run))
