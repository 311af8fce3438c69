-- With which record the outstanding block begins, after a hearing.
use Rattle.std.proofs.Common.{◌≡◌, ◌≢◌, ℕ, zero, suc, ◌+◌, ◌-◌, ◌<◌, Bool, true, false, List, [], ◌∷◌, ◌++◌, length, drop, get_or, slice_get, Some, inl, inr, ◌⊎◌, refl, ap, sym, ◌∙◌, subst, arith}
use Rattle.std.proofs.lemmas.Bool.{true≢false}
use Rattle.std.proofs.lemmas.List.{get_or-drop, length-append, length-drop}
use Rattle.std.proofs.lemmas.Option.{slice_get-get_or}
use Rattle.std.proofs.Math.Seq.{get_or-append_seam}
use Rattle.bsc_codes.specs.declared.block.Block.{Block}
use Rattle.bsc_codes.specs.declared.block.Closing.{Closing}
use Rattle.bsc_codes.specs.declared.block.Closing.TheVariants.{Etb, Etx}
use Rattle.bsc_link.specs.declared.say.Say.{Say}
use Rattle.bsc_link.specs.declared.sound.Sound.{Sound}
use Rattle.bsc_link.specs.Sender.{counts_block, line_for, say_in}
use Rattle.rje_text.specs.NextBlock.{blocks_after, cut_from}
use Rattle.rje_jobs.specs.declared.job.Job.{Job}
use Rattle.rje_jobs.specs.Blocks.{blocks}
use Rattle.rje_station.specs.declared.event.Event.{Event}
use Rattle.rje_station.specs.declared.event.Event.TheVariants as event
use Rattle.rje_station.specs.declared.station_fault.StationFault.{StationFault}
use Rattle.rje_station.specs.declared.station_fault.StationFault.TheVariants as fault
use Rattle.rje_station.specs.Sending.{Sending, GoesOnAt, after_hearing, after_speaking, counted_after, counted_by, counted_events, first_sending, rest_after}
use Rattle.rje_station.specs.Station.{Contending, after_answer, after_own_refusal, after_own_speaking, due_at}
use Rattle.rje_station.specs.Trace.{last_events}
use Rattle.rje_station.proofs.Due.{answered_of_due, due_kept, spoken_of_due}
use Rattle.rje_station.proofs.Uncounted.{begun_append, cut_begun, cut_is}
use Rattle.rje_session.specs.Outstanding.{BeginsAt, blocks_from, counts_last, is_counted}
use Rattle.rje_session.specs.Stations.{FailsInOwn, TakesOwn, after_own_turn}
use Rattle.rje_session.proofs.OwnTurn.{own_speaking, own_turn}

-- ---- At first.

blocks_first : (jobs : List Job) → blocks jobs ≡ blocks_from jobs 0
blocks_first [] = refl
blocks_first (j ∷ js) = ap (λ x. x ++ blocks js) (cut_is j)

pub begins_first : (jobs : List Job) → BeginsAt (first_sending jobs) 0
begins_first jobs = blocks_first jobs

-- ---- The last thing of a trace.

last_get : (xs : List Event) (e : Event) (k n : ℕ) → k < length (xs ++ e ∷ []) → n + 1 ≡ length (drop k (xs ++ e ∷ [])) → slice_get (drop k (xs ++ e ∷ [])) n ≡ Some e
last_get xs e k n h is =
    let long : length (drop k (xs ++ e ∷ [])) ≡ length (xs ++ e ∷ []) - k = length-drop k (xs ++ e ∷ []) in
    let one : length (xs ++ e ∷ []) ≡ length xs + 1 = length-append xs (e ∷ []) in
    let at : k + n ≡ length xs = omega arith in
    let here : n < length (drop k (xs ++ e ∷ [])) = omega arith in
    slice_get-get_or (drop k (xs ++ e ∷ [])) n e here
    ∙ ap Some (get_or-drop k (xs ++ e ∷ []) n e ∙ ap (λ i. get_or (xs ++ e ∷ []) i e) at ∙ get_or-append_seam xs e [] e)

last_of_trace : (xs : List Event) (e : Event) → counts_last (last_events (xs ++ e ∷ [])) ≡ is_counted (Some e)
last_of_trace xs e =
    let ys = xs ++ e ∷ [] in
    let one : length ys ≡ length xs + 1 = length-append xs (e ∷ []) in
    let long : length (drop (length ys - 64) ys) ≡ length ys - (length ys - 64) = length-drop (length ys - 64) ys in
    let within : length ys - 64 < length ys = omega arith in
    let next : (length (drop (length ys - 64) ys) - 1) + 1 ≡ length (drop (length ys - 64) ys) = omega arith in
    ap is_counted (last_get xs e (length ys - 64) (length (drop (length ys - 64) ys) - 1) within next)

two_events : (xs : List Event) (e f : Event) → xs ++ e ∷ f ∷ [] ≡ (xs ++ e ∷ []) ++ f ∷ []
two_events [] e f = refl
two_events (x ∷ xs) e f = ap (λ l. x ∷ l) (two_events xs e f)

trace_tells : (xs : List Event) (sound : Sound) (counts : Bool) → counts_last (last_events (xs ++ event.Heard sound ∷ counted_events counts)) ≡ counts
trace_tells xs sound true = ap (λ l. counts_last (last_events l)) (two_events xs (event.Heard sound) event.Counted) ∙ last_of_trace (xs ++ event.Heard sound ∷ []) event.Counted
trace_tells xs sound false = last_of_trace xs (event.Heard sound)

-- ---- The block after one that is counted.

-- what comes after a block that ends so
abbrev More : Closing → List Block → List Job → ℕ → Type 0
More closing rest [] next = ⊥
More closing rest (j ∷ js) next = rest ≡ blocks_after j.select j.mode j.records closing next ++ blocks js

more_of : (b : Block) (rest : List Block) (jobs : List Job) (next : ℕ) → GoesOnAt (b ∷ rest) jobs next → More b.closing rest jobs next
more_of b rest [] next h = h
more_of b rest (j ∷ js) next h = h

drop_next : (jobs : List Job) (n : ℕ) (j : Job) (js : List Job) → drop n jobs ≡ j ∷ js → drop (suc n) jobs ≡ js
drop_next [] zero j js e = absurd cc
drop_next (k ∷ ks) zero j js e = cc
drop_next [] (suc n) j js e = absurd cc
drop_next (k ∷ ks) (suc n) j js e = drop_next ks n j js e

more_counted : (closing : Closing) (rest : List Block) (jobs left : List Job) (n next : ℕ) → drop n jobs ≡ left → More closing rest left next → (counted_by closing n ≡ n → ⊥)
    → rest ≡ blocks_from (drop (counted_by closing n) jobs) 0
more_counted Etb rest jobs left n next is more not = absurd (not refl)
more_counted Etx rest jobs [] n next is more not = absurd more
more_counted Etx rest jobs (j ∷ js) n next is more not =
    let one : suc n ≡ n + 1 = omega arith in
    more ∙ blocks_first js ∙ ap (λ l. blocks_from l 0) (sym (drop_next jobs n j js is)) ∙ ap (λ m. blocks_from (drop m jobs) 0) one

more_block : (closing : Closing) (rest : List Block) (left : List Job) (n next : ℕ) → More closing rest left next → counted_by closing n ≡ n → rest ≡ blocks_from left next
more_block Etx rest left n next more same = absurd (omega arith)
more_block Etb rest [] n next more same = absurd more
more_block Etb rest (j ∷ js) n next more same = more

none_left : (left : List Job) (from next : ℕ) → [] ≡ blocks_from left from → [] ≡ blocks_from left next
none_left [] from next e = refl
none_left (j ∷ js) from next e =
    let b = begun_append (cut_from j.select j.mode j.records from) (blocks js) (cut_begun j.mode _ (drop from j.records)) in let none = e ∙ b.is in absurd cc

-- where its job is counted
job_counted : (counts : Bool) (rest : List Block) (jobs : List Job) (n next : ℕ) → GoesOnAt rest (drop n jobs) next → (counted_after counts rest n ≡ n → ⊥)
    → rest_after counts rest ≡ blocks_from (drop (counted_after counts rest n) jobs) 0
job_counted false rest jobs n next goes not = absurd (not refl)
job_counted true [] jobs n next goes not = absurd (not refl)
job_counted true (b ∷ rest) jobs n next goes not = more_counted b.closing rest jobs (drop n jobs) n next refl (more_of b rest (drop n jobs) next goes) not

-- where the block is counted, and no job
block_counted : (rest : List Block) (jobs : List Job) (n from next : ℕ) → rest ≡ blocks_from (drop n jobs) from → GoesOnAt rest (drop n jobs) next → counted_after true rest n ≡ n
    → rest_after true rest ≡ blocks_from (drop n jobs) next
block_counted [] jobs n from next begins goes same = none_left (drop n jobs) from next begins
block_counted (b ∷ rest) jobs n from next begins goes same = more_block b.closing rest (drop n jobs) n next (more_of b rest (drop n jobs) next goes) same

-- ---- A sending station that heard.

module _ (s : Sending) (from next : ℕ) (heard : Sound) (begins : BeginsAt s from) (goes : GoesOnAt s.rest (drop s.counted s.jobs) next) where
  abbrev counts : Bool
  counts = counts_block (line_for s.core heard false)

  heard_job : ((after_hearing s heard false).counted ≡ s.counted → ⊥) → BeginsAt (after_hearing s heard false) 0
  heard_job not = job_counted counts s.rest s.jobs s.counted next goes not

  block_at : (b : Bool) → b ≡ true → counted_after b s.rest s.counted ≡ s.counted → rest_after b s.rest ≡ blocks_from (drop (counted_after b s.rest s.counted) s.jobs) next
  block_at false never same = absurd cc
  block_at true counted same = block_counted s.rest s.jobs s.counted from next begins goes same ∙ ap (λ n. blocks_from (drop n s.jobs) next) (sym same)

  heard_block : counts_last (after_hearing s heard false).trace ≡ true → (after_hearing s heard false).counted ≡ s.counted → BeginsAt (after_hearing s heard false) next
  heard_block last same = block_at counts (sym (trace_tells s.trace heard counts) ∙ last) same

  still_at : (b : Bool) → b ≡ false → rest_after b s.rest ≡ blocks_from (drop (counted_after b s.rest s.counted) s.jobs) from
  still_at true never = absurd cc
  still_at false none = begins

  heard_nothing : counts_last (after_hearing s heard false).trace ≡ false → BeginsAt (after_hearing s heard false) from
  heard_nothing last = still_at counts (sym (trace_tells s.trace heard counts) ∙ last)

-- ---- One that sends and receives, after its own turn.

spoken_sender : (s : Contending) → due_at s ≢ Say.Nothing → (after_own_speaking s).sender ≡ after_speaking s.sender
spoken_sender s due = ap (λ (x : Contending). x.sender) (spoken_of_due s (due_at s) refl due)

heard_sender : (s : Contending) (said : Say) (heard : Sound) → said ≡ due_at s → said ≢ Say.Nothing → said ≢ Say.End
    → (after_answer (after_own_speaking s) heard false).sender ≡ after_hearing (after_speaking s.sender) heard false
heard_sender s said heard is due more =
    let at : due_at (after_own_speaking s) ≡ said = due_kept s said (sym is) due more in
    ap (λ (x : Contending). x.sender) (answered_of_due (after_own_speaking s) said heard false at due)
    ∙ ap (λ (x : Sending). after_hearing x heard false) (spoken_sender s (λ none. due (is ∙ none)))

-- it spoke, and but for EOT it heard something
abbrev WentOn : Sending → Sending → Sound → Type 0
WentOn s s' heard = (s' ≡ after_speaking s) ⊎ (s' ≡ after_hearing (after_speaking s) heard false)

turned_sender : (s : Contending) (said : Say) (heard : Sound) → said ≡ due_at s → said ≢ Say.Nothing → WentOn s.sender (after_own_turn s said heard).sender heard
turned_sender s Say.End heard is due = inl (spoken_sender s (λ none. due (is ∙ none)))
turned_sender s Say.Bid heard is due = inr (heard_sender s Say.Bid heard is due (λ x. cc))
turned_sender s Say.Block heard is due = inr (heard_sender s Say.Block heard is due (λ x. cc))
turned_sender s Say.Again heard is due = inr (heard_sender s Say.Again heard is due (λ x. cc))
turned_sender s Say.Delay heard is due = inr (heard_sender s Say.Delay heard is due (λ x. cc))
turned_sender s Say.Ask heard is due = inr (heard_sender s Say.Ask heard is due (λ x. cc))
turned_sender s Say.Nothing heard is due = absurd (due refl)

own_sender : (s s' : Contending) (said : Say) (heard : Sound) → TakesOwn s s' said heard → WentOn s.sender s'.sender heard
own_sender s s' said heard takes = subst (λ (x : Contending). WentOn s.sender x.sender heard) (sym takes.state) (turned_sender s said heard takes.said_is takes.due)

pub own_receiver : (s s' : Contending) (said : Say) (heard : Sound) → TakesOwn s s' said heard → s'.receiver ≡ s.receiver
own_receiver s s' said heard takes = ap (λ (x : Contending). x.receiver) takes.state ∙ own_turn (λ (x : Contending). x.receiver) (λ x sender contender. refl) s said heard

module _ (s s' : Contending) (said : Say) (heard : Sound) (from next : ℕ) (takes : TakesOwn s s' said heard) (begins : BeginsAt s.sender from)
    (goes : GoesOnAt s.sender.rest (drop s.sender.counted s.sender.jobs) next) where
  spoken_counts : counts_last (after_speaking s.sender).trace ≡ false
  spoken_counts = last_of_trace s.sender.trace (event.Said (say_in s.sender.core.place))

  pub turn_job : (s'.sender.counted ≡ s.sender.counted → ⊥) → BeginsAt s'.sender 0
  turn_job not = elim (own_sender s s' said heard takes) [
    | inl spoke ↦ absurd (not (ap (λ (x : Sending). x.counted) spoke))
    | inr went ↦ subst (λ (x : Sending). BeginsAt x 0) (sym went) (heard_job (after_speaking s.sender) from next heard begins goes (λ same. not (ap (λ (x : Sending). x.counted) went ∙ same)))
  ]

  pub turn_block : counts_last s'.sender.trace ≡ true → s'.sender.counted ≡ s.sender.counted → BeginsAt s'.sender next
  turn_block last same = elim (own_sender s s' said heard takes) [
    | inl spoke ↦ absurd (true≢false (sym last ∙ ap (λ (x : Sending). counts_last x.trace) spoke ∙ spoken_counts))
    | inr went ↦
        subst (λ (x : Sending). BeginsAt x next) (sym went)
        (heard_block (after_speaking s.sender) from next heard begins goes (ap (λ (x : Sending). counts_last x.trace) (sym went) ∙ last) (ap (λ (x : Sending). x.counted) (sym went) ∙ same))
  ]

  pub turn_nothing : counts_last s'.sender.trace ≡ false → BeginsAt s'.sender from
  turn_nothing last = elim (own_sender s s' said heard takes) [
    | inl spoke ↦ subst (λ (x : Sending). BeginsAt x from) (sym spoke) begins
    | inr went ↦
        subst (λ (x : Sending). BeginsAt x from) (sym went) (heard_nothing (after_speaking s.sender) from next heard begins goes (ap (λ (x : Sending). counts_last x.trace) (sym went) ∙ last))
  ]

-- ---- After a fault in it.

refused_begins : (fault : StationFault) (s : Contending) (from : ℕ) → BeginsAt s.sender from → BeginsAt (after_own_refusal fault s).sender from
refused_begins fault.Over s from begins = begins
refused_begins _ s from begins = begins

refused_receiver : (fault : StationFault) (s : Contending) → (after_own_refusal fault s).receiver ≡ s.receiver
refused_receiver fault.Over s = refl
refused_receiver _ s = refl

pub fault_begins : (s s' : Contending) (fault : StationFault) (from : ℕ) → due_at s ≢ Say.Nothing → FailsInOwn s s' fault → BeginsAt s.sender from → BeginsAt s'.sender from
fault_begins s s' fault from due (inl is) begins = subst (λ (x : Contending). BeginsAt x.sender from) (sym is) (refused_begins fault s from begins)
fault_begins s s' fault from due (inr is) begins =
    subst (λ (x : Contending). BeginsAt x.sender from) (sym is)
    (refused_begins fault (after_own_speaking s) from (subst (λ (x : Sending). BeginsAt x from) (sym (spoken_sender s due)) begins))

pub fault_receiver : (s s' : Contending) (fault : StationFault) → FailsInOwn s s' fault → s'.receiver ≡ s.receiver
fault_receiver s s' fault (inl is) = ap (λ (x : Contending). x.receiver) is ∙ refused_receiver fault s
fault_receiver s s' fault (inr is) =
    ap (λ (x : Contending). x.receiver) is ∙ refused_receiver fault (after_own_speaking s) ∙ own_speaking (λ (x : Contending). x.receiver) (λ x sender contender. refl) s
