-- Pads and SYN alone.
use Rattle.std.proofs.Common.{◌≡◌, ℕ, true, false, cond, eqb, List, [], ◌∷◌, inl, inr, subst}
use Rattle.std.proofs.lemmas.Bool.{eqb-true, cond_both}
use Rattle.std.specs.List.{AllByRecursion}
use Rattle.bsc_frame.specs.Heard.{IsPadOrSyn}
use Rattle.bsc_frame.specs.Inside.Listening.HeardSoFar.{HeardSoFar, Pads, OneSyn, Syns, Dle, Text, TextDle, AwaitsCheck, AwaitsSecondCheck, BadText, OnlyPads, OnlyNoise, Progress, On, Got, is_pad, after_no_sync, next}
use Rattle.bsc_frame.specs.Inside.Listening.Run.{Waits, Hears, run}
use Rattle.bsc_codes.specs.Bytes.{STX, DLE, ENQ, SYN, EOT, NAK}
use Rattle.bsc_frame.specs.declared.frame.Frame.TheVariants as frame
use Rattle.bsc_frame.specs.Bytes.{ACK0, ACK1, WACK, RVI}
use Rattle.bsc_frame.proofs.Found.{pad_is}
use Rattle.bsc_frame.proofs.Kept.{KeepsAt, keep}
use Rattle.bsc_frame.proofs.TextStarts.{HasText, has_text_stays}

-- pads and SYN alone have come
abbrev pub IsSilent : HeardSoFar → Type 0
IsSilent Pads = Unit {0}
IsSilent OneSyn = Unit {0}
IsSilent Syns = Unit {0}
IsSilent Dle = ⊥
IsSilent (Text transparent text) = ⊥
IsSilent (TextDle text) = ⊥
IsSilent (AwaitsCheck block) = ⊥
IsSilent (AwaitsSecondCheck block first) = ⊥
IsSilent BadText = ⊥
IsSilent OnlyPads = Unit {0}
IsSilent OnlyNoise = ⊥

silent_stays : (p : HeardSoFar) (c : ℕ) → IsPadOrSyn c → IsSilent p → KeepsAt IsSilent (next p c)
silent_stays Pads c (inl (inl e)) h = rw e tt
silent_stays Pads c (inl (inr e)) h = rw e tt
silent_stays Pads c (inr e) h = rw e tt
silent_stays OneSyn c (inl (inl e)) h = rw e tt
silent_stays OneSyn c (inl (inr e)) h = rw e tt
silent_stays OneSyn c (inr e) h = rw e tt
silent_stays Syns c (inl (inl e)) h = rw e tt
silent_stays Syns c (inl (inr e)) h = rw e tt
silent_stays Syns c (inr e) h = rw e tt
silent_stays Dle c i h = absurd h
silent_stays (Text transparent text) c i h = absurd h
silent_stays (TextDle text) c i h = absurd h
silent_stays (AwaitsCheck block) c i h = absurd h
silent_stays (AwaitsSecondCheck block first) c i h = absurd h
silent_stays BadText c i h = absurd h
silent_stays OnlyPads c (inl (inl e)) h = rw e tt
silent_stays OnlyPads c (inl (inr e)) h = rw e tt
silent_stays OnlyPads c (inr e) h = rw e tt
silent_stays OnlyNoise c i h = absurd h

-- a byte after which there is silence was a pad or SYN, and there was silence before
abbrev WasSilent : HeardSoFar → ℕ → Progress → Type 0
WasSilent p c (On q) = IsSilent q → IsSilent p × IsPadOrSyn c
WasSilent p c (Got f) = Unit {0}

was_no_sync : (p : HeardSoFar) (c : ℕ) → IsSilent p → WasSilent p c (after_no_sync c)
was_no_sync p c s =
    cond_both (is_pad c) (On OnlyPads) (cond (eqb c SYN) (On OnlyPads) (On OnlyNoise)) (WasSilent p c) (λ e. λ _. (s, inl (pad_is c e)))
    (λ _. cond_both (eqb c SYN) (On OnlyPads) (On OnlyNoise) (WasSilent p c) (λ e. λ _. (s, inr (eqb-true c SYN e))) (λ _. λ h. absurd h))

-- a text that was started stays so, and is no silence
not_silent : (p : HeardSoFar) (c : ℕ) (n : Progress) → KeepsAt HasText n → WasSilent p c n
not_silent p c (On Pads) h = absurd h
not_silent p c (On OneSyn) h = absurd h
not_silent p c (On Syns) h = absurd h
not_silent p c (On Dle) h = absurd h
not_silent p c (On (Text transparent text)) h = λ s. absurd s
not_silent p c (On (TextDle text)) h = λ s. absurd s
not_silent p c (On (AwaitsCheck block)) h = λ s. absurd s
not_silent p c (On (AwaitsSecondCheck block first)) h = λ s. absurd s
not_silent p c (On BadText) h = λ s. absurd s
not_silent p c (On OnlyPads) h = absurd h
not_silent p c (On OnlyNoise) h = absurd h
not_silent p c (Got f) h = tt

was_syns : (c : ℕ) → WasSilent Syns c (next Syns c)
was_syns c =
    let eot = cond (eqb c EOT) (Got frame.Eot) (after_no_sync c) in
    let nak = cond (eqb c NAK) (Got frame.Nak) eot in
    let enq = cond (eqb c ENQ) (Got frame.Enq) nak in
    let dle = cond (eqb c DLE) (On Dle) enq in
    let stx = cond (eqb c STX) (On (Text false [])) dle in
    let P = WasSilent Syns c in
    cond_both (eqb c SYN) (On Syns) stx P (λ e. λ _. (tt, inr (eqb-true c SYN e)))
    (λ _. cond_both (eqb c STX) (On (Text false [])) dle P (λ _. λ s. absurd s)
    (λ _. cond_both (eqb c DLE) (On Dle) enq P (λ _. λ s. absurd s)
    (λ _. cond_both (eqb c ENQ) (Got frame.Enq) nak P (λ _. tt)
    (λ _. cond_both (eqb c NAK) (Got frame.Nak) eot P (λ _. tt)
    (λ _. cond_both (eqb c EOT) (Got frame.Eot) (after_no_sync c) P (λ _. tt) (λ _. was_no_sync Syns c tt))))))

was_dle : (c : ℕ) → WasSilent Dle c (next Dle c)
was_dle c =
    let eot = cond (eqb c EOT) (Got frame.Eot) (On OnlyNoise) in
    let rvi = cond (eqb c RVI) (Got frame.Rvi) eot in
    let wack = cond (eqb c WACK) (Got frame.Wack) rvi in
    let ack1 = cond (eqb c ACK1) (Got frame.Ack1) wack in
    let ack0 = cond (eqb c ACK0) (Got frame.Ack0) ack1 in
    let P = WasSilent Dle c in
    cond_both (eqb c STX) (On (Text true [])) ack0 P (λ _. λ s. absurd s)
    (λ _. cond_both (eqb c ACK0) (Got frame.Ack0) ack1 P (λ _. tt)
    (λ _. cond_both (eqb c ACK1) (Got frame.Ack1) wack P (λ _. tt)
    (λ _. cond_both (eqb c WACK) (Got frame.Wack) rvi P (λ _. tt)
    (λ _. cond_both (eqb c RVI) (Got frame.Rvi) eot P (λ _. tt)
    (λ _. cond_both (eqb c EOT) (Got frame.Eot) (On OnlyNoise) P (λ _. tt) (λ _. λ s. absurd s))))))

was_silent : (p : HeardSoFar) (c : ℕ) → WasSilent p c (next p c)
was_silent Pads c =
    cond_both (eqb c SYN) (On OneSyn) (cond (is_pad c) (On Pads) (On OnlyNoise)) (WasSilent Pads c) (λ e. λ _. (tt, inr (eqb-true c SYN e)))
    (λ _. cond_both (is_pad c) (On Pads) (On OnlyNoise) (WasSilent Pads c) (λ e. λ _. (tt, inl (pad_is c e))) (λ _. λ h. absurd h))
was_silent OneSyn c = cond_both (eqb c SYN) (On Syns) (after_no_sync c) (WasSilent OneSyn c) (λ e. λ _. (tt, inr (eqb-true c SYN e))) (λ _. was_no_sync OneSyn c tt)
was_silent Syns c = was_syns c
was_silent Dle c = was_dle c
was_silent (Text transparent text) c = not_silent (Text transparent text) c (next (Text transparent text) c) (has_text_stays (Text transparent text) c tt)
was_silent (TextDle text) c = not_silent (TextDle text) c (next (TextDle text) c) (has_text_stays (TextDle text) c tt)
was_silent (AwaitsCheck block) c = λ s. absurd s
was_silent (AwaitsSecondCheck block first) c = not_silent (AwaitsSecondCheck block first) c (next (AwaitsSecondCheck block first) c) (has_text_stays (AwaitsSecondCheck block first) c tt)
was_silent BadText c = λ s. absurd s
was_silent OnlyPads c = was_no_sync OnlyPads c tt
was_silent OnlyNoise c = λ s. absurd s

silent_step : (p : HeardSoFar) (c : ℕ) (t : List ℕ) (q : HeardSoFar) (n : Progress) → WasSilent p c n → ((r : HeardSoFar) → run r t ≡ Waits q → IsSilent r × AllByRecursion IsPadOrSyn t) → elim n [ On r ↦ run r t | Got g ↦ Hears g t ] ≡ Waits q → IsSilent p × AllByRecursion IsPadOrSyn (c ∷ t)
silent_step p c t q (On r) l more e = let m = more r e in let w = l m.0 in (w.0, (w.1, m.1))
silent_step p c t q (Got f) l more e = absurd cc

-- where pads and SYN alone have come in the end, all bytes are such
pub all_pads_or_syns : (p : HeardSoFar) (t : List ℕ) (q : HeardSoFar) → IsSilent q → run p t ≡ Waits q → IsSilent p × AllByRecursion IsPadOrSyn t
all_pads_or_syns p [] q h e = let same : q ≡ p = cc in (subst IsSilent same h, tt)
all_pads_or_syns p (c ∷ t) q h e = silent_step p c t q (next p c) (was_silent p c) (λ r. all_pads_or_syns r t q h) e

-- and where all bytes are such, nothing else has come
pub is_silent : (s : List ℕ) (q : HeardSoFar) → run Pads s ≡ Waits q → AllByRecursion IsPadOrSyn s → IsSilent q
is_silent s q h a = keep IsSilent IsPadOrSyn silent_stays Pads s q a tt h
