-- Where a text was started.
use Rattle.std.proofs.Common.{◌≡◌, ℕ, suc, Bool, true, false, cond, eqb, List, [], ◌∷◌, ◌++◌, length, replicate, refl, ap, sym, ◌∙◌, append_assoc, subst, nat_lt}
use Rattle.std.proofs.lemmas.Bool.{eqb-true, cond_both}
use Rattle.std.specs.List.{AllByRecursion}
use Rattle.bsc_frame.specs.Body.{closing_byte, start_of_text}
use Rattle.bsc_frame.specs.Transmission.{HasPrefix}
use Rattle.bsc_frame.specs.Heard.{IsTextStart}
use Rattle.bsc_frame.specs.Inside.Listening.NormalText.{is_normal_text}
use Rattle.bsc_frame.specs.Inside.Listening.HeardSoFar.{HeardSoFar, Pads, OneSyn, Syns, Dle, Text, TextDle, AwaitsCheck, AwaitsSecondCheck, BadText, OnlyPads, OnlyNoise, Progress, On, Got, is_pad, with_byte, frame_of_enq, closed, is_check, after_no_sync, next}
use Rattle.bsc_frame.specs.Inside.Listening.Run.{Waits, Hears, run}
use Rattle.bsc_codes.specs.declared.block.Closing.TheVariants.{Etb, Etx}
use Rattle.bsc_codes.specs.Bytes.{STX, ETX, DLE, ETB, ENQ, SYN, EOT, NAK}
use Rattle.bsc_frame.specs.declared.frame.Frame.TheVariants as frame
use Rattle.bsc_frame.specs.Bytes.{ACK0, ACK1, WACK, RVI}
use Rattle.bsc_frame.proofs.Hearing.{run_sync}
use Rattle.bsc_frame.proofs.Found.{pad_is}
use Rattle.bsc_frame.proofs.Kept.{KeepsAt, keep}

-- a text was started
abbrev pub HasText : HeardSoFar → Type 0
HasText Pads = ⊥
HasText OneSyn = ⊥
HasText Syns = ⊥
HasText Dle = ⊥
HasText (Text transparent text) = Unit {0}
HasText (TextDle text) = Unit {0}
HasText (AwaitsCheck block) = Unit {0}
HasText (AwaitsSecondCheck block first) = Unit {0}
HasText BadText = Unit {0}
HasText OnlyPads = ⊥
HasText OnlyNoise = ⊥

has_text_with_byte : (transparent : Bool) (text : List ℕ) (c : ℕ) → KeepsAt HasText (with_byte transparent text c)
has_text_with_byte transparent text c = cond_both (nat_lt (length text) 512) (On (Text transparent (text ++ c ∷ []))) (On BadText) (KeepsAt HasText) (λ _. tt) (λ _. tt)

has_text_end : (transparent : Bool) (text : List ℕ) (c : ℕ) (x : Progress) → KeepsAt HasText x → KeepsAt HasText (cond (eqb c SYN) (On (Text transparent text)) (cond (eqb c ENQ) (Got (frame_of_enq transparent text)) (cond (eqb c ETB) (closed transparent text Etb) (cond (eqb c ETX) (closed transparent text Etx) x))))
has_text_end transparent text c x h =
    let K = KeepsAt HasText in
    let etx = cond (eqb c ETX) (closed transparent text Etx) x in
    let etb = cond (eqb c ETB) (closed transparent text Etb) etx in
    let enq = cond (eqb c ENQ) (Got (frame_of_enq transparent text)) etb in
    cond_both (eqb c SYN) (On (Text transparent text)) enq K (λ _. tt)
    (λ _. cond_both (eqb c ENQ) (Got (frame_of_enq transparent text)) etb K (λ _. tt)
    (λ _. cond_both (eqb c ETB) (closed transparent text Etb) etx K (λ _. tt)
    (λ _. cond_both (eqb c ETX) (closed transparent text Etx) x K (λ _. tt) (λ _. h))))

-- and stays so
pub has_text_stays : (p : HeardSoFar) (c : ℕ) → HasText p → KeepsAt HasText (next p c)
has_text_stays Pads c h = absurd h
has_text_stays OneSyn c h = absurd h
has_text_stays Syns c h = absurd h
has_text_stays Dle c h = absurd h
has_text_stays (Text false text) c h =
    cond_both (is_normal_text c) (with_byte false text c) _ (KeepsAt HasText) (λ _. has_text_with_byte false text c) (λ _. has_text_end false text c (On BadText) tt)
has_text_stays (Text true text) c h =
    cond_both (eqb c DLE) (On (TextDle text)) (with_byte true text c) (KeepsAt HasText) (λ _. tt) (λ _. has_text_with_byte true text c)
has_text_stays (TextDle text) c h =
    cond_both (eqb c DLE) (with_byte true text c) _ (KeepsAt HasText) (λ _. has_text_with_byte true text c) (λ _. has_text_end true text c (On BadText) tt)
has_text_stays (AwaitsCheck block) c h = tt
has_text_stays (AwaitsSecondCheck block first) c h = cond_both (is_check (block.text.items ++ closing_byte block.closing ∷ []) first c) (Got (frame.Block block)) (On BadText) (KeepsAt HasText) (λ _. tt) (λ _. tt)
has_text_stays BadText c h = tt
has_text_stays OnlyPads c h = absurd h
has_text_stays OnlyNoise c h = absurd h

-- every byte is all right where nothing is asked of it
no_demand : (t : List ℕ) → AllByRecursion (λ _. Unit {0}) t
no_demand [] = tt
no_demand (c ∷ t) = (tt, no_demand t)

run_start_of_text : (transparent : Bool) (v : List ℕ) → run Syns (start_of_text transparent ++ v) ≡ run (Text transparent []) v
run_start_of_text false v = refl
run_start_of_text true v = refl

-- where the bytes have the start of a text, one was started
pub has_text_by : (s : List ℕ) (q : HeardSoFar) → run Pads s ≡ Waits q → HasPrefix IsTextStart s → HasText q
has_text_by s q h b =
    let o = b.holds in
    let whole : s ≡ o.sync ++ (start_of_text o.transparent ++ b.rest) = b.whole ∙ ap (λ l. l ++ b.rest) o.whole ∙ append_assoc o.sync (start_of_text o.transparent) b.rest in
    let at : run (Text o.transparent []) b.rest ≡ Waits q =
    sym (run_start_of_text o.transparent b.rest) ∙ sym (run_sync o.sync (start_of_text o.transparent ++ b.rest) o.is_sync) ∙ sym (ap (run Pads) whole) ∙ h in
    keep HasText (λ _. Unit {0}) (λ p c _ k. has_text_stays p c k) (Text o.transparent []) b.rest q (no_demand b.rest) tt at

-- ---- and back

-- SYN, the start of a text, and anything
pub record SynOpens (bytes : List ℕ) : Type 0 where
  pub more : ℕ
  pub transparent : Bool
  pub rest : List ℕ
  pub whole : bytes ≡ replicate more SYN ++ (start_of_text transparent ++ rest)

abbrev Opens : HeardSoFar → List ℕ → Type 0
Opens Pads bytes = HasPrefix IsTextStart bytes
Opens OneSyn bytes = (after : List ℕ) × (bytes ≡ SYN ∷ after) × SynOpens after
Opens Syns bytes = SynOpens bytes
Opens Dle bytes = (rest : List ℕ) × (bytes ≡ STX ∷ rest)
Opens (Text transparent text) bytes = Unit {0}
Opens (TextDle text) bytes = Unit {0}
Opens (AwaitsCheck block) bytes = Unit {0}
Opens (AwaitsSecondCheck block first) bytes = Unit {0}
Opens BadText bytes = Unit {0}
Opens OnlyPads bytes = ⊥
Opens OnlyNoise bytes = ⊥

abbrev LeadsOpen : HeardSoFar → ℕ → Progress → Type 0
LeadsOpen so_far c (On q) = (t : List ℕ) → Opens q t → Opens so_far (c ∷ t)
LeadsOpen so_far c (Got f) = Unit {0}

opens_no_sync : (p : HeardSoFar) (c : ℕ) → LeadsOpen p c (after_no_sync c)
opens_no_sync p c =
    cond_both (is_pad c) (On OnlyPads) (cond (eqb c SYN) (On OnlyPads) (On OnlyNoise)) (LeadsOpen p c) (λ _. λ t h. absurd h)
    (λ _. cond_both (eqb c SYN) (On OnlyPads) (On OnlyNoise) (LeadsOpen p c) (λ _. λ t h. absurd h) (λ _. λ t h. absurd h))

opens_pads : (c : ℕ) → LeadsOpen Pads c (next Pads c)
opens_pads c =
    cond_both (eqb c SYN) (On OneSyn) (cond (is_pad c) (On Pads) (On OnlyNoise)) (LeadsOpen Pads c)
    (λ e. λ t h. record {
      front = SYN ∷ SYN ∷ (replicate h.2.more SYN ++ start_of_text h.2.transparent);
      rest = h.2.rest;
      holds = record { sync = SYN ∷ SYN ∷ replicate h.2.more SYN; transparent = h.2.transparent; is_sync = record { pads = []; are_pads = tt; more = h.2.more; whole = refl }; whole = refl };
      whole = let c_is = eqb-true c SYN e in let t_is = h.1 in let after_is = h.2.whole ∙ sym (append_assoc (replicate h.2.more SYN) (start_of_text h.2.transparent) h.2.rest) in cc;
    })
    (λ _. cond_both (is_pad c) (On Pads) (On OnlyNoise) (LeadsOpen Pads c)
    (λ p. λ t h.
    let l = h.holds.is_sync in
    record {
      front = c ∷ h.front;
      rest = h.rest;
      holds = record { sync = c ∷ h.holds.sync; transparent = h.holds.transparent; is_sync = record { pads = c ∷ l.pads; are_pads = (pad_is c p, l.are_pads); more = l.more; whole = ap (λ b. c ∷ b) l.whole }; whole = ap (λ b. c ∷ b) h.holds.whole };
      whole = ap (λ b. c ∷ b) h.whole;
    })
    (λ _. λ t h. absurd h))

opens_one_syn : (c : ℕ) → LeadsOpen OneSyn c (next OneSyn c)
opens_one_syn c =
    cond_both (eqb c SYN) (On Syns) (after_no_sync c) (LeadsOpen OneSyn c)
    (λ e. λ t h. (t, ap (λ d. d ∷ t) (eqb-true c SYN e), h))
    (λ _. opens_no_sync OneSyn c)

opens_syns : (c : ℕ) → LeadsOpen Syns c (next Syns c)
opens_syns c =
    let eot = cond (eqb c EOT) (Got frame.Eot) (after_no_sync c) in
    let nak = cond (eqb c NAK) (Got frame.Nak) eot in
    let enq = cond (eqb c ENQ) (Got frame.Enq) nak in
    let dle = cond (eqb c DLE) (On Dle) enq in
    let stx = cond (eqb c STX) (On (Text false [])) dle in
    let P = LeadsOpen Syns c in
    cond_both (eqb c SYN) (On Syns) stx P
    (λ e. λ t h. record { more = suc h.more; transparent = h.transparent; rest = h.rest; whole = let c_is = eqb-true c SYN e in let t_is = h.whole in cc })
    (λ _. cond_both (eqb c STX) (On (Text false [])) dle P
    (λ e. λ t h. record { more = 0; transparent = false; rest = t; whole = ap (λ b. b ∷ t) (eqb-true c STX e) })
    (λ _. cond_both (eqb c DLE) (On Dle) enq P
    (λ e. λ t h. record { more = 0; transparent = true; rest = h.0; whole = let c_is = eqb-true c DLE e in let t_is = h.1 in cc })
    (λ _. cond_both (eqb c ENQ) (Got frame.Enq) nak P (λ _. tt)
    (λ _. cond_both (eqb c NAK) (Got frame.Nak) eot P (λ _. tt)
    (λ _. cond_both (eqb c EOT) (Got frame.Eot) (after_no_sync c) P (λ _. tt) (λ _. opens_no_sync Syns c))))))

opens_dle : (c : ℕ) → LeadsOpen Dle c (next Dle c)
opens_dle c =
    let eot = cond (eqb c EOT) (Got frame.Eot) (On OnlyNoise) in
    let rvi = cond (eqb c RVI) (Got frame.Rvi) eot in
    let wack = cond (eqb c WACK) (Got frame.Wack) rvi in
    let ack1 = cond (eqb c ACK1) (Got frame.Ack1) wack in
    let ack0 = cond (eqb c ACK0) (Got frame.Ack0) ack1 in
    let P = LeadsOpen Dle c in
    cond_both (eqb c STX) (On (Text true [])) ack0 P (λ e. λ t h. (t, ap (λ b. b ∷ t) (eqb-true c STX e)))
    (λ _. cond_both (eqb c ACK0) (Got frame.Ack0) ack1 P (λ _. tt)
    (λ _. cond_both (eqb c ACK1) (Got frame.Ack1) wack P (λ _. tt)
    (λ _. cond_both (eqb c WACK) (Got frame.Wack) rvi P (λ _. tt)
    (λ _. cond_both (eqb c RVI) (Got frame.Rvi) eot P (λ _. tt)
    (λ _. cond_both (eqb c EOT) (Got frame.Eot) (On OnlyNoise) P (λ _. tt) (λ _. λ t h. absurd h))))))

-- where a text was started each byte leads on
opens_any : (p : HeardSoFar) (c : ℕ) → ((t : List ℕ) → Opens p (c ∷ t)) → (n : Progress) → LeadsOpen p c n
opens_any p c h (On q) = λ t _. h t
opens_any p c h (Got f) = tt

opens_leads : (p : HeardSoFar) (c : ℕ) → LeadsOpen p c (next p c)
opens_leads Pads c = opens_pads c
opens_leads OneSyn c = opens_one_syn c
opens_leads Syns c = opens_syns c
opens_leads Dle c = opens_dle c
opens_leads (Text transparent text) c = opens_any (Text transparent text) c (λ t. tt) (next (Text transparent text) c)
opens_leads (TextDle text) c = opens_any (TextDle text) c (λ t. tt) (next (TextDle text) c)
opens_leads (AwaitsCheck block) c = opens_any (AwaitsCheck block) c (λ t. tt) (next (AwaitsCheck block) c)
opens_leads (AwaitsSecondCheck block first) c = opens_any (AwaitsSecondCheck block first) c (λ t. tt) (next (AwaitsSecondCheck block first) c)
opens_leads BadText c = opens_any BadText c (λ t. tt) (next BadText c)
opens_leads OnlyPads c = opens_no_sync OnlyPads c
opens_leads OnlyNoise c = λ t h. absurd h

opens_now : (p : HeardSoFar) → HasText p → Opens p []
opens_now Pads h = absurd h
opens_now OneSyn h = absurd h
opens_now Syns h = absurd h
opens_now Dle h = absurd h
opens_now (Text transparent text) h = tt
opens_now (TextDle text) h = tt
opens_now (AwaitsCheck block) h = tt
opens_now (AwaitsSecondCheck block first) h = tt
opens_now BadText h = tt
opens_now OnlyPads h = absurd h
opens_now OnlyNoise h = absurd h

opens_step : (p : HeardSoFar) (c : ℕ) (t : List ℕ) (q : HeardSoFar) (n : Progress) → LeadsOpen p c n → ((r : HeardSoFar) → run r t ≡ Waits q → Opens r t) → elim n [ On r ↦ run r t | Got g ↦ Hears g t ] ≡ Waits q → Opens p (c ∷ t)
opens_step p c t q (On r) l more e = l t (more r e)
opens_step p c t q (Got f) l more e = absurd cc

-- where a text was started in the end, the bytes have its start
pub opens : (p : HeardSoFar) (t : List ℕ) (q : HeardSoFar) → HasText q → run p t ≡ Waits q → Opens p t
opens p [] q h e = let same : q ≡ p = cc in opens_now p (subst HasText same h)
opens p (c ∷ t) q h e = opens_step p c t q (next p c) (opens_leads p c) (λ r. opens r t q h) e
