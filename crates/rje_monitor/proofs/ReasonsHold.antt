-- Which reason holds, by what comes of the bytes.
use Rattle.std.proofs.Common.{◌≡◌, ◌≢◌, ℕ, Bool, true, false, cond, eqb, List, [], ◌∷◌, get_or, refl, ap, sym, ◌∙◌, inl, inr, subst}
use Rattle.std.proofs.lemmas.List.{append-nil}
use Rattle.bsc_codes.specs.declared.block.Block.{Block}
use Rattle.bsc_codes.specs.Bytes.{DLE, ENQ}
use Rattle.bsc_check.specs.Check.{check_of}
use Rattle.bsc_frame.specs.declared.frame.Frame.{Frame}
use Rattle.bsc_frame.specs.declared.frame.Frame.TheVariants as frame
use Rattle.bsc_frame.specs.Body.{covered}
use Rattle.bsc_frame.specs.Transmission.{HasNoFrame}
use Rattle.bsc_frame.specs.Inside.Listening.HeardSoFar.{HeardSoFar, Pads, Text, TextDle, AwaitsCheck, AwaitsSecondCheck, BadText, Progress, On, Got, is_check, next, frame_of_enq}
use Rattle.bsc_frame.specs.Inside.Listening.NormalText.{is_normal_text}
use Rattle.bsc_frame.specs.Inside.Listening.Run.{Waits, Hears, run}
use Rattle.bsc_frame.proofs.Found.{found}
use Rattle.rje_monitor.specs.declared.reason.Reason.{Reason}
use Rattle.rje_monitor.specs.Reasons.{IsCut, IsReason, OneReason}
use Rattle.rje_monitor.proofs.TextRuns.{run_check}
use Rattle.rje_monitor.proofs.Outcomes.{Outcome, Ends, Breaks, Frames, is_bad, outcome, run_bad, EndsBefore, cut_ends, IsOfCheck, check_breaks, Passes, long_breaks, transmission_of}

-- ---- spoiled

-- none of the three reasons has this outcome
abbrev pub Spoils : Outcome → Type 0
Spoils o = ((f : Frame) (more : List ℕ) → ¬ (EndsBefore o f more)) × ¬ (IsOfCheck o) × ¬ (Passes o)

pub spoiled : (bytes : List ℕ) (o : Outcome) → outcome Pads bytes ≡ o → Spoils o → IsReason bytes Reason.Spoiled
spoiled bytes o e s = (
  (λ cut. s.0 cut.0 cut.1 (subst (λ x. EndsBefore x cut.0 cut.1) e (cut_ends bytes cut))),
  (λ h. s.1 (subst IsOfCheck e (check_breaks bytes h))),
  (λ h. s.2 (subst Passes e (long_breaks bytes h))),
)

no_end : (p : HeardSoFar) (c : ℕ) (f : Frame) (more : List ℕ) → EndsBefore (Breaks p c) f more → ⊥
no_end p c f more (inl e) = cc
no_end p c f more (inr (q, e, h)) = cc

no_check_normal : (transparent : Bool) (text : List ℕ) (c : ℕ) → IsOfCheck (Breaks (Text transparent text) c) → ⊥
no_check_normal t text c (inl e) = cc
no_check_normal t text c (inr (block, first, second, e)) = cc

no_pass_normal : (text : List ℕ) (c : ℕ) → is_normal_text c ≡ false → Passes (Breaks (Text false text) c) → ⊥
no_pass_normal text c n (inl (other, d, is, e)) = let same : d ≡ c = cc in let not : is_normal_text d ≡ false = rw same n in absurd cc
no_pass_normal text c n (inr (inl (other, d, e))) = cc
no_pass_normal text c n (inr (inr (other, e))) = cc

pub spoils_normal : (text : List ℕ) (c : ℕ) → is_normal_text c ≡ false → Spoils (Breaks (Text false text) c)
spoils_normal text c n = ((λ f more. no_end (Text false text) c f more), no_check_normal false text c, no_pass_normal text c n)

no_check_dle : (text : List ℕ) (c : ℕ) → IsOfCheck (Breaks (TextDle text) c) → ⊥
no_check_dle text c (inl e) = cc
no_check_dle text c (inr (block, first, second, e)) = cc

no_pass_dle : (text : List ℕ) (c : ℕ) → c ≢ DLE → Passes (Breaks (TextDle text) c) → ⊥
no_pass_dle text c n (inl (other, d, is, e)) = cc
no_pass_dle text c n (inr (inl (other, d, e))) = cc
no_pass_dle text c n (inr (inr (other, e))) = n cc

pub spoils_dle : (text : List ℕ) (c : ℕ) → c ≢ DLE → Spoils (Breaks (TextDle text) c)
spoils_dle text c n = ((λ f more. no_end (TextDle text) c f more), no_check_dle text c, no_pass_dle text c n)

-- a first byte of a check that is another one
no_second : (block : Block) (first : ℕ) (f : Frame) (more : List ℕ) → eqb (get_or (check_of (covered block.text.items block.closing)) 0 0) first ≡ false
    → run (AwaitsSecondCheck block first) more ≡ Hears f [] → ⊥
no_second block first f [] n e = cc
no_second block first f (y ∷ ys) n e =
    let wrong : is_check (covered block.text.items block.closing) first y ≡ false = rw n refl in
    let on : next (AwaitsSecondCheck block first) y ≡ On BadText = rw wrong refl in
    let there : run (AwaitsSecondCheck block first) (y ∷ ys) ≡ run BadText ys = ap (λ n. elim n [ On r ↦ run r ys | Got g ↦ Hears g ys ]) on in
    let stays = run_bad ys in
    cc

no_end_second : (block : Block) (first : ℕ) (f : Frame) (more : List ℕ) → eqb (get_or (check_of (covered block.text.items block.closing)) 0 0) first ≡ false
    → EndsBefore (Ends (AwaitsSecondCheck block first)) f more → ⊥
no_end_second block first f more n (inl e) = cc
no_end_second block first f more n (inr (q, e, h)) =
    let same : q ≡ AwaitsSecondCheck block first = cc in
    no_second block first f more n (subst (λ r. run r more ≡ Hears f []) same h)

no_check_second : (q : HeardSoFar) → IsOfCheck (Ends q) → ⊥
no_check_second q (inl e) = cc
no_check_second q (inr (block, first, second, e)) = cc

no_pass_second : (q : HeardSoFar) → Passes (Ends q) → ⊥
no_pass_second q (inl (other, d, is, e)) = cc
no_pass_second q (inr (inl (other, d, e))) = cc
no_pass_second q (inr (inr (other, e))) = cc

pub spoils_second : (block : Block) (first : ℕ) → eqb (get_or (check_of (covered block.text.items block.closing)) 0 0) first ≡ false
    → Spoils (Ends (AwaitsSecondCheck block first))
spoils_second block first n = ((λ f more. no_end_second block first f more n), no_check_second (AwaitsSecondCheck block first), no_pass_second (AwaitsSecondCheck block first))

-- ---- cut

pub cut_by : (bytes : List ℕ) (q : HeardSoFar) (f : Frame) (more : List ℕ) → run Pads bytes ≡ Waits q → run q more ≡ Hears f [] → IsCut bytes
cut_by bytes q f more e h = (f, more, transmission_of q f bytes more e h)

pub cut_text : (transparent : Bool) (text bytes : List ℕ) → run Pads bytes ≡ Waits (Text transparent text) → IsCut bytes
cut_text false text bytes e = cut_by bytes (Text false text) (frame_of_enq false text) (ENQ ∷ []) e refl
cut_text true text bytes e = cut_by bytes (Text true text) (frame_of_enq true text) (DLE ∷ ENQ ∷ []) e refl

pub cut_dle : (text bytes : List ℕ) → run Pads bytes ≡ Waits (TextDle text) → IsCut bytes
cut_dle text bytes e = cut_by bytes (TextDle text) (frame_of_enq true text) (ENQ ∷ []) e refl

pub cut_check : (block : Block) (bytes : List ℕ) → run Pads bytes ≡ Waits (AwaitsCheck block) → IsCut bytes
cut_check block bytes e =
    let check = check_of (covered block.text.items block.closing) in
    cut_by bytes (AwaitsCheck block) (frame.Block block) check e (ap (run (AwaitsCheck block)) (sym (append-nil check)) ∙ run_check block [])

-- ---- one reason

framed_step : (c : ℕ) (s : List ℕ) (p : HeardSoFar) (n : Progress) → ((r : HeardSoFar) → outcome r s ≡ Frames → (f : Frame) × (rest : List ℕ) × (run r s ≡ Hears f rest))
    → elim n [ On r ↦ cond (is_bad r) (Breaks p c) (outcome r s) | Got g ↦ Frames ] ≡ Frames
    → (f : Frame) × (rest : List ℕ) × (elim n [ On r ↦ run r s | Got g ↦ Hears g s ] ≡ Hears f rest)
framed_step c s p (On r) more e = by_bad (is_bad r) e
  where
    by_bad : (b : Bool) → cond b (Breaks p c) (outcome r s) ≡ Frames → (f : Frame) × (rest : List ℕ) × (run r s ≡ Hears f rest)
    by_bad true e = cc
    by_bad false e = more r e
framed_step c s p (Got g) more e = (g, s, refl)

framed : (p : HeardSoFar) (s : List ℕ) → outcome p s ≡ Frames → (f : Frame) × (rest : List ℕ) × (run p s ≡ Hears f rest)
framed p [] e = cc
framed p (c ∷ s) e = framed_step c s p (next p c) (λ r. framed r s) e

pub no_frames : (bytes : List ℕ) → HasNoFrame bytes → outcome Pads bytes ≢ Frames
no_frames bytes none e =
    let at = framed Pads bytes e in
    let it = found Pads bytes at.0 at.1 at.2 in
    none at.0 (record { front = it.front; rest = at.1; holds = it.completes; whole = it.whole })

cut_not_check : (o : Outcome) (f : Frame) (more : List ℕ) → o ≢ Frames → EndsBefore o f more → IsOfCheck o → ⊥
cut_not_check o f more none (inl e) h = none e
cut_not_check o f more none (inr (q, e, run)) (inl d) = none d
cut_not_check o f more none (inr (q, e, run)) (inr (block, first, second, d)) = cc

cut_not_long : (o : Outcome) (f : Frame) (more : List ℕ) → o ≢ Frames → EndsBefore o f more → Passes o → ⊥
cut_not_long o f more none (inl e) h = none e
cut_not_long o f more none (inr (q, e, run)) (inl (text, c, n, d)) = cc
cut_not_long o f more none (inr (q, e, run)) (inr (inl (text, c, d))) = cc
cut_not_long o f more none (inr (q, e, run)) (inr (inr (text, d))) = cc

check_not_long : (o : Outcome) → o ≢ Frames → IsOfCheck o → Passes o → ⊥
check_not_long o none (inl e) h = none e
check_not_long o none (inr (block, first, second, e)) (inl (text, c, n, d)) = cc
check_not_long o none (inr (block, first, second, e)) (inr (inl (text, c, d))) = cc
check_not_long o none (inr (block, first, second, e)) (inr (inr (text, d))) = cc

pub one_reason_lem : OneReason
one_reason_lem bytes Reason.Cut Reason.Cut bad a b = refl
one_reason_lem bytes Reason.Cut Reason.Check bad a b = absurd (cut_not_check (outcome Pads bytes) a.0 a.1 (no_frames bytes bad.0) (cut_ends bytes a) (check_breaks bytes b))
one_reason_lem bytes Reason.Cut Reason.TooLong bad a b = absurd (cut_not_long (outcome Pads bytes) a.0 a.1 (no_frames bytes bad.0) (cut_ends bytes a) (long_breaks bytes b))
one_reason_lem bytes Reason.Cut Reason.Spoiled bad a b = absurd (b.0 a)
one_reason_lem bytes Reason.Check Reason.Cut bad a b = absurd (cut_not_check (outcome Pads bytes) b.0 b.1 (no_frames bytes bad.0) (cut_ends bytes b) (check_breaks bytes a))
one_reason_lem bytes Reason.Check Reason.Check bad a b = refl
one_reason_lem bytes Reason.Check Reason.TooLong bad a b = absurd (check_not_long (outcome Pads bytes) (no_frames bytes bad.0) (check_breaks bytes a) (long_breaks bytes b))
one_reason_lem bytes Reason.Check Reason.Spoiled bad a b = absurd (b.1 a)
one_reason_lem bytes Reason.TooLong Reason.Cut bad a b = absurd (cut_not_long (outcome Pads bytes) b.0 b.1 (no_frames bytes bad.0) (cut_ends bytes b) (long_breaks bytes a))
one_reason_lem bytes Reason.TooLong Reason.Check bad a b = absurd (check_not_long (outcome Pads bytes) (no_frames bytes bad.0) (check_breaks bytes b) (long_breaks bytes a))
one_reason_lem bytes Reason.TooLong Reason.TooLong bad a b = refl
one_reason_lem bytes Reason.TooLong Reason.Spoiled bad a b = absurd (b.2 a)
one_reason_lem bytes Reason.Spoiled Reason.Cut bad a b = absurd (a.0 b)
one_reason_lem bytes Reason.Spoiled Reason.Check bad a b = absurd (a.1 b)
one_reason_lem bytes Reason.Spoiled Reason.TooLong bad a b = absurd (a.2 b)
one_reason_lem bytes Reason.Spoiled Reason.Spoiled bad a b = refl
