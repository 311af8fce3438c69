-- How the plain listener comes to the end of bytes, or to the byte that spoils a text.
use Rattle.std.proofs.Common.{◌≡◌, ℕ, Bool, true, false, cond, eqb, Some, List, [], ◌∷◌, ◌++◌, length, get_or, refl, ap, sym, ◌∙◌, arith, append_assoc, length-append, inl, inr, ◌⊎◌, subst, nat_lt}
use Rattle.std.proofs.lemmas.List.{append-nil, append_cancel_right}
use Rattle.std.specs.Bool.{OnFalse}
use Rattle.std.proofs.lemmas.Bool.Decides.{nat_tests}
use Rattle.bsc_codes.specs.declared.block.Block.{Block}
use Rattle.bsc_codes.specs.declared.block.Closing.{Closing}
use Rattle.bsc_codes.specs.declared.block.Closing.TheVariants.{Etb, Etx}
use Rattle.bsc_codes.specs.Bytes.{DLE}
use Rattle.bsc_check.specs.Check.{check_of}
use Rattle.bsc_frame.specs.declared.frame.Frame.{Frame}
use Rattle.bsc_frame.specs.declared.frame.Frame.TheVariants as frame
use Rattle.bsc_frame.specs.Body.{IsNormalText, IsText, on_line, start_of_text, dle, block_end, closing_byte, covered}
use Rattle.bsc_frame.specs.Transmission.{SyncPattern, Transmission}
use Rattle.bsc_frame.specs.Inside.Listening.HeardSoFar.{HeardSoFar, Pads, OneSyn, Syns, Dle, Text, TextDle, AwaitsCheck, AwaitsSecondCheck, BadText, OnlyPads, OnlyNoise, Progress, On, Got, is_check, next, block_of}
use Rattle.bsc_frame.specs.Inside.Listening.NormalText.{is_normal_text}
use Rattle.bsc_frame.specs.Inside.Listening.Run.{Waits, Hears, run}
use Rattle.bsc_frame.proofs.NormalBytes.{passes}
use Rattle.bsc_frame.proofs.Hearing.{run_sync, run_transmission, check_pair, on_line_byte}
use Rattle.rje_monitor.proofs.TextRuns.{run_text, run_check}
use Rattle.bsc_frame.proofs.Found.{found}
use Rattle.bsc_frame.proofs.Feeding.{run-append}
use Rattle.rje_monitor.specs.Reasons.{IsCut, HasWrongCheck, IsTooLong}

-- what comes of bytes: they end where so much has come, or a byte spoils the text of which so much has come, or a frame is heard
pub data Outcome : Type 0 where
  Ends : HeardSoFar → Outcome
  Breaks : HeardSoFar → ℕ → Outcome
  Frames : Outcome

-- a spoiled text has come
abbrev pub is_bad : HeardSoFar → Bool
is_bad BadText = true
is_bad Pads = false
is_bad OneSyn = false
is_bad Syns = false
is_bad Dle = false
is_bad (Text transparent text) = false
is_bad (TextDle text) = false
is_bad (AwaitsCheck block) = false
is_bad (AwaitsSecondCheck block first) = false
is_bad OnlyPads = false
is_bad OnlyNoise = false

-- what comes of bytes where so much has come
abbrev pub outcome : HeardSoFar → List ℕ → Outcome
outcome p [] = Ends p
outcome p (c ∷ s) = elim (next p c) [ On r ↦ cond (is_bad r) (Breaks p c) (outcome r s) | Got f ↦ Frames ]

bad_is : (r : HeardSoFar) → is_bad r ≡ true → r ≡ BadText
bad_is BadText e = refl
bad_is Pads e = cc
bad_is OneSyn e = cc
bad_is Syns e = cc
bad_is Dle e = cc
bad_is (Text transparent text) e = cc
bad_is (TextDle text) e = cc
bad_is (AwaitsCheck block) e = cc
bad_is (AwaitsSecondCheck block first) e = cc
bad_is OnlyPads e = cc
bad_is OnlyNoise e = cc

-- a spoiled text stays one
pub run_bad : (s : List ℕ) → run BadText s ≡ Waits BadText
run_bad [] = refl
run_bad (c ∷ s) = run_bad s

run_from_bad : (r : HeardSoFar) (s : List ℕ) → is_bad r ≡ true → run r s ≡ Waits BadText
run_from_bad r s e = ap (λ q. run q s) (bad_is r e) ∙ run_bad s

append_step : (p q : HeardSoFar) (c : ℕ) (s t : List ℕ) (n : Progress) → is_bad q ≡ false
    → ((r : HeardSoFar) → run r s ≡ Waits q → outcome r (s ++ t) ≡ outcome q t)
    → elim n [ On r ↦ run r s | Got g ↦ Hears g s ] ≡ Waits q
    → elim n [ On r ↦ cond (is_bad r) (Breaks p c) (outcome r (s ++ t)) | Got g ↦ Frames ] ≡ outcome q t
append_step p q c s t (On r) h more e = by_bad (is_bad r) refl
  where
    by_bad : (b : Bool) → is_bad r ≡ b → cond b (Breaks p c) (outcome r (s ++ t)) ≡ outcome q t
    by_bad false is = more r e
    by_bad true is = let there = run_from_bad r s is in let same : q ≡ BadText = cc in let wrong : is_bad q ≡ true = ap is_bad same in absurd cc
append_step p q c s t (Got f) h more e = absurd cc

-- what comes of more bytes after those by which so much came
pub outcome-append : (p q : HeardSoFar) (s t : List ℕ) → is_bad q ≡ false → run p s ≡ Waits q → outcome p (s ++ t) ≡ outcome q t
outcome-append p q [] t h e = let same : p ≡ q = cc in ap (λ r. outcome r t) same
outcome-append p q (c ∷ s) t h e = append_step p q c s t (next p c) h (λ r. outcome-append r q s t h) e

-- these bytes end where the others make a frame whole
abbrev pub EndsBefore : Outcome → Frame → List ℕ → Type 0
EndsBefore o f more = (o ≡ Frames) ⊎ ((q : HeardSoFar) × (o ≡ Ends q) × (run q more ≡ Hears f []))

before_step : (p : HeardSoFar) (c : ℕ) (s more : List ℕ) (f : Frame) (n : Progress)
    → ((r : HeardSoFar) → run r (s ++ more) ≡ Hears f [] → EndsBefore (outcome r s) f more)
    → elim n [ On r ↦ run r (s ++ more) | Got g ↦ Hears g (s ++ more) ] ≡ Hears f []
    → EndsBefore (elim n [ On r ↦ cond (is_bad r) (Breaks p c) (outcome r s) | Got g ↦ Frames ]) f more
before_step p c s more f (On r) on e = by_bad (is_bad r) refl
  where
    by_bad : (b : Bool) → is_bad r ≡ b → EndsBefore (cond b (Breaks p c) (outcome r s)) f more
    by_bad false is = on r e
    by_bad true is = let there = run_from_bad r (s ++ more) is in absurd cc
before_step p c s more f (Got g) on e = inl refl

pub ends_before : (p : HeardSoFar) (s more : List ℕ) (f : Frame) → run p (s ++ more) ≡ Hears f [] → EndsBefore (outcome p s) f more
ends_before p [] more f e = inr (p, refl, e)
ends_before p (c ∷ s) more f e = before_step p c s more f (next p c) (λ r. ends_before r s more f) e

-- where bytes are cut
pub cut_ends : (bytes : List ℕ) → (cut : IsCut bytes) → EndsBefore (outcome Pads bytes) cut.0 cut.1
cut_ends bytes cut =
    ends_before Pads bytes cut.1 cut.0 (ap (run Pads) (sym (append-nil (bytes ++ cut.1))) ∙ run_transmission cut.0 (bytes ++ cut.1) [] cut.2)

-- what so much and more bytes make whole
pub transmission_of : (q : HeardSoFar) (f : Frame) (bytes more : List ℕ) → run Pads bytes ≡ Waits q → run q more ≡ Hears f [] → Transmission f (bytes ++ more)
transmission_of q f bytes more e h =
    let it = found Pads (bytes ++ more) f [] (run-append Pads q bytes more e ∙ h) in
    subst (Transmission f) (sym (append-nil it.front) ∙ sym it.whole) it.completes

-- ---- a wrong check

two_off : (a b : List ℕ) (x y u v : ℕ) → a ++ (x ∷ y ∷ []) ≡ b ++ (u ∷ v ∷ []) → a ≡ b
two_off [] [] x y u v e = refl
two_off [] (d ∷ b) x y u v e = absurd (omega (arith, ap length e, length-append b (u ∷ v ∷ [])))
two_off (c ∷ a) [] x y u v e = absurd (omega (arith, ap length e, length-append a (x ∷ y ∷ [])))
two_off (c ∷ a) (d ∷ b) x y u v e = let same : a ≡ b = two_off a b x y u v cc in cc

-- what closes a text
pub run_end : (transparent : Bool) (text : List ℕ) (closing : Closing)
    → run (Text transparent text) (dle transparent ++ (closing_byte closing ∷ [])) ≡ Waits (AwaitsCheck (block_of transparent text closing))
run_end false text Etb = refl
run_end false text Etx = refl
run_end true text Etb = refl
run_end true text Etx = refl

-- what stands in front of the check of a block
pub awaits : (block : Block) (front : List ℕ) (x y : ℕ) → Transmission (frame.Block block) (front ++ (x ∷ y ∷ [])) → run Pads front ≡ Waits (AwaitsCheck block)
awaits block front x y h =
    let t = block.transparent in
    let text = block.text.items in
    let check = check_of (covered text block.closing) in
    let pair = check_pair (covered text block.closing) in
    let end = dle t ++ (closing_byte block.closing ∷ []) in
    let line = h.is_body.line in
    let head = h.sync ++ (start_of_text t ++ (line ++ end)) in
    let tail : block_end t text block.closing ≡ end ++ check = sym (append_assoc (dle t) (closing_byte block.closing ∷ []) check) in
    let body : h.body ≡ (start_of_text t ++ (line ++ end)) ++ check =
    h.is_body.whole ∙ ap (λ w. start_of_text t ++ (line ++ w)) tail ∙ ap (λ w. start_of_text t ++ w) (sym (append_assoc line end check))
    ∙ sym (append_assoc (start_of_text t) (line ++ end) check) in
    let all : front ++ (x ∷ y ∷ []) ≡ head ++ check =
    h.whole ∙ ap (λ w. h.sync ++ w) body ∙ sym (append_assoc h.sync (start_of_text t ++ (line ++ end)) check) in
    let same : front ≡ head = two_off front head x y (get_or check 0 0) (get_or check 1 0) (all ∙ ap (λ w. head ++ w) pair) in
    ap (run Pads) same ∙ run_sync h.sync (start_of_text t ++ (line ++ end)) h.is_sync ∙ run_text t text line end h.is_body.is_text ∙ run_end t text block.closing

-- a byte that should be the second of a check
abbrev pub IsOfCheck : Outcome → Type 0
IsOfCheck o = (o ≡ Frames) ⊎ ((block : Block) × (first : ℕ) × (second : ℕ) × (o ≡ Breaks (AwaitsSecondCheck block first) second))

second_of_check : (block : Block) (first second : ℕ) (rest : List ℕ) (b : Bool) → is_check (covered block.text.items block.closing) first second ≡ b
    → IsOfCheck (outcome (AwaitsCheck block) (first ∷ second ∷ rest))
second_of_check block first second rest true e = inl (rw e refl)
second_of_check block first second rest false e = inr (block, first, second, rw e refl)

pub check_breaks : (bytes : List ℕ) → HasWrongCheck bytes → IsOfCheck (outcome Pads bytes)
check_breaks bytes h =
    let at = awaits h.block h.front h.x h.y h.would_be in
    let same : outcome Pads bytes ≡ outcome (AwaitsCheck h.block) (h.first ∷ h.second ∷ h.rest) =
    ap (outcome Pads) h.whole ∙ outcome-append Pads (AwaitsCheck h.block) h.front (h.first ∷ h.second ∷ h.rest) refl at in
    subst IsOfCheck (sym same) (second_of_check h.block h.first h.second h.rest _ refl)

-- where a check was awaited and two bytes came, the check is wrong
pub wrong_check : (block : Block) (bytes front rest : List ℕ) (first second : ℕ) → run Pads front ≡ Waits (AwaitsCheck block)
    → bytes ≡ front ++ (first ∷ second ∷ rest) → HasWrongCheck bytes
wrong_check block bytes front rest first second e whole =
    let check = check_of (covered block.text.items block.closing) in
    let pair = check_pair (covered block.text.items block.closing) in
    let made = transmission_of (AwaitsCheck block) (frame.Block block) front check e (ap (run (AwaitsCheck block)) (sym (append-nil check)) ∙ run_check block []) in
    record {
      block = block;
      front = front;
      first = first;
      second = second;
      rest = rest;
      x = get_or check 0 0;
      y = get_or check 1 0;
      whole = whole;
      would_be = subst (λ w. Transmission (frame.Block block) (front ++ w)) pair made;
    }

-- ---- a text that is too long

-- the byte passes the limit of the text before it
abbrev pub Passes : Outcome → Type 0
Passes o =
    ((text : List ℕ) × (c : ℕ) × (is_normal_text c ≡ true) × (o ≡ Breaks (Text false text) c))
    ⊎ ((text : List ℕ) × (c : ℕ) × (o ≡ Breaks (Text true text) c)) ⊎ ((text : List ℕ) × (o ≡ Breaks (TextDle text) DLE))

full_is : (text : List ℕ) → length text ≡ 512 → nat_lt (length text) 512 ≡ false
full_is text e = grind (arith, nat_tests)

-- a byte with which a text can become no frame
pub broken : (p : HeardSoFar) (c : ℕ) (s : List ℕ) → next p c ≡ On BadText → outcome p (c ∷ s) ≡ Breaks p c
broken p c s e = ap (λ n. elim n [ On r ↦ cond (is_bad r) (Breaks p c) (outcome r s) | Got f ↦ Frames ]) e

next_normal : (text : List ℕ) (c : ℕ) → is_normal_text c ≡ true → length text ≡ 512 → next (Text false text) c ≡ On BadText
next_normal text c e full = rw e (rw (full_is text full) refl)

next_transparent : (text : List ℕ) (c : ℕ) → eqb c DLE ≡ false → length text ≡ 512 → next (Text true text) c ≡ On BadText
next_transparent text c e full = rw e (rw (full_is text full) refl)

next_doubled : (text : List ℕ) → length text ≡ 512 → next (TextDle text) DLE ≡ On BadText
next_doubled text full = rw (full_is text full) refl

passes_limit : (transparent : Bool) (text rest : List ℕ) (c : ℕ) → length text ≡ 512 → OnFalse transparent (IsNormalText c)
    → Passes (outcome (Text transparent text) (on_line transparent (Some c) ++ rest))
passes_limit false text rest c full n = inl (text, c, passes c n, broken (Text false text) c rest (next_normal text c (passes c n) full))
passes_limit true text rest c full n =
    elim (on_line_byte c) [
      | inl p ↦ inr (inr (text, ap (λ w. outcome (Text true text) (w ++ rest)) p.1 ∙ broken (TextDle text) DLE rest (next_doubled text full)))
      | inr p ↦ inr (inl (text, c, ap (λ w. outcome (Text true text) (w ++ rest)) p.1 ∙ broken (Text true text) c rest (next_transparent text c p.0 full)))
    ]

pub long_breaks : (bytes : List ℕ) → IsTooLong bytes → Passes (outcome Pads bytes)
long_breaks bytes h =
    let t = h.transparent in
    let front = h.sync ++ (start_of_text t ++ h.line) in
    let more = on_line t (Some h.byte) ++ h.rest in
    let at : run Pads front ≡ Waits (Text t h.text) =
    run_sync h.sync (start_of_text t ++ h.line) h.is_sync ∙ ap (λ w. run Syns (start_of_text t ++ w)) (sym (append-nil h.line)) ∙ run_text t h.text h.line [] h.is_text in
    let whole : bytes ≡ front ++ more =
    h.whole ∙ ap (λ w. h.sync ++ w) (sym (append_assoc (start_of_text t) h.line more)) ∙ sym (append_assoc h.sync (start_of_text t ++ h.line) more) in
    let same : outcome Pads bytes ≡ outcome (Text t h.text) more = ap (outcome Pads) whole ∙ outcome-append Pads (Text t h.text) front more refl at in
    subst Passes (sym same) (passes_limit t h.text h.rest h.byte h.full h.is_data)

run_closing : (transparent : Bool) (text v : List ℕ)
    → run (Text transparent text) (block_end transparent text Etx ++ v) ≡ run (AwaitsCheck (block_of transparent text Etx)) (check_of (covered text Etx) ++ v)
run_closing false text v = refl
run_closing true text v = refl

-- bytes by which so much of a text came
pub record IsTextFront (transparent : Bool) (text front : List ℕ) : Type 0 where
  pub sync : List ℕ
  pub line : List ℕ
  pub is_sync : SyncPattern sync
  pub is_text : IsText transparent text line
  pub whole : front ≡ sync ++ (start_of_text transparent ++ line)

pub text_front : (transparent : Bool) (text front : List ℕ) → run Pads front ≡ Waits (Text transparent text) → IsTextFront transparent text front
text_front t text front e =
    let block = block_of t text Etx in
    let end = block_end t text Etx in
    let made : Transmission (frame.Block block) (front ++ end) =
    transmission_of (Text t text) (frame.Block block) front end e (ap (run (Text t text)) (sym (append-nil end)) ∙ run_closing t text [] ∙ run_check block []) in
    let line = made.is_body.line in
    let all : front ++ end ≡ (made.sync ++ (start_of_text t ++ line)) ++ end =
    made.whole ∙ ap (λ w. made.sync ++ w) (made.is_body.whole ∙ sym (append_assoc (start_of_text t) line end))
    ∙ sym (append_assoc made.sync (start_of_text t ++ line) end) in
    record { sync = made.sync; line = line; is_sync = made.is_sync; is_text = made.is_body.is_text; whole = append_cancel_right front (made.sync ++ (start_of_text t ++ line)) end all }

-- one more data byte after a text of 512
pub too_long : (transparent : Bool) (text front rest bytes : List ℕ) (c : ℕ) → run Pads front ≡ Waits (Text transparent text) → length text ≡ 512
    → OnFalse transparent (IsNormalText c) → bytes ≡ front ++ (on_line transparent (Some c) ++ rest) → IsTooLong bytes
too_long t text front rest bytes c e full n whole =
    let at = text_front t text front e in
    let more = on_line t (Some c) ++ rest in
    record {
      transparent = t;
      sync = at.sync;
      text = text;
      line = at.line;
      byte = c;
      rest = rest;
      is_sync = at.is_sync;
      is_text = at.is_text;
      full = full;
      is_data = n;
      whole = whole ∙ ap (λ w. w ++ more) at.whole ∙ append_assoc at.sync (start_of_text t ++ at.line) more ∙ ap (λ w. at.sync ++ w) (append_assoc (start_of_text t) at.line more);
    }
