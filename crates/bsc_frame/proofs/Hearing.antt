-- The plain listener hears each transmission, at its last byte.
use Rattle.std.proofs.Common.{◌≡◌, ◌≢◌, ℕ, zero, suc, ◌+◌, ◌≤◌, ◌<◌, Bool, true, false, eqb, Option, Some, None, List, [], ◌∷◌, ◌++◌, length, replicate, get_or, refl, ap, sym, ◌∙◌, arith, append_assoc, length-append, inl, inr, ◌⊎◌, subst}
use Rattle.std.proofs.lemmas.List.{append-nil, append_cancel_right}
use Rattle.std.proofs.lemmas.Bool.{eq-eqb, eqb-true, lt-ltb, and_from}
use Rattle.std.specs.List.{flat_map, AllByRecursion}
use Rattle.std.specs.Option.{option_to_list}
use Rattle.bsc_frame.specs.Body.{closing_byte, on_line, start_of_text, dle, IsText, block_end, EndedByEnq, IsBlockBody, Body, IsNormalText}
use Rattle.bsc_frame.specs.Transmission.{IsPad, SyncPattern, Transmission}
use Rattle.bsc_frame.specs.Laws.{OneTransmission}
use Rattle.bsc_frame.specs.Inside.Listening.NormalText.{is_normal_text}
use Rattle.bsc_frame.specs.Inside.Listening.HeardSoFar.{HeardSoFar, Pads, Syns, Text, TextDle, AwaitsCheck, AwaitsSecondCheck, On, Got, frame_of_enq, is_check, next, block_of}
use Rattle.bsc_frame.specs.Inside.Listening.Run.{Hears, run}
use Rattle.bsc_codes.specs.declared.block.Block.{Block}
use Rattle.bsc_codes.specs.declared.block.Closing.{Closing}
use Rattle.bsc_codes.specs.declared.block.Closing.TheVariants.{Etb, Etx}
use Rattle.bsc_codes.specs.Bytes.{DLE, ENQ, SYN}
use Rattle.bsc_check.specs.Check.{check_of}
use Rattle.bsc_frame.specs.declared.frame.Frame.{Frame}
use Rattle.bsc_frame.specs.declared.frame.Frame.TheVariants as frame
use Rattle.bsc_frame.proofs.NormalBytes.{passes}

-- one byte with which more has come
pub run_on : (p q : HeardSoFar) (c : ℕ) (t : List ℕ) → next p c ≡ On q → run p (c ∷ t) ≡ run q t
run_on p q c t e = ap (λ n. elim n [ On r ↦ run r t | Got f ↦ Hears f t ]) e

-- one byte with which a frame is whole
pub run_got : (p : HeardSoFar) (f : Frame) (c : ℕ) (t : List ℕ) → next p c ≡ Got f → run p (c ∷ t) ≡ Hears f t
run_got p f c t e = ap (λ n. elim n [ On r ↦ run r t | Got g ↦ Hears g t ]) e

run_pads : (pads v : List ℕ) → AllByRecursion IsPad pads → run Pads (pads ++ v) ≡ run Pads v
run_pads [] v h = refl
run_pads (c ∷ pads) v h =
    elim h.0 [
      | inl e ↦ rw e (run_pads pads v h.1)
      | inr e ↦ rw e (run_pads pads v h.1)
    ]

run_syns : (n : ℕ) (v : List ℕ) → run Syns (replicate n SYN ++ v) ≡ run Syns v
run_syns zero v = refl
run_syns (suc n) v = run_syns n v

-- a synchronization pattern
pub run_sync : (l v : List ℕ) → SyncPattern l → run Pads (l ++ v) ≡ run Syns v
run_sync l v h =
    ap (λ w. run Pads (w ++ v)) h.whole
    ∙ ap (run Pads) (append_assoc h.pads (SYN ∷ SYN ∷ replicate h.more SYN) v)
    ∙ run_pads h.pads (SYN ∷ SYN ∷ (replicate h.more SYN ++ v)) h.are_pads
    ∙ run_syns h.more v

-- one more data byte
next_normal : (text : List ℕ) (c : ℕ) → is_normal_text c ≡ true → length text < 512 → next (Text false text) c ≡ On (Text false (text ++ c ∷ []))
next_normal text c e h = rw e (rw (lt-ltb (length text) 512 h) refl)

next_transparent : (text : List ℕ) (c : ℕ) → eqb c DLE ≡ false → length text < 512 → next (Text true text) c ≡ On (Text true (text ++ c ∷ []))
next_transparent text c e h = rw e (rw (lt-ltb (length text) 512 h) refl)

next_doubled : (text : List ℕ) → length text < 512 → next (TextDle text) DLE ≡ On (Text true (text ++ DLE ∷ []))
next_doubled text h = rw (lt-ltb (length text) 512 h) refl

-- the data bytes of a text
abbrev pub data_of : List (Option ℕ) → List ℕ
data_of items = flat_map option_to_list items

-- each is a normal text byte
abbrev pub AllNormal : List ℕ → Type 0
AllNormal text = AllByRecursion IsNormalText text

run_normal : (items : List (Option ℕ)) (text v : List ℕ) → AllNormal (data_of items) → length text + length (data_of items) ≤ 512 → run (Text false text) (flat_map (on_line false) items ++ v) ≡ run (Text false (text ++ data_of items)) v
run_normal [] text v n h = ap (λ t. run (Text false t) v) (sym (append-nil text))
run_normal (None ∷ items) text v n h = run_normal items text v n h
run_normal (Some c ∷ items) text v n h =
    run_on (Text false text) (Text false (text ++ c ∷ [])) c (flat_map (on_line false) items ++ v) (next_normal text c (passes c n.0) (omega arith))
    ∙ run_normal items (text ++ c ∷ []) v n.1 (omega (arith, length-append text (c ∷ [])))
    ∙ ap (λ t. run (Text false t) v) (append_assoc text (c ∷ []) (data_of items))

-- how a data byte stands in transparent text
pub on_line_byte : (c : ℕ) → ((c ≡ DLE) × (on_line true (Some c) ≡ DLE ∷ DLE ∷ [])) ⊎ ((eqb c DLE ≡ false) × (on_line true (Some c) ≡ c ∷ []))
on_line_byte c = by_test (eqb c DLE) refl
  where
    by_test : (b : Bool) → eqb c DLE ≡ b → ((c ≡ DLE) × (on_line true (Some c) ≡ DLE ∷ DLE ∷ [])) ⊎ ((eqb c DLE ≡ false) × (on_line true (Some c) ≡ c ∷ []))
    by_test true e = inl (eqb-true c DLE e, rw e refl)
    by_test false e = inr (e, rw e refl)

run_byte : (text v : List ℕ) (c : ℕ) → length text < 512 → run (Text true text) (on_line true (Some c) ++ v) ≡ run (Text true (text ++ c ∷ [])) v
run_byte text v c h =
    elim (on_line_byte c) [
      | inl p ↦ ap (λ w. run (Text true text) (w ++ v)) p.1 ∙ run_on (TextDle text) (Text true (text ++ DLE ∷ [])) DLE v (next_doubled text h) ∙ ap (λ d. run (Text true (text ++ d ∷ [])) v) (sym p.0)
      | inr p ↦ ap (λ w. run (Text true text) (w ++ v)) p.1 ∙ run_on (Text true text) (Text true (text ++ c ∷ [])) c v (next_transparent text c p.0 h)
    ]

run_transparent : (items : List (Option ℕ)) (text v : List ℕ) → length text + length (data_of items) ≤ 512 → run (Text true text) (flat_map (on_line true) items ++ v) ≡ run (Text true (text ++ data_of items)) v
run_transparent [] text v h = ap (λ t. run (Text true t) v) (sym (append-nil text))
run_transparent (None ∷ items) text v h = run_transparent items text v h
run_transparent (Some c ∷ items) text v h =
    ap (run (Text true text)) (append_assoc (on_line true (Some c)) (flat_map (on_line true) items) v)
    ∙ run_byte text (flat_map (on_line true) items ++ v) c (omega arith)
    ∙ run_transparent items (text ++ c ∷ []) v (omega (arith, length-append text (c ∷ [])))
    ∙ ap (λ t. run (Text true t) v) (append_assoc text (c ∷ []) (data_of items))

-- a text that begins
run_text : (transparent : Bool) (text line v : List ℕ) → IsText transparent text line → run Syns (start_of_text transparent ++ (line ++ v)) ≡ run (Text transparent text) v
run_text false text line v h =
    ap (λ l. run (Text false []) (l ++ v)) h.line_is
    ∙ run_normal h.items [] v (subst AllNormal h.text_is h.normal) (omega (arith, h.room, ap length h.text_is))
    ∙ ap (λ t. run (Text false t) v) (sym h.text_is)
run_text true text line v h =
    ap (λ l. run (Text true []) (l ++ v)) h.line_is
    ∙ run_transparent h.items [] v (omega (arith, h.room, ap length h.text_is))
    ∙ ap (λ t. run (Text true t) v) (sym h.text_is)

run_enq : (transparent : Bool) (text v : List ℕ) → run (Text transparent text) ((dle transparent ++ ENQ ∷ []) ++ v) ≡ Hears (frame_of_enq transparent text) v
run_enq false text v = refl
run_enq true text v = refl

run_enq_end : (transparent : Bool) (text body v : List ℕ) → EndedByEnq transparent text body → run Syns (body ++ v) ≡ Hears (frame_of_enq transparent text) v
run_enq_end transparent text body v h =
    ap (λ b. run Syns (b ++ v)) h.whole
    ∙ ap (run Syns) (append_assoc (start_of_text transparent) (h.line ++ (dle transparent ++ ENQ ∷ [])) v ∙ ap (λ w. start_of_text transparent ++ w) (append_assoc h.line (dle transparent ++ ENQ ∷ []) v))
    ∙ run_text transparent text h.line ((dle transparent ++ ENQ ∷ []) ++ v) h.is_text
    ∙ run_enq transparent text v

-- the two bytes of a check
pub check_pair : (bytes : List ℕ) → check_of bytes ≡ get_or (check_of bytes) 0 0 ∷ get_or (check_of bytes) 1 0 ∷ []
unfolding check_of
check_pair bytes = refl

-- the two bytes of a check are the check
pub own_check : (bytes : List ℕ) → is_check bytes (get_or (check_of bytes) 0 0) (get_or (check_of bytes) 1 0) ≡ true
own_check bytes =
    let first = get_or (check_of bytes) 0 0 in
    let second = get_or (check_of bytes) 1 0 in
    and_from (eqb first first) (eqb second second) (eq-eqb first first refl) (eq-eqb second second refl)

run_check : (block : Block) (v : List ℕ) → run (AwaitsCheck block) (check_of (block.text.items ++ closing_byte block.closing ∷ []) ++ v) ≡ Hears (frame.Block block) v
run_check block v =
    let bytes = block.text.items ++ closing_byte block.closing ∷ [] in
    let first = get_or (check_of bytes) 0 0 in
    let second = get_or (check_of bytes) 1 0 in
    ap (λ w. run (AwaitsCheck block) (w ++ v)) (check_pair bytes)
    ∙ run_got (AwaitsSecondCheck block first) (frame.Block block) second v (rw (own_check bytes) refl)

run_closing : (transparent : Bool) (text v : List ℕ) (closing : Closing) → run (Text transparent text) (block_end transparent text closing ++ v) ≡ run (AwaitsCheck (block_of transparent text closing)) (check_of (text ++ closing_byte closing ∷ []) ++ v)
run_closing false text v Etb = refl
run_closing false text v Etx = refl
run_closing true text v Etb = refl
run_closing true text v Etx = refl

run_block : (block : Block) (body v : List ℕ) → IsBlockBody block body → run Syns (body ++ v) ≡ Hears (frame.Block block) v
run_block block body v h =
    let t = block.transparent in
    let end = block_end t block.text.items block.closing in
    ap (λ b. run Syns (b ++ v)) h.whole
    ∙ ap (run Syns) (append_assoc (start_of_text t) (h.line ++ end) v ∙ ap (λ w. start_of_text t ++ w) (append_assoc h.line end v))
    ∙ run_text t block.text.items h.line (end ++ v) h.is_text
    ∙ run_closing t block.text.items v block.closing
    ∙ run_check block v

ended_some : (text : List ℕ) → text ≢ [] → frame_of_enq false text ≡ frame.Abort
ended_some [] h = absurd (h refl)
ended_some (c ∷ text) h = refl

-- a body is heard at its last byte
pub run_body : (f : Frame) (body v : List ℕ) → Body f body → run Syns (body ++ v) ≡ Hears f v
run_body frame.Enq body v h = rw h refl
run_body frame.Ack0 body v h = rw h refl
run_body frame.Ack1 body v h = rw h refl
run_body frame.Nak body v h = rw h refl
run_body frame.Wack body v h = rw h refl
run_body frame.Rvi body v h = rw h refl
run_body frame.Ttd body v h = run_enq_end false [] body v h
run_body frame.Abort body v (inl h) = run_enq_end false h.0 body v h.2 ∙ ap (λ f. Hears f v) (ended_some h.0 h.1)
run_body frame.Abort body v (inr h) = run_enq_end true h.0 body v h.1
run_body frame.Eot body v (inl h) = rw h refl
run_body frame.Eot body v (inr h) = rw h refl
run_body (frame.Block block) body v h = run_block block body v h

-- a transmission is heard at its last byte
pub run_transmission : (f : Frame) (a v : List ℕ) → Transmission f a → run Pads (a ++ v) ≡ Hears f v
run_transmission f a v h =
    ap (λ b. run Pads (b ++ v)) h.whole
    ∙ ap (run Pads) (append_assoc h.sync h.body v)
    ∙ run_sync h.sync (h.body ++ v) h.is_sync
    ∙ run_body f h.body v h.is_body

-- so one prefix is a transmission, and of one frame
pub one_transmission_lem : OneTransmission
one_transmission_lem f g a b x y h k e =
    let r : Hears f x ≡ Hears g y = sym (run_transmission f a x h) ∙ ap (run Pads) e ∙ run_transmission g b y k in
    let same : f ≡ g = cc in
    let rest : x ≡ y = cc in
    (same, append_cancel_right a b y (subst (λ z. a ++ z ≡ b ++ y) rest e))
