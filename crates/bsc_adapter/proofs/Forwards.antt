-- Of an adapter's form of a frame a transmission of that frame is made.
use Rattle.std.proofs.Common.{◌≡◌, ℕ, Bool, true, false, eqb, Option, Some, None, List, [], ◌∷◌, ◌++◌, refl, ap, sym, ◌∙◌, append_assoc, inl, inr, subst}
use Rattle.std.proofs.lemmas.List.{append-nil}
use Rattle.std.proofs.lemmas.Bool.{eqb-true}
use Rattle.std.specs.List.{flat_map, AllByRecursion}
use Rattle.bsc_codes.specs.Bytes.{ETX, DLE, ETB, ENQ, SYN}
use Rattle.bsc_codes.specs.declared.block.Closing.{Closing}
use Rattle.bsc_codes.specs.declared.block.Closing.TheVariants.{Etb, Etx}
use Rattle.bsc_check.specs.Check.{check_of}
use Rattle.bsc_frame.specs.declared.frame.Frame.{Frame}
use Rattle.bsc_frame.specs.declared.frame.Frame.TheVariants as frame
use Rattle.bsc_frame.specs.Body.{closing_byte, on_line, start_of_text, dle, IsText, block_end, covered, EndedByEnq, Body, IsNormalText}
use Rattle.bsc_frame.specs.Heard.{IsPadOrSyn}
use Rattle.bsc_frame.specs.Transmission.{Transmission}
use Rattle.bsc_frame.specs.Inside.Listening.NormalText.{is_normal_text}
use Rattle.bsc_frame.proofs.NormalBytes.{passes}
use Rattle.bsc_frame.proofs.Hearing.{data_of, AllNormal, on_line_byte}
use Rattle.bsc_adapter.specs.Form.{check_bytes, AdapterForm}
use Rattle.bsc_adapter.specs.Inside.Making.{Front, Text, made}
use Rattle.bsc_adapter.proofs.Parts.{BodyByParts, by_parts, check_last}

-- a byte of normal text is none that controls the line
pub not_it : (c d : ℕ) → is_normal_text c ≡ true → is_normal_text d ≡ false → eqb c d ≡ false
not_it c d n f = by_test (eqb c d) refl
  where
    by_test : (b : Bool) → eqb c d ≡ b → b ≡ false
    by_test true e = let same : c ≡ d = eqb-true c d e in let t : is_normal_text d ≡ true = subst (λ x. is_normal_text x ≡ true) same n in absurd cc
    by_test false e = refl

-- one byte of normal text
pub one_normal : (text t : List ℕ) (c : ℕ) → IsNormalText c → made (Text false text) (c ∷ t) ≡ c ∷ made (Text false (text ++ c ∷ [])) t
one_normal text t c n =
    let p = passes c n in
    rw (not_it c SYN p refl) (rw (not_it c ENQ p refl) (rw (not_it c ETB p refl) (rw (not_it c ETX p refl) refl)))

-- data bytes and fill of normal text
normal : (items : List (Option ℕ)) (text v : List ℕ) → AllNormal (data_of items)
    → made (Text false text) (flat_map (on_line false) items ++ v) ≡ flat_map (on_line false) items ++ made (Text false (text ++ data_of items)) v
normal [] text v n = ap (λ t. made (Text false t) v) (sym (append-nil text))
normal (None ∷ items) text v n = ap (λ l. SYN ∷ l) (normal items text v n)
normal (Some c ∷ items) text v n =
    one_normal text (flat_map (on_line false) items ++ v) c n.0
    ∙ ap (λ l. c ∷ l) (normal items (text ++ c ∷ []) v n.1 ∙ ap (λ t. flat_map (on_line false) items ++ made (Text false t) v) (append_assoc text (c ∷ []) (data_of items)))

-- one byte of transparent text
one_transparent : (text v : List ℕ) (c : ℕ) → made (Text true text) (on_line true (Some c) ++ v) ≡ on_line true (Some c) ++ made (Text true (text ++ c ∷ [])) v
one_transparent text v c =
    elim (on_line_byte c) [
      | inl p ↦ ap (λ w. made (Text true text) (w ++ v)) p.1 ∙ ap (λ d. DLE ∷ DLE ∷ made (Text true (text ++ d ∷ [])) v) (sym p.0) ∙ ap (λ w. w ++ made (Text true (text ++ c ∷ [])) v) (sym p.1)
      | inr p ↦ ap (λ w. made (Text true text) (w ++ v)) p.1 ∙ alone p.0 ∙ ap (λ w. w ++ made (Text true (text ++ c ∷ [])) v) (sym p.1)
    ]
  where
    alone : eqb c DLE ≡ false → made (Text true text) (c ∷ v) ≡ c ∷ made (Text true (text ++ c ∷ [])) v
    alone e = rw e refl

-- data bytes and fill of transparent text
transparent_items : (items : List (Option ℕ)) (text v : List ℕ)
    → made (Text true text) (flat_map (on_line true) items ++ v) ≡ flat_map (on_line true) items ++ made (Text true (text ++ data_of items)) v
transparent_items [] text v = ap (λ t. made (Text true t) v) (sym (append-nil text))
transparent_items (None ∷ items) text v = ap (λ l. DLE ∷ SYN ∷ l) (transparent_items items text v)
transparent_items (Some c ∷ items) text v =
    let rest = flat_map (on_line true) items in
    ap (made (Text true text)) (append_assoc (on_line true (Some c)) rest v)
    ∙ one_transparent text (rest ++ v) c
    ∙ ap (λ l. on_line true (Some c) ++ l) (transparent_items items (text ++ c ∷ []) v ∙ ap (λ t. rest ++ made (Text true t) v) (append_assoc text (c ∷ []) (data_of items)))
    ∙ sym (append_assoc (on_line true (Some c)) rest (made (Text true (text ++ data_of (Some c ∷ items))) v))

-- a text
whole_text : (transparent : Bool) (text line v : List ℕ) → IsText transparent text line → made (Text transparent []) (line ++ v) ≡ line ++ made (Text transparent text) v
whole_text false text line v h =
    ap (λ l. made (Text false []) (l ++ v)) h.line_is ∙ normal h.items [] v (subst AllNormal h.text_is h.normal)
    ∙ ap (λ l. l ++ made (Text false (data_of h.items)) v) (sym h.line_is) ∙ ap (λ t. line ++ made (Text false t) v) (sym h.text_is)
whole_text true text line v h =
    ap (λ l. made (Text true []) (l ++ v)) h.line_is ∙ transparent_items h.items [] v
    ∙ ap (λ l. l ++ made (Text true (data_of h.items)) v) (sym h.line_is) ∙ ap (λ t. line ++ made (Text true t) v) (sym h.text_is)

-- the start of a text
pub started : (transparent : Bool) (w : List ℕ) → made Front (start_of_text transparent ++ w) ≡ SYN ∷ SYN ∷ (start_of_text transparent ++ made (Text transparent []) w)
started false w = refl
started true w = refl

closing_made : (transparent : Bool) (text v : List ℕ) (closing : Closing)
    → made (Text transparent text) ((dle transparent ++ closing_byte closing ∷ []) ++ v) ≡ block_end transparent text closing ++ made Front v
closing_made false text v Etb = refl
closing_made false text v Etx = refl
closing_made true text v Etb = refl
closing_made true text v Etx = refl

enq_made : (transparent : Bool) (text v : List ℕ) → made (Text transparent text) ((dle transparent ++ ENQ ∷ []) ++ v) ≡ (dle transparent ++ ENQ ∷ []) ++ made Front v
enq_made false text v = refl
enq_made true text v = refl

-- a text and what ends it
ended : (transparent : Bool) (text line tail end v : List ℕ) → IsText transparent text line
    → made (Text transparent text) (tail ++ v) ≡ end ++ made Front v
    → made Front ((start_of_text transparent ++ (line ++ tail)) ++ v) ≡ SYN ∷ SYN ∷ ((start_of_text transparent ++ (line ++ end)) ++ made Front v)
ended transparent text line tail end v h e =
    let start = start_of_text transparent in
    ap (made Front) (append_assoc start (line ++ tail) v ∙ ap (λ w. start ++ w) (append_assoc line tail v))
    ∙ started transparent (line ++ (tail ++ v))
    ∙ ap (λ w. SYN ∷ SYN ∷ (start ++ w)) (whole_text transparent text line (tail ++ v) h ∙ ap (λ w. line ++ w) e ∙ sym (append_assoc line end (made Front v)))
    ∙ ap (λ w. SYN ∷ SYN ∷ w) (sym (append_assoc start (line ++ end) (made Front v)))

-- ---- Bodies: of a body without its check the body and the check are made.

by_enq : (transparent : Bool) (text body v : List ℕ) → EndedByEnq transparent text body → made Front (body ++ v) ≡ SYN ∷ SYN ∷ (body ++ made Front v)
by_enq transparent text body v h =
    let end = dle transparent ++ ENQ ∷ [] in
    ap (λ b. made Front (b ++ v)) h.whole ∙ ended transparent text h.line end end v h.is_text (enq_made transparent text v)
    ∙ ap (λ b. SYN ∷ SYN ∷ (b ++ made Front v)) (sym h.whole)

-- nothing stands behind where there is no check
no_check : (body v : List ℕ) → made Front (body ++ v) ≡ SYN ∷ SYN ∷ (body ++ made Front v) → made Front (body ++ v) ≡ SYN ∷ SYN ∷ ((body ++ []) ++ made Front v)
no_check body v e = e ∙ ap (λ l. SYN ∷ SYN ∷ (l ++ made Front v)) (sym (append-nil body))

body_made : (f : Frame) (body v : List ℕ) → BodyByParts f body → made Front (body ++ v) ≡ SYN ∷ SYN ∷ ((body ++ check_bytes f) ++ made Front v)
body_made (frame.Block block) body v h =
    let transparent = block.transparent in
    let text = block.text.items in
    let check = check_of (covered text block.closing) in
    let end = block_end transparent text block.closing in
    ap (λ b. made Front (b ++ v)) h.whole
    ∙ ended transparent text h.line (dle transparent ++ closing_byte block.closing ∷ []) end v h.is_text (closing_made transparent text v block.closing)
    ∙ ap (λ l. SYN ∷ SYN ∷ (l ++ made Front v)) (check_last transparent text h.line block.closing ∙ ap (λ l. l ++ check) (sym h.whole))
body_made frame.Enq body v h = rw h refl
body_made frame.Ack0 body v h = rw h refl
body_made frame.Ack1 body v h = rw h refl
body_made frame.Nak body v h = rw h refl
body_made frame.Wack body v h = rw h refl
body_made frame.Rvi body v h = rw h refl
body_made frame.Ttd body v h = no_check body v (by_enq false [] body v h)
body_made frame.Abort body v (inl h) = no_check body v (by_enq false h.0 body v h.2)
body_made frame.Abort body v (inr h) = no_check body v (by_enq true h.0 body v h.1)
body_made frame.Eot body v (inl h) = rw h refl
body_made frame.Eot body v (inr h) = rw h refl

-- pads and SYN in front are dropped
pub idle_dropped : (idle v : List ℕ) → AllByRecursion IsPadOrSyn idle → made Front (idle ++ v) ≡ made Front v
idle_dropped [] v h = refl
idle_dropped (c ∷ idle) v h =
    elim h.0 [
      | inl (inl e) ↦ rw e (idle_dropped idle v h.1)
      | inl (inr e) ↦ rw e (idle_dropped idle v h.1)
      | inr e ↦ rw e (idle_dropped idle v h.1)
    ]

-- a form
pub form_made : (f : Frame) (form rest : List ℕ) (h : AdapterForm f form) → made Front (form ++ rest) ≡ SYN ∷ SYN ∷ ((h.body ++ check_bytes f) ++ made Front rest)
form_made f form rest h =
    ap (λ l. made Front (l ++ rest)) h.whole ∙ ap (made Front) (append_assoc h.idle h.body rest) ∙ idle_dropped h.idle (h.body ++ rest) h.are_idle
    ∙ body_made f h.body rest (by_parts f h.body h.is_body)

-- two SYN and a body are a transmission
pub transmission_of : (f : Frame) (body : List ℕ) → Body f body → Transmission f (SYN ∷ SYN ∷ body)
transmission_of f body h =
    record { sync = SYN ∷ SYN ∷ []; body = body; is_sync = record { pads = []; are_pads = tt; more = 0; whole = refl }; is_body = h; whole = refl }
