-- What the plain listener hears is a transmission.
use Rattle.std.proofs.Common.{◌≡◌, ℕ, suc, ◌+◌, ◌≤◌, ◌<◌, Bool, true, false, cond, eqb, Option, Some, None, List, [], ◌∷◌, ◌++◌, length, replicate, get_or, refl, ap, sym, ◌∙◌, arith, append_assoc, length-append, inl, inr, ◌⊎◌, subst, nat_lt}
use Rattle.std.proofs.lemmas.List.{append-nil}
use Rattle.std.proofs.lemmas.Bool.{eqb-true, ltb-true, cond_both, and_parts, or_cases}
use Rattle.std.specs.Bool.{OnFalse}
use Rattle.std.specs.List.{flat_map}
use Rattle.bsc_frame.specs.Body.{closing_byte, on_line, start_of_text, dle, IsText, block_end, EndedByEnq, IsBlockBody, Body, IsNormalText}
use Rattle.bsc_frame.specs.Transmission.{IsPad, Transmission}
use Rattle.bsc_frame.specs.Inside.Listening.NormalText.{is_normal_text}
use Rattle.bsc_frame.specs.Inside.Listening.HeardSoFar.{HeardSoFar, Pads, OneSyn, Syns, Dle, Text, TextDle, AwaitsCheck, AwaitsSecondCheck, BadText, OnlyPads, OnlyNoise, Progress, On, Got, is_pad, with_byte, frame_of_enq, closed, is_check, after_no_sync, next, block_of}
use Rattle.bsc_frame.specs.Inside.Listening.Run.{Hears, run}
use Rattle.bsc_codes.specs.declared.block.Block.{Block}
use Rattle.bsc_codes.specs.declared.block.Closing.{Closing}
use Rattle.bsc_codes.specs.declared.block.Closing.TheVariants.{Etb, Etx}
use Rattle.bsc_codes.specs.Bytes.{STX, ETX, DLE, ETB, ENQ, SYN, EOT, NAK, PAD}
use Rattle.bsc_frame.specs.Bytes.{LEADING_PAD, ACK0, ACK1, WACK, RVI}
use Rattle.bsc_check.specs.Check.{check_of}
use Rattle.bsc_frame.specs.declared.frame.Frame.{Frame}
use Rattle.bsc_frame.specs.declared.frame.Frame.TheVariants as frame
use Rattle.bsc_frame.proofs.NormalBytes.{means_normal}
use Rattle.bsc_frame.proofs.Hearing.{data_of, AllNormal, check_pair}

-- these bytes end a text, and this is its frame
abbrev pub Ends : Bool → List ℕ → Frame → List ℕ → Type 0
Ends transparent whole f tail =
    ((f ≡ frame_of_enq transparent whole) × (tail ≡ dle transparent ++ ENQ ∷ []))
    ⊎ ((closing : Closing) × (f ≡ frame.Block (block_of transparent whole closing)) × (tail ≡ block_end transparent whole closing))

-- the rest of a text, after these data bytes
pub record TextRest (transparent : Bool) (text : List ℕ) (f : Frame) (bytes : List ℕ) : Type 0 where
  pub items : List (Option ℕ)
  pub tail : List ℕ
  pub whole : bytes ≡ flat_map (on_line transparent) items ++ tail
  pub normal : OnFalse transparent (AllNormal (data_of items))
  pub room : (length (data_of items) ≡ 0) ⊎ (length text + length (data_of items) ≤ 512)
  pub ends : Ends transparent (text ++ data_of items) f tail

-- SYNs, and then a body
pub record SynRest (f : Frame) (bytes : List ℕ) : Type 0 where
  pub more : ℕ
  pub body : List ℕ
  pub is_body : Body f body
  pub whole : bytes ≡ replicate more SYN ++ body

-- these bytes complete a transmission of the frame
abbrev pub Rest : HeardSoFar → Frame → List ℕ → Type 0
Rest Pads f bytes = Transmission f bytes
Rest OneSyn f bytes = (after : List ℕ) × (bytes ≡ SYN ∷ after) × SynRest f after
Rest Syns f bytes = SynRest f bytes
Rest Dle f bytes = Body f (DLE ∷ bytes)
Rest (Text transparent text) f bytes = TextRest transparent text f bytes
Rest (TextDle text) f bytes = TextRest true text f (DLE ∷ bytes)
Rest (AwaitsCheck block) f bytes = (f ≡ frame.Block block) × (bytes ≡ check_of (block.text.items ++ closing_byte block.closing ∷ []))
Rest (AwaitsSecondCheck block first) f bytes = (f ≡ frame.Block block) × (first ∷ bytes ≡ check_of (block.text.items ++ closing_byte block.closing ∷ []))
Rest BadText f bytes = ⊥
Rest OnlyPads f bytes = ⊥
Rest OnlyNoise f bytes = ⊥

-- what one byte does keeps to the grammar
abbrev pub Leads : HeardSoFar → ℕ → Progress → Type 0
Leads so_far byte (On more) = (f : Frame) (bytes : List ℕ) → Rest more f bytes → Rest so_far f (byte ∷ bytes)
Leads so_far byte (Got f) = Rest so_far f (byte ∷ [])

-- what the test for a pad says
pub pad_is : (c : ℕ) → is_pad c ≡ true → IsPad c
pad_is c e = elim (or_cases (eqb c PAD) (eqb c LEADING_PAD) e) [ inl h ↦ inl (eqb-true c PAD h) | inr h ↦ inr (eqb-true c LEADING_PAD h) ]

-- a byte in front of the first SYN
pub leads_pads : (c : ℕ) → Leads Pads c (next Pads c)
leads_pads c =
    cond_both (eqb c SYN) (On OneSyn) (cond (is_pad c) (On Pads) (On OnlyNoise)) (Leads Pads c)
    (λ e. λ f t h. record {
      sync = SYN ∷ SYN ∷ replicate h.2.more SYN;
      body = h.2.body;
      is_sync = record { pads = []; are_pads = tt; more = h.2.more; whole = refl };
      is_body = h.2.is_body;
      whole = let c_is = eqb-true c SYN e in let t_is = h.1 in let after_is = h.2.whole in cc;
    })
    (λ e. cond_both (is_pad c) (On Pads) (On OnlyNoise) (Leads Pads c)
    (λ p. λ f t h. record {
      sync = c ∷ h.sync;
      body = h.body;
      is_sync = record { pads = c ∷ h.is_sync.pads; are_pads = (pad_is c p, h.is_sync.are_pads); more = h.is_sync.more; whole = ap (λ l. c ∷ l) h.is_sync.whole };
      is_body = h.is_body;
      whole = ap (λ l. c ∷ l) h.whole;
    })
    (λ p. λ f t h. absurd h))

-- a byte that belongs to no synchronization pattern
pub leads_no_sync : (p : HeardSoFar) (c : ℕ) → Leads p c (after_no_sync c)
leads_no_sync p c =
    cond_both (is_pad c) (On OnlyPads) (cond (eqb c SYN) (On OnlyPads) (On OnlyNoise)) (Leads p c) (λ e. λ f t h. absurd h)
    (λ e. cond_both (eqb c SYN) (On OnlyPads) (On OnlyNoise) (Leads p c) (λ d. λ f t h. absurd h) (λ d. λ f t h. absurd h))

-- a byte after the first SYN
pub leads_one_syn : (c : ℕ) → Leads OneSyn c (next OneSyn c)
leads_one_syn c =
    cond_both (eqb c SYN) (On Syns) (after_no_sync c) (Leads OneSyn c)
    (λ e. λ f t h. (t, ap (λ d. d ∷ t) (eqb-true c SYN e), h))
    (λ e. leads_no_sync OneSyn c)

-- a body that begins with this byte
body_at : (f : Frame) (c : ℕ) (bytes : List ℕ) → Body f (c ∷ bytes) → SynRest f (c ∷ bytes)
body_at f c bytes h = record { more = 0; body = c ∷ bytes; is_body = h; whole = refl }

-- ---- from a text's rest to a body

text_is_of : (transparent : Bool) (f : Frame) (bytes : List ℕ) (h : TextRest transparent [] f bytes) → IsText transparent (data_of h.items) (flat_map (on_line transparent) h.items)
text_is_of transparent f bytes h =
    record { items = h.items; line_is = refl; text_is = refl; normal = h.normal; room = elim h.room [ inl e ↦ omega (arith, e) | inr e ↦ omega (arith, e) ] }

enq_body : (transparent : Bool) (text body : List ℕ) → EndedByEnq transparent text body → Body (frame_of_enq transparent text) body
enq_body false [] body a = a
enq_body false (c ∷ text) body a = inl (c ∷ text, (λ e. cc), a)
enq_body true text body a = inr (text, a)

body_from_text : (transparent : Bool) (f : Frame) (bytes : List ℕ) → TextRest transparent [] f bytes → Body f (start_of_text transparent ++ bytes)
body_from_text transparent f bytes h =
    let line = flat_map (on_line transparent) h.items in
    let text = data_of h.items in
    elim h.ends [
      | inl e ↦
          let a : EndedByEnq transparent text (start_of_text transparent ++ bytes) =
          record { line = line; is_text = text_is_of transparent f bytes h; whole = ap (λ b. start_of_text transparent ++ b) (h.whole ∙ ap (λ b. line ++ b) e.1) } in
          subst (λ g. Body g (start_of_text transparent ++ bytes)) (sym e.0) (enq_body transparent text (start_of_text transparent ++ bytes) a)
      | inr e ↦
          let b : IsBlockBody (block_of transparent text e.0) (start_of_text transparent ++ bytes) =
          record { line = line; is_text = text_is_of transparent f bytes h; whole = ap (λ b. start_of_text transparent ++ b) (h.whole ∙ ap (λ b. line ++ b) e.2) } in
          subst (λ g. Body g (start_of_text transparent ++ bytes)) (sym e.1) b
    ]

-- ---- SYNs, and the first byte of a body

leads_got : (f : Frame) (c d : ℕ) → c ≡ d → Body f (d ∷ []) → Rest Syns f (c ∷ [])
leads_got f c d e h = body_at f c [] (subst (λ b. Body f (b ∷ [])) (sym e) h)

-- one more SYN, or the first byte of a body
pub leads_syns : (c : ℕ) → Leads Syns c (next Syns c)
leads_syns c =
    let eot = cond (eqb c EOT) (Got frame.Eot) (after_no_sync c) in
    let nak = cond (eqb c NAK) (Got frame.Nak) eot in
    let enq = cond (eqb c ENQ) (Got frame.Enq) nak in
    let dle = cond (eqb c DLE) (On Dle) enq in
    let stx = cond (eqb c STX) (On (Text false [])) dle in
    let P = Leads Syns c in
    cond_both (eqb c SYN) (On Syns) stx P
    (λ e. λ f t h. record { more = suc h.more; body = h.body; is_body = h.is_body; whole = let c_is = eqb-true c SYN e in let t_is = h.whole in cc })
    (λ _. cond_both (eqb c STX) (On (Text false [])) dle P
    (λ e. λ f t h. body_at f c t (subst (λ b. Body f (b ∷ t)) (sym (eqb-true c STX e)) (body_from_text false f t h)))
    (λ _. cond_both (eqb c DLE) (On Dle) enq P
    (λ e. λ f t h. body_at f c t (subst (λ b. Body f (b ∷ t)) (sym (eqb-true c DLE e)) h))
    (λ _. cond_both (eqb c ENQ) (Got frame.Enq) nak P (λ e. leads_got frame.Enq c ENQ (eqb-true c ENQ e) refl)
    (λ _. cond_both (eqb c NAK) (Got frame.Nak) eot P (λ e. leads_got frame.Nak c NAK (eqb-true c NAK e) refl)
    (λ _. cond_both (eqb c EOT) (Got frame.Eot) (after_no_sync c) P (λ e. leads_got frame.Eot c EOT (eqb-true c EOT e) (inl refl))
    (λ _. leads_no_sync Syns c))))))

-- ---- DLE, and the second byte

second : (f : Frame) (c d : ℕ) → c ≡ d → Body f (DLE ∷ d ∷ []) → Body f (DLE ∷ c ∷ [])
second f c d e h = subst (λ b. Body f (DLE ∷ b ∷ [])) (sym e) h

-- the byte after a DLE in its first place
pub leads_dle : (c : ℕ) → Leads Dle c (next Dle c)
leads_dle c =
    let eot = cond (eqb c EOT) (Got frame.Eot) (On OnlyNoise) in
    let rvi = cond (eqb c RVI) (Got frame.Rvi) eot in
    let wack = cond (eqb c WACK) (Got frame.Wack) rvi in
    let ack1 = cond (eqb c ACK1) (Got frame.Ack1) wack in
    let ack0 = cond (eqb c ACK0) (Got frame.Ack0) ack1 in
    let P = Leads Dle c in
    cond_both (eqb c STX) (On (Text true [])) ack0 P
    (λ e. λ f t h. subst (λ b. Body f (DLE ∷ b ∷ t)) (sym (eqb-true c STX e)) (body_from_text true f t h))
    (λ _. cond_both (eqb c ACK0) (Got frame.Ack0) ack1 P (λ e. second frame.Ack0 c ACK0 (eqb-true c ACK0 e) refl)
    (λ _. cond_both (eqb c ACK1) (Got frame.Ack1) wack P (λ e. second frame.Ack1 c ACK1 (eqb-true c ACK1 e) refl)
    (λ _. cond_both (eqb c WACK) (Got frame.Wack) rvi P (λ e. second frame.Wack c WACK (eqb-true c WACK e) refl)
    (λ _. cond_both (eqb c RVI) (Got frame.Rvi) eot P (λ e. second frame.Rvi c RVI (eqb-true c RVI e) refl)
    (λ _. cond_both (eqb c EOT) (Got frame.Eot) (On OnlyNoise) P (λ e. second frame.Eot c EOT (eqb-true c EOT e) (inr refl))
    (λ _. λ f t h. absurd h))))))

-- ---- text

-- fill, and then the rest of a text
with_fill : (transparent : Bool) (text : List ℕ) (f : Frame) (bytes : List ℕ) → TextRest transparent text f bytes → TextRest transparent text f (on_line transparent None ++ bytes)
with_fill transparent text f bytes h =
    record { items = None ∷ h.items; tail = h.tail; whole = ap (λ b. on_line transparent None ++ b) h.whole ∙ sym (append_assoc (on_line transparent None) (flat_map (on_line transparent) h.items) h.tail); normal = h.normal; room = h.room; ends = h.ends }

-- a data byte, and then the rest of a text
with_data : (transparent : Bool) (text : List ℕ) (c : ℕ) (f : Frame) (bytes : List ℕ) → OnFalse transparent (IsNormalText c) → length text < 512 → TextRest transparent (text ++ c ∷ []) f bytes → TextRest transparent text f (on_line transparent (Some c) ++ bytes)
with_data transparent text c f bytes n l h =
    record {
      items = Some c ∷ h.items;
      tail = h.tail;
      whole = ap (λ b. on_line transparent (Some c) ++ b) h.whole ∙ sym (append_assoc (on_line transparent (Some c)) (flat_map (on_line transparent) h.items) h.tail);
      normal = normal_more transparent (data_of h.items) n h.normal;
      room = inr (elim h.room [ inl e ↦ omega (arith, e) | inr e ↦ omega (arith, e, length-append text (c ∷ [])) ]);
      ends = subst (λ w. Ends transparent w f h.tail) (append_assoc text (c ∷ []) (data_of h.items)) h.ends;
    }
  where
    normal_more : (transparent : Bool) (rest : List ℕ) → OnFalse transparent (IsNormalText c) → OnFalse transparent (AllNormal rest) → OnFalse transparent (AllNormal (c ∷ rest))
    normal_more true rest n h = tt
    normal_more false rest n h = (n, h)

-- the rest of a text without data
at_end : (transparent : Bool) (text : List ℕ) (f : Frame) (bytes : List ℕ) → Ends transparent text f bytes → TextRest transparent text f bytes
at_end transparent text f bytes h =
    record { items = []; tail = bytes; whole = refl; normal = normal_none transparent; room = inl refl; ends = subst (λ w. Ends transparent w f bytes) (sym (append-nil text)) h }
  where
    normal_none : (transparent : Bool) → OnFalse transparent (AllNormal [])
    normal_none true = tt
    normal_none false = tt

rest_from_closing : (transparent : Bool) (text : List ℕ) (closing : Closing) (f : Frame) (bytes : List ℕ) → Rest (AwaitsCheck (block_of transparent text closing)) f bytes → TextRest transparent text f (dle transparent ++ (closing_byte closing ∷ bytes))
rest_from_closing transparent text closing f bytes h =
    at_end transparent text f (dle transparent ++ (closing_byte closing ∷ bytes)) (inr (closing, h.0, ap (λ b. dle transparent ++ (closing_byte closing ∷ b)) h.1))

-- a byte in normal text
pub leads_normal : (text : List ℕ) (c : ℕ) → Leads (Text false text) c (next (Text false text) c)
leads_normal text c =
    let etx = cond (eqb c ETX) (closed false text Etx) (On BadText) in
    let etb = cond (eqb c ETB) (closed false text Etb) etx in
    let enq = cond (eqb c ENQ) (Got (frame_of_enq false text)) etb in
    let syn = cond (eqb c SYN) (On (Text false text)) enq in
    let P = Leads (Text false text) c in
    cond_both (is_normal_text c) (with_byte false text c) syn P
    (λ n. cond_both (nat_lt (length text) 512) (On (Text false (text ++ c ∷ []))) (On BadText) P
    (λ l. λ f t h. with_data false text c f t (means_normal c n) (ltb-true (length text) 512 l) h)
    (λ _. λ f t h. absurd h))
    (λ _. cond_both (eqb c SYN) (On (Text false text)) enq P
    (λ e. λ f t h. subst (λ b. TextRest false text f (b ∷ t)) (sym (eqb-true c SYN e)) (with_fill false text f t h))
    (λ _. cond_both (eqb c ENQ) (Got (frame_of_enq false text)) etb P
    (λ e. at_end false text (frame_of_enq false text) (c ∷ []) (inl (refl, ap (λ b. b ∷ []) (eqb-true c ENQ e))))
    (λ _. cond_both (eqb c ETB) (closed false text Etb) etx P
    (λ e. λ f t h. subst (λ b. TextRest false text f (b ∷ t)) (sym (eqb-true c ETB e)) (rest_from_closing false text Etb f t h))
    (λ _. cond_both (eqb c ETX) (closed false text Etx) (On BadText) P
    (λ e. λ f t h. subst (λ b. TextRest false text f (b ∷ t)) (sym (eqb-true c ETX e)) (rest_from_closing false text Etx f t h))
    (λ _. λ f t h. absurd h)))))

-- a byte in transparent text
pub leads_transparent : (text : List ℕ) (c : ℕ) → Leads (Text true text) c (next (Text true text) c)
leads_transparent text c =
    let P = Leads (Text true text) c in
    cond_both (eqb c DLE) (On (TextDle text)) (with_byte true text c) P
    (λ e. λ f t h. subst (λ b. TextRest true text f (b ∷ t)) (sym (eqb-true c DLE e)) h)
    (λ e. cond_both (nat_lt (length text) 512) (On (Text true (text ++ c ∷ []))) (On BadText) P
    (λ l. λ f t h. subst (λ s. TextRest true text f (s ++ t)) (let s : on_line true (Some c) ≡ c ∷ [] = rw e refl in s) (with_data true text c f t tt (ltb-true (length text) 512 l) h))
    (λ _. λ f t h. absurd h))

-- the byte after a DLE there
pub leads_text_dle : (text : List ℕ) (c : ℕ) → Leads (TextDle text) c (next (TextDle text) c)
leads_text_dle text c =
    let etx = cond (eqb c ETX) (closed true text Etx) (On BadText) in
    let etb = cond (eqb c ETB) (closed true text Etb) etx in
    let enq = cond (eqb c ENQ) (Got (frame_of_enq true text)) etb in
    let syn = cond (eqb c SYN) (On (Text true text)) enq in
    let P = Leads (TextDle text) c in
    let at = λ (f : Frame) (t : List ℕ) (d : ℕ) (e : c ≡ d) (h : TextRest true text f (DLE ∷ d ∷ t)). subst (λ b. TextRest true text f (DLE ∷ b ∷ t)) (sym e) h in
    cond_both (eqb c DLE) (with_byte true text c) syn P
    (λ e. cond_both (nat_lt (length text) 512) (On (Text true (text ++ c ∷ []))) (On BadText) P
    (λ l. λ f t h. at f t DLE (eqb-true c DLE e) (with_data true text DLE f t tt (ltb-true (length text) 512 l) (subst (λ b. TextRest true (text ++ b ∷ []) f t) (eqb-true c DLE e) h)))
    (λ _. λ f t h. absurd h))
    (λ _. cond_both (eqb c SYN) (On (Text true text)) enq P
    (λ e. λ f t h. at f t SYN (eqb-true c SYN e) (with_fill true text f t h))
    (λ _. cond_both (eqb c ENQ) (Got (frame_of_enq true text)) etb P
    (λ e. at_end true text (frame_of_enq true text) (DLE ∷ c ∷ []) (inl (refl, ap (λ b. DLE ∷ b ∷ []) (eqb-true c ENQ e))))
    (λ _. cond_both (eqb c ETB) (closed true text Etb) etx P
    (λ e. λ f t h. at f t ETB (eqb-true c ETB e) (rest_from_closing true text Etb f t h))
    (λ _. cond_both (eqb c ETX) (closed true text Etx) (On BadText) P
    (λ e. λ f t h. at f t ETX (eqb-true c ETX e) (rest_from_closing true text Etx f t h))
    (λ _. λ f t h. absurd h)))))

-- the second byte of a check
pub leads_second_check : (block : Block) (first c : ℕ) → Leads (AwaitsSecondCheck block first) c (next (AwaitsSecondCheck block first) c)
leads_second_check block first c =
    let bytes = block.text.items ++ closing_byte block.closing ∷ [] in
    cond_both (is_check bytes first c) (Got (frame.Block block)) (On BadText) (Leads (AwaitsSecondCheck block first) c)
    (λ e.
    let both = and_parts (eqb (get_or (check_of bytes) 0 0) first) (eqb (get_or (check_of bytes) 1 0) c) e in
    let one : get_or (check_of bytes) 0 0 ≡ first = eqb-true (get_or (check_of bytes) 0 0) first both.0 in
    let two : get_or (check_of bytes) 1 0 ≡ c = eqb-true (get_or (check_of bytes) 1 0) c both.1 in
    (refl, sym (check_pair bytes ∙ ap (λ b. b ∷ get_or (check_of bytes) 1 0 ∷ []) one ∙ ap (λ b. first ∷ b ∷ []) two)))
    (λ _. λ f t h. absurd h)

-- what one byte does keeps to the grammar, wherever it comes
pub leads : (p : HeardSoFar) (c : ℕ) → Leads p c (next p c)
leads Pads c = leads_pads c
leads OneSyn c = leads_one_syn c
leads Syns c = leads_syns c
leads Dle c = leads_dle c
leads (Text false text) c = leads_normal text c
leads (Text true text) c = leads_transparent text c
leads (TextDle text) c = leads_text_dle text c
leads (AwaitsCheck block) c = λ f t h. h
leads (AwaitsSecondCheck block first) c = leads_second_check block first c
leads BadText c = λ f t h. absurd h
leads OnlyPads c = leads_no_sync OnlyPads c
leads OnlyNoise c = λ f t h. absurd h

-- ---- whole runs

-- the bytes begin with what completes a transmission of the frame
pub record Found (p : HeardSoFar) (f : Frame) (bytes rest : List ℕ) : Type 0 where
  pub front : List ℕ
  pub whole : bytes ≡ front ++ rest
  pub completes : Rest p f front

found_step : (p : HeardSoFar) (c : ℕ) (t : List ℕ) (f : Frame) (r : List ℕ) (n : Progress) → Leads p c n → ((q : HeardSoFar) → run q t ≡ Hears f r → Found q f t r)
    → elim n [ On q ↦ run q t | Got g ↦ Hears g t ] ≡ Hears f r → Found p f (c ∷ t) r
found_step p c t f r (On q) l more e =
    let found = more q e in
    record { front = c ∷ found.front; whole = ap (λ b. c ∷ b) found.whole; completes = l f found.front found.completes }
found_step p c t f r (Got g) l more e =
    let same : g ≡ f = cc in
    let rest : t ≡ r = cc in
    record { front = c ∷ []; whole = ap (λ b. c ∷ b) rest; completes = subst (λ f. Rest p f (c ∷ [])) same l }

-- what is heard is a transmission
pub found : (p : HeardSoFar) (t : List ℕ) (f : Frame) (r : List ℕ) → run p t ≡ Hears f r → Found p f t r
found p [] f r e = absurd cc
found p (c ∷ t) f r e = found_step p c t f r (next p c) (leads p c) (λ q. found q t f r) e
