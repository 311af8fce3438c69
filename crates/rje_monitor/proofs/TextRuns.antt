-- What the plain listener makes of a text. The lower crate has these steps too, for itself alone.
use Rattle.std.proofs.Common.{◌≡◌, ℕ, ◌+◌, ◌≤◌, ◌<◌, Bool, true, false, eqb, Option, Some, None, List, [], ◌∷◌, ◌++◌, length, get_or, refl, ap, sym, ◌∙◌, arith, append_assoc, length-append, inl, inr, subst}
use Rattle.std.proofs.lemmas.List.{append-nil}
use Rattle.std.proofs.lemmas.Bool.{lt-ltb}
use Rattle.std.specs.List.{flat_map}
use Rattle.std.specs.Bool.{OnFalse}
use Rattle.bsc_frame.specs.Body.{IsNormalText, on_line, start_of_text, IsText, closing_byte}
use Rattle.bsc_frame.specs.Inside.Listening.NormalText.{is_normal_text}
use Rattle.bsc_frame.specs.Inside.Listening.HeardSoFar.{Syns, Text, TextDle, AwaitsCheck, AwaitsSecondCheck, On, next}
use Rattle.bsc_frame.specs.Inside.Listening.Run.{Waits, Hears, run}
use Rattle.bsc_codes.specs.declared.block.Block.{Block}
use Rattle.bsc_codes.specs.Bytes.{DLE}
use Rattle.bsc_check.specs.Check.{check_of}
use Rattle.bsc_frame.specs.declared.frame.Frame.TheVariants as frame
use Rattle.bsc_frame.proofs.NormalBytes.{passes}
use Rattle.bsc_frame.proofs.Hearing.{run_on, run_got, data_of, AllNormal, on_line_byte, check_pair, own_check}

next_normal : (text : List ℕ) (c : ℕ) → is_normal_text c ≡ true → length text < 512 → next (Text false text) c ≡ On (Text false (text ++ c ∷ []))
next_normal text c e h = rw e (rw (lt-ltb (length text) 512 h) refl)

next_transparent : (text : List ℕ) (c : ℕ) → eqb c DLE ≡ false → length text < 512 → next (Text true text) c ≡ On (Text true (text ++ c ∷ []))
next_transparent text c e h = rw e (rw (lt-ltb (length text) 512 h) refl)

next_doubled : (text : List ℕ) → length text < 512 → next (TextDle text) DLE ≡ On (Text true (text ++ DLE ∷ []))
next_doubled text h = rw (lt-ltb (length text) 512 h) refl

run_normal : (items : List (Option ℕ)) (text v : List ℕ) → AllNormal (data_of items) → length text + length (data_of items) ≤ 512
    → run (Text false text) (flat_map (on_line false) items ++ v) ≡ run (Text false (text ++ data_of items)) v
run_normal [] text v n h = ap (λ t. run (Text false t) v) (sym (append-nil text))
run_normal (None ∷ items) text v n h = run_normal items text v n h
run_normal (Some c ∷ items) text v n h =
    run_on (Text false text) (Text false (text ++ c ∷ [])) c (flat_map (on_line false) items ++ v) (next_normal text c (passes c n.0) (omega arith))
    ∙ run_normal items (text ++ c ∷ []) v n.1 (omega (arith, length-append text (c ∷ [])))
    ∙ ap (λ t. run (Text false t) v) (append_assoc text (c ∷ []) (data_of items))

run_byte : (text v : List ℕ) (c : ℕ) → length text < 512 → run (Text true text) (on_line true (Some c) ++ v) ≡ run (Text true (text ++ c ∷ [])) v
run_byte text v c h =
    elim (on_line_byte c) [
      | inl p ↦ ap (λ w. run (Text true text) (w ++ v)) p.1 ∙ run_on (TextDle text) (Text true (text ++ DLE ∷ [])) DLE v (next_doubled text h) ∙ ap (λ d. run (Text true (text ++ d ∷ [])) v) (sym p.0)
      | inr p ↦ ap (λ w. run (Text true text) (w ++ v)) p.1 ∙ run_on (Text true text) (Text true (text ++ c ∷ [])) c v (next_transparent text c p.0 h)
    ]

run_transparent : (items : List (Option ℕ)) (text v : List ℕ) → length text + length (data_of items) ≤ 512
    → run (Text true text) (flat_map (on_line true) items ++ v) ≡ run (Text true (text ++ data_of items)) v
run_transparent [] text v h = ap (λ t. run (Text true t) v) (sym (append-nil text))
run_transparent (None ∷ items) text v h = run_transparent items text v h
run_transparent (Some c ∷ items) text v h =
    ap (run (Text true text)) (append_assoc (on_line true (Some c)) (flat_map (on_line true) items) v)
    ∙ run_byte text (flat_map (on_line true) items ++ v) c (omega arith)
    ∙ run_transparent items (text ++ c ∷ []) v (omega (arith, length-append text (c ∷ [])))
    ∙ ap (λ t. run (Text true t) v) (append_assoc text (c ∷ []) (data_of items))

-- a text that begins
pub run_text : (transparent : Bool) (text line v : List ℕ) → IsText transparent text line
    → run Syns (start_of_text transparent ++ (line ++ v)) ≡ run (Text transparent text) v
run_text false text line v h =
    ap (λ l. run (Text false []) (l ++ v)) h.line_is
    ∙ run_normal h.items [] v (subst AllNormal h.text_is h.normal) (omega (arith, h.room, ap length h.text_is))
    ∙ ap (λ t. run (Text false t) v) (sym h.text_is)
run_text true text line v h =
    ap (λ l. run (Text true []) (l ++ v)) h.line_is
    ∙ run_transparent h.items [] v (omega (arith, h.room, ap length h.text_is))
    ∙ ap (λ t. run (Text true t) v) (sym h.text_is)

-- the check of a block
pub run_check : (block : Block) (v : List ℕ) → run (AwaitsCheck block) (check_of (block.text.items ++ closing_byte block.closing ∷ []) ++ v) ≡ Hears (frame.Block block) v
run_check block v =
    let bytes = block.text.items ++ closing_byte block.closing ∷ [] in
    let first = get_or (check_of bytes) 0 0 in
    let second = get_or (check_of bytes) 1 0 in
    ap (λ w. run (AwaitsCheck block) (w ++ v)) (check_pair bytes)
    ∙ run_got (AwaitsSecondCheck block first) (frame.Block block) second v (rw (own_check bytes) refl)

-- one more data byte
pub run_data : (transparent : Bool) (text : List ℕ) (c : ℕ) → OnFalse transparent (IsNormalText c) → length text < 512
    → run (Text transparent text) (on_line transparent (Some c)) ≡ Waits (Text transparent (text ++ c ∷ []))
run_data false text c n h = run_on (Text false text) (Text false (text ++ c ∷ [])) c [] (next_normal text c (passes c n) h)
run_data true text c n h = ap (run (Text true text)) (sym (append-nil (on_line true (Some c)))) ∙ run_byte text [] c h
