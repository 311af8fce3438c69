-- Behind an adapter's form it stands in front of a body again.
use Rattle.std.proofs.Common.{◌≡◌, ℕ, Bool, true, false, eqb, Option, Some, None, List, [], ◌∷◌, ◌++◌, refl, ap, sym, ◌∙◌, append_assoc, inl, inr, subst}
use Rattle.std.proofs.lemmas.List.{append-nil}
use Rattle.std.specs.List.{flat_map, AllByRecursion}
use Rattle.bsc_codes.specs.Bytes.{ETX, DLE, ETB, ENQ, SYN}
use Rattle.bsc_codes.specs.declared.block.Closing.{Closing}
use Rattle.bsc_codes.specs.declared.block.Closing.TheVariants.{Etb, Etx}
use Rattle.bsc_frame.specs.declared.frame.Frame.{Frame}
use Rattle.bsc_frame.specs.declared.frame.Frame.TheVariants as frame
use Rattle.bsc_frame.specs.Body.{closing_byte, on_line, start_of_text, dle, IsText, EndedByEnq, IsNormalText}
use Rattle.bsc_frame.specs.Heard.{IsPadOrSyn}
use Rattle.bsc_frame.proofs.NormalBytes.{passes}
use Rattle.bsc_frame.proofs.Hearing.{data_of, AllNormal, on_line_byte}
use Rattle.bsc_adapter.specs.Form.{check_bytes, AdapterForm}
use Rattle.bsc_adapter.specs.Inside.Making.{Front, Text, Stands, next, reached, made}
use Rattle.bsc_adapter.specs.Made.{Makes, IsBehind}
use Rattle.bsc_adapter.specs.Laws.{FormIsMade}
use Rattle.bsc_adapter.proofs.Parts.{BodyByParts, by_parts}
use Rattle.bsc_adapter.proofs.Forwards.{not_it, form_made, transmission_of}

-- ---- Texts.

next_normal : (text : List ℕ) (c : ℕ) → IsNormalText c → next (Text false text) c ≡ Text false (text ++ c ∷ [])
next_normal text c n = let p = passes c n in rw (not_it c SYN p refl) (rw (not_it c ENQ p refl) (rw (not_it c ETB p refl) (rw (not_it c ETX p refl) refl)))

reached_normal : (items : List (Option ℕ)) (text v : List ℕ) → AllNormal (data_of items)
    → reached (Text false text) (flat_map (on_line false) items ++ v) ≡ reached (Text false (text ++ data_of items)) v
reached_normal [] text v n = ap (λ t. reached (Text false t) v) (sym (append-nil text))
reached_normal (None ∷ items) text v n = reached_normal items text v n
reached_normal (Some c ∷ items) text v n =
    ap (λ s. reached s (flat_map (on_line false) items ++ v)) (next_normal text c n.0)
    ∙ reached_normal items (text ++ c ∷ []) v n.1
    ∙ ap (λ t. reached (Text false t) v) (append_assoc text (c ∷ []) (data_of items))

reached_byte : (text v : List ℕ) (c : ℕ) → reached (Text true text) (on_line true (Some c) ++ v) ≡ reached (Text true (text ++ c ∷ [])) v
reached_byte text v c =
    elim (on_line_byte c) [
      | inl p ↦ ap (λ w. reached (Text true text) (w ++ v)) p.1 ∙ ap (λ d. reached (Text true (text ++ d ∷ [])) v) (sym p.0)
      | inr p ↦ ap (λ w. reached (Text true text) (w ++ v)) p.1 ∙ alone p.0
    ]
  where
    alone : eqb c DLE ≡ false → reached (Text true text) (c ∷ v) ≡ reached (Text true (text ++ c ∷ [])) v
    alone e = rw e refl

reached_transparent : (items : List (Option ℕ)) (text v : List ℕ)
    → reached (Text true text) (flat_map (on_line true) items ++ v) ≡ reached (Text true (text ++ data_of items)) v
reached_transparent [] text v = ap (λ t. reached (Text true t) v) (sym (append-nil text))
reached_transparent (None ∷ items) text v = reached_transparent items text v
reached_transparent (Some c ∷ items) text v =
    let rest = flat_map (on_line true) items in
    ap (reached (Text true text)) (append_assoc (on_line true (Some c)) rest v)
    ∙ reached_byte text (rest ++ v) c
    ∙ reached_transparent items (text ++ c ∷ []) v
    ∙ ap (λ t. reached (Text true t) v) (append_assoc text (c ∷ []) (data_of items))

reached_text : (transparent : Bool) (text line v : List ℕ) → IsText transparent text line
    → reached (Text transparent []) (line ++ v) ≡ reached (Text transparent text) v
reached_text false text line v h =
    ap (λ l. reached (Text false []) (l ++ v)) h.line_is ∙ reached_normal h.items [] v (subst AllNormal h.text_is h.normal)
    ∙ ap (λ t. reached (Text false t) v) (sym h.text_is)
reached_text true text line v h =
    ap (λ l. reached (Text true []) (l ++ v)) h.line_is ∙ reached_transparent h.items [] v ∙ ap (λ t. reached (Text true t) v) (sym h.text_is)

reached_start : (transparent : Bool) (v : List ℕ) → reached Front (start_of_text transparent ++ v) ≡ reached (Text transparent []) v
reached_start false v = refl
reached_start true v = refl

reached_closing : (transparent : Bool) (text v : List ℕ) (closing : Closing)
    → reached (Text transparent text) ((dle transparent ++ closing_byte closing ∷ []) ++ v) ≡ reached Front v
reached_closing false text v Etb = refl
reached_closing false text v Etx = refl
reached_closing true text v Etb = refl
reached_closing true text v Etx = refl

reached_enq : (transparent : Bool) (text v : List ℕ) → reached (Text transparent text) ((dle transparent ++ ENQ ∷ []) ++ v) ≡ reached Front v
reached_enq false text v = refl
reached_enq true text v = refl

-- a text and what ends it
reached_ended : (transparent : Bool) (text line tail v : List ℕ) → IsText transparent text line
    → reached (Text transparent text) (tail ++ v) ≡ reached Front v
    → reached Front ((start_of_text transparent ++ (line ++ tail)) ++ v) ≡ reached Front v
reached_ended transparent text line tail v h e =
    ap (reached Front) (append_assoc (start_of_text transparent) (line ++ tail) v ∙ ap (λ w. start_of_text transparent ++ w) (append_assoc line tail v))
    ∙ reached_start transparent (line ++ (tail ++ v)) ∙ reached_text transparent text line (tail ++ v) h ∙ e

-- ---- Bodies and forms.

by_enq : (transparent : Bool) (text body v : List ℕ) → EndedByEnq transparent text body → reached Front (body ++ v) ≡ reached Front v
by_enq transparent text body v h =
    ap (λ b. reached Front (b ++ v)) h.whole ∙ reached_ended transparent text h.line (dle transparent ++ ENQ ∷ []) v h.is_text (reached_enq transparent text v)

reached_body : (f : Frame) (body v : List ℕ) → BodyByParts f body → reached Front (body ++ v) ≡ reached Front v
reached_body (frame.Block block) body v h =
    ap (λ b. reached Front (b ++ v)) h.whole
    ∙ reached_ended block.transparent block.text.items h.line (dle block.transparent ++ closing_byte block.closing ∷ []) v h.is_text
    (reached_closing block.transparent block.text.items v block.closing)
reached_body frame.Enq body v h = rw h refl
reached_body frame.Ack0 body v h = rw h refl
reached_body frame.Ack1 body v h = rw h refl
reached_body frame.Nak body v h = rw h refl
reached_body frame.Wack body v h = rw h refl
reached_body frame.Rvi body v h = rw h refl
reached_body frame.Ttd body v h = by_enq false [] body v h
reached_body frame.Abort body v (inl h) = by_enq false h.0 body v h.2
reached_body frame.Abort body v (inr h) = by_enq true h.0 body v h.1
reached_body frame.Eot body v (inl h) = rw h refl
reached_body frame.Eot body v (inr h) = rw h refl

reached_idle : (idle v : List ℕ) → AllByRecursion IsPadOrSyn idle → reached Front (idle ++ v) ≡ reached Front v
reached_idle [] v h = refl
reached_idle (c ∷ idle) v h =
    elim h.0 [
      | inl (inl e) ↦ rw e (reached_idle idle v h.1)
      | inl (inr e) ↦ rw e (reached_idle idle v h.1)
      | inr e ↦ rw e (reached_idle idle v h.1)
    ]

reached_form : (f : Frame) (form rest : List ℕ) → AdapterForm f form → reached Front (form ++ rest) ≡ reached Front rest
reached_form f form rest h =
    ap (λ l. reached Front (l ++ rest)) h.whole ∙ ap (reached Front) (append_assoc h.idle h.body rest)
    ∙ reached_idle h.idle (h.body ++ rest) h.are_idle ∙ reached_body f h.body rest (by_parts f h.body h.is_body)

pub form_is_made_lem : FormIsMade
unfolding Makes IsBehind
form_is_made_lem adapter f form rest out h m = record {
  more = made Front rest;
  is_transmission = transmission_of f (h.body ++ check_bytes f) h.is_body;
  of_rest = record { is_behind = subst (Stands adapter.place adapter.check) (reached_form f form rest h) m.is_behind; makes = refl };
  whole = m.makes ∙ form_made f form rest h;
}
