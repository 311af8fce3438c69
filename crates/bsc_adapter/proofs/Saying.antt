-- What is said of a frame is an adapter's form of it, and it is what stands in the middle of what is written.
use Rattle.std.proofs.Common.{◌≡◌, ℕ, ◌+◌, Bool, true, false, List, [], ◌∷◌, ◌++◌, length, refl, ap, sym, ◌∙◌, append_assoc, length-append, subst}
use Rattle.std.proofs.lemmas.List.{append-nil}
use Rattle.std.specs.Bool.{OnFalse}
use Rattle.std.specs.List.{AllByRecursion}
use Rattle.bsc_codes.specs.Bytes.{STX, ENQ, SYN, PAD}
use Rattle.bsc_codes.specs.declared.block.Block.{Block}
use Rattle.bsc_codes.specs.declared.block.Closing.{Closing}
use Rattle.bsc_codes.specs.declared.block.Closing.TheVariants.{Etb, Etx}
use Rattle.bsc_check.specs.Check.{check_of}
use Rattle.bsc_frame.specs.declared.frame.Frame.{Frame}
use Rattle.bsc_frame.specs.declared.frame.Frame.TheVariants as frame
use Rattle.bsc_frame.specs.Body.{Body, IsNormalText, start_of_text, closing_byte, covered, block_end}
use Rattle.bsc_frame.specs.Written.{Written, body_without_fill, text_without_fill}
use Rattle.bsc_frame.proofs.Hearing.{check_pair}
use Rattle.bsc_frame.proofs.NormalBytes.{passes}
use Rattle.bsc_adapter.specs.Form.{check_bytes, IsSaid}
use Rattle.bsc_adapter.specs.Inside.Making.{Front, made, behind}
use Rattle.bsc_adapter.specs.Made.{Makes}
use Rattle.bsc_adapter.specs.Laws.{SaidIsForm, SaidComesBack}
use Rattle.bsc_adapter.proofs.Parts.{closed_text, check_last}
use Rattle.bsc_adapter.proofs.Forwards.{not_it, form_made}

pub said_is_form_lem : SaidIsForm
said_is_form_lem f bytes said h is_said = record { idle = []; body = said; are_idle = tt; is_body = subst (Body f) (sym is_said) h.is_body; whole = refl }

pub said_comes_back_lem : SaidComesBack
unfolding Makes said_is_form_lem
said_comes_back_lem f bytes said out h is_said e =
    let body : (said ++ check_bytes f) ++ [] ≡ body_without_fill f = append-nil (said ++ check_bytes f) ∙ is_said in
    let is : out ≡ SYN ∷ SYN ∷ body_without_fill f =
    e ∙ ap (made Front) (sym (append-nil said)) ∙ form_made f said [] (said_is_form_lem f bytes said h is_said) ∙ ap (λ l. SYN ∷ SYN ∷ l) body in
    h.whole ∙ ap (λ l. l ++ PAD ∷ []) (sym is)

-- ---- What stands behind what is said.

check_length : (bytes : List ℕ) → length (check_of bytes) ≡ 2
check_length bytes = ap length (check_pair bytes)

-- what stands in front of a block's text decides
not_enq : (text rest : List ℕ) (closing : Closing) → AllByRecursion IsNormalText text
    → behind (SYN ∷ SYN ∷ STX ∷ (text_without_fill false text ++ (closing_byte closing ∷ rest))) ≡ 3
not_enq [] rest Etb n = refl
not_enq [] rest Etx n = refl
not_enq (c ∷ text) rest closing n = rw (not_it c ENQ (passes c n.0) refl) refl

behind_block : (transparent : Bool) (text pad : List ℕ) (closing : Closing) → OnFalse transparent (AllByRecursion IsNormalText text)
    → behind (SYN ∷ SYN ∷ ((start_of_text transparent ++ (text_without_fill transparent text ++ block_end transparent text closing)) ++ pad)) ≡ 3
behind_block false text pad closing n =
    ap (λ l. behind (SYN ∷ SYN ∷ STX ∷ l)) (append_assoc (text_without_fill false text) (block_end false text closing) pad)
    ∙ not_enq text (check_of (covered text closing) ++ pad) closing n
behind_block true text pad closing n = refl

-- what is written is two SYN, what is said, the check and a pad, and the first bytes tell how long the last two are
record Middle (f : Frame) (bytes : List ℕ) : Type 0 where
  pub said : List ℕ
  pub is_said : IsSaid f said
  pub whole : bytes ≡ SYN ∷ SYN ∷ (said ++ (check_bytes f ++ PAD ∷ []))
  pub length_is : length (check_bytes f ++ PAD ∷ []) ≡ behind bytes

block_middle : (block : Block) (bytes : List ℕ) → Written (frame.Block block) bytes → Middle (frame.Block block) bytes
block_middle block bytes h =
    let transparent = block.transparent in
    let text = block.text.items in
    let line = text_without_fill transparent text in
    let check = check_of (covered text block.closing) in
    let said = closed_text transparent line block.closing in
    let body = check_last transparent text line block.closing in
    let three : behind bytes ≡ 3 = ap behind h.whole ∙ behind_block transparent text (PAD ∷ []) block.closing h.is_body.is_text.normal in
    record {
      said = said;
      is_said = sym body;
      whole = h.whole ∙ ap (λ l. SYN ∷ SYN ∷ (l ++ PAD ∷ [])) body ∙ ap (λ l. SYN ∷ SYN ∷ l) (append_assoc said check (PAD ∷ []));
      length_is = length-append check (PAD ∷ []) ∙ ap (λ n. n + 1) (check_length (covered text block.closing)) ∙ sym three;
    }

middle : (f : Frame) (bytes : List ℕ) → Written f bytes → Middle f bytes
middle (frame.Block block) bytes h = block_middle block bytes h
middle frame.Enq bytes h = record { said = body_without_fill frame.Enq; is_said = refl; whole = h.whole; length_is = ap behind (sym h.whole) }
middle frame.Ack0 bytes h = record { said = body_without_fill frame.Ack0; is_said = refl; whole = h.whole; length_is = ap behind (sym h.whole) }
middle frame.Ack1 bytes h = record { said = body_without_fill frame.Ack1; is_said = refl; whole = h.whole; length_is = ap behind (sym h.whole) }
middle frame.Nak bytes h = record { said = body_without_fill frame.Nak; is_said = refl; whole = h.whole; length_is = ap behind (sym h.whole) }
middle frame.Wack bytes h = record { said = body_without_fill frame.Wack; is_said = refl; whole = h.whole; length_is = ap behind (sym h.whole) }
middle frame.Rvi bytes h = record { said = body_without_fill frame.Rvi; is_said = refl; whole = h.whole; length_is = ap behind (sym h.whole) }
middle frame.Ttd bytes h = record { said = body_without_fill frame.Ttd; is_said = refl; whole = h.whole; length_is = ap behind (sym h.whole) }
middle frame.Abort bytes h = record { said = body_without_fill frame.Abort; is_said = refl; whole = h.whole; length_is = ap behind (sym h.whole) }
middle frame.Eot bytes h = record { said = body_without_fill frame.Eot; is_said = refl; whole = h.whole; length_is = ap behind (sym h.whole) }

-- bytes are these without two in front and so many behind
abbrev IsMiddle : List ℕ → ℕ → List ℕ → Type 0
IsMiddle bytes count rest = (first second : ℕ) (body back : List ℕ) → bytes ≡ first ∷ second ∷ (body ++ back) → length back ≡ count → rest ≡ body

-- what is left in the middle is said
pub is_said : (bytes rest : List ℕ) (count : ℕ) → count ≡ behind bytes → IsMiddle bytes count rest → (f : Frame) → Written f bytes → IsSaid f rest
is_said bytes rest count c h f w =
    let m = middle f bytes w in
    subst (IsSaid f) (sym (h SYN SYN m.said (check_bytes f ++ PAD ∷ []) m.whole (m.length_is ∙ sym c))) m.is_said
