-- A body without its check, part by part.
use Rattle.std.proofs.Common.{◌≡◌, ℕ, Bool, List, [], ◌∷◌, ◌++◌, ap, sym, ◌∙◌, append_assoc, subst}
use Rattle.std.proofs.lemmas.List.{append-nil, append_cancel_right}
use Rattle.bsc_codes.specs.declared.block.Block.{Block}
use Rattle.bsc_codes.specs.declared.block.Closing.{Closing}
use Rattle.bsc_check.specs.Check.{check_of}
use Rattle.bsc_frame.specs.declared.frame.Frame.{Frame}
use Rattle.bsc_frame.specs.declared.frame.Frame.TheVariants as frame
use Rattle.bsc_frame.specs.Body.{IsText, IsBlockBody, Body, start_of_text, dle, closing_byte, block_end, covered}
use Rattle.bsc_adapter.specs.Form.{check_bytes, IsBodyWithoutCheck}

-- a text and the byte that closes it
abbrev pub closed_text : Bool → List ℕ → Closing → List ℕ
closed_text transparent line closing = start_of_text transparent ++ (line ++ (dle transparent ++ closing_byte closing ∷ []))

-- a block's body is such a text and the check
pub check_last : (transparent : Bool) (text line : List ℕ) (closing : Closing)
    → start_of_text transparent ++ (line ++ block_end transparent text closing) ≡ closed_text transparent line closing ++ check_of (covered text closing)
check_last transparent text line closing =
    let start = start_of_text transparent in
    let check = check_of (covered text closing) in
    let closed = dle transparent ++ closing_byte closing ∷ [] in
    ap (λ l. start ++ (line ++ l)) (sym (append_assoc (dle transparent) (closing_byte closing ∷ []) check))
    ∙ ap (λ l. start ++ l) (sym (append_assoc line closed check)) ∙ sym (append_assoc start (line ++ closed) check)

-- a text of the block's data bytes, closed
pub record IsClosedText (block : Block) (body : List ℕ) : Type 0 where
  pub line : List ℕ
  pub is_text : IsText block.transparent block.text.items line
  pub whole : body ≡ closed_text block.transparent line block.closing

-- a body of a frame without its check
abbrev pub BodyByParts : Frame → List ℕ → Type 0
BodyByParts (frame.Block block) body = IsClosedText block body
BodyByParts frame.Enq body = Body frame.Enq body
BodyByParts frame.Ack0 body = Body frame.Ack0 body
BodyByParts frame.Ack1 body = Body frame.Ack1 body
BodyByParts frame.Nak body = Body frame.Nak body
BodyByParts frame.Wack body = Body frame.Wack body
BodyByParts frame.Rvi body = Body frame.Rvi body
BodyByParts frame.Ttd body = Body frame.Ttd body
BodyByParts frame.Abort body = Body frame.Abort body
BodyByParts frame.Eot body = Body frame.Eot body

block_by_parts : (block : Block) (body : List ℕ) → IsBlockBody block (body ++ check_bytes (frame.Block block)) → IsClosedText block body
block_by_parts block body h =
    let check = check_of (covered block.text.items block.closing) in
    let closed = closed_text block.transparent h.line block.closing in
    record {
      line = h.line;
      is_text = h.is_text;
      whole = append_cancel_right body closed check (h.whole ∙ check_last block.transparent block.text.items h.line block.closing);
    }

block_of_parts : (block : Block) (body : List ℕ) → IsClosedText block body → IsBlockBody block (body ++ check_bytes (frame.Block block))
block_of_parts block body h =
    let check = check_of (covered block.text.items block.closing) in
    record {
      line = h.line;
      is_text = h.is_text;
      whole = ap (λ l. l ++ check) h.whole ∙ sym (check_last block.transparent block.text.items h.line block.closing);
    }

pub by_parts : (f : Frame) (body : List ℕ) → IsBodyWithoutCheck f body → BodyByParts f body
by_parts (frame.Block block) body h = block_by_parts block body h
by_parts frame.Enq body h = subst (Body frame.Enq) (append-nil body) h
by_parts frame.Ack0 body h = subst (Body frame.Ack0) (append-nil body) h
by_parts frame.Ack1 body h = subst (Body frame.Ack1) (append-nil body) h
by_parts frame.Nak body h = subst (Body frame.Nak) (append-nil body) h
by_parts frame.Wack body h = subst (Body frame.Wack) (append-nil body) h
by_parts frame.Rvi body h = subst (Body frame.Rvi) (append-nil body) h
by_parts frame.Ttd body h = subst (Body frame.Ttd) (append-nil body) h
by_parts frame.Abort body h = subst (Body frame.Abort) (append-nil body) h
by_parts frame.Eot body h = subst (Body frame.Eot) (append-nil body) h

pub of_parts : (f : Frame) (body : List ℕ) → BodyByParts f body → IsBodyWithoutCheck f body
of_parts (frame.Block block) body h = block_of_parts block body h
of_parts frame.Enq body h = subst (Body frame.Enq) (sym (append-nil body)) h
of_parts frame.Ack0 body h = subst (Body frame.Ack0) (sym (append-nil body)) h
of_parts frame.Ack1 body h = subst (Body frame.Ack1) (sym (append-nil body)) h
of_parts frame.Nak body h = subst (Body frame.Nak) (sym (append-nil body)) h
of_parts frame.Wack body h = subst (Body frame.Wack) (sym (append-nil body)) h
of_parts frame.Rvi body h = subst (Body frame.Rvi) (sym (append-nil body)) h
of_parts frame.Ttd body h = subst (Body frame.Ttd) (sym (append-nil body)) h
of_parts frame.Abort body h = subst (Body frame.Abort) (sym (append-nil body)) h
of_parts frame.Eot body h = subst (Body frame.Eot) (sym (append-nil body)) h
