-- What is written is a body.
use Rattle.std.proofs.Common.{◌≡◌, ℕ, ◌≤◌, Bool, Some, List, [], ◌∷◌, ◌++◌, length, map, refl, ap}
use Rattle.std.specs.Bool.{OnFalse}
use Rattle.std.specs.List.{flat_map, AllByRecursion}
use Rattle.std.specs.Option.{option_to_list}
use Rattle.bsc_frame.specs.Body.{on_line, IsText, IsNormalText}
use Rattle.bsc_frame.specs.Written.{text_without_fill, body_without_fill, Written}
use Rattle.bsc_frame.specs.Laws.{WrittenIsTransmission}
use Rattle.bsc_codes.specs.declared.block.Block.{Block}
use Rattle.bsc_codes.specs.Bytes.{SYN, PAD}
use Rattle.bsc_frame.specs.declared.frame.Frame.TheVariants as frame

on_line_without_fill : (transparent : Bool) (text : List ℕ) → text_without_fill transparent text ≡ flat_map (on_line transparent) (map (λ byte. Some byte) text)
on_line_without_fill transparent [] = refl
on_line_without_fill transparent (c ∷ text) = ap (λ v. on_line transparent (Some c) ++ v) (on_line_without_fill transparent text)

bytes_without_fill : (text : List ℕ) → text ≡ flat_map option_to_list (map (λ byte. Some byte) text)
bytes_without_fill [] = refl
bytes_without_fill (c ∷ text) = ap (λ v. c ∷ v) (bytes_without_fill text)

-- text without fill is a text
pub without_fill_is_text : (transparent : Bool) (text : List ℕ) → OnFalse transparent (AllByRecursion IsNormalText text) → length text ≤ 512 → IsText transparent text (text_without_fill transparent text)
without_fill_is_text transparent text n h =
    record { items = map (λ byte. Some byte) text; line_is = on_line_without_fill transparent text; text_is = bytes_without_fill text; normal = n; room = h }

-- a block that is written so is written as it must be
pub written_block : (block : Block) (out : List ℕ) → OnFalse block.transparent (AllByRecursion IsNormalText block.text.items) → length block.text.items ≤ 512 → out ≡ SYN ∷ SYN ∷ (body_without_fill (frame.Block block) ++ PAD ∷ []) → Written (frame.Block block) out
written_block block out n h e =
    record {
      is_body = record { line = text_without_fill block.transparent block.text.items; is_text = without_fill_is_text block.transparent block.text.items n h; whole = refl };
      whole = e;
    }

-- what is written is a transmission and a pad
pub written_lem : WrittenIsTransmission
written_lem f bytes h =
    let sync = SYN ∷ SYN ∷ [] in (
      sync ++ body_without_fill f,
      record { sync = sync; body = body_without_fill f; is_sync = record { pads = []; are_pads = tt; more = 0; whole = refl }; is_body = h.is_body; whole = refl },
      h.whole,
    )
