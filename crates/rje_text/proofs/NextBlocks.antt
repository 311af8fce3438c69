-- Packing from a record on.
use Rattle.std.proofs.Common.{◌≡◌, ◌⊎◌, inl, inr, ℕ, ◌+◌, ◌<◌, ◌≤◌, Bool, true, false, leb, List, [], ◌∷◌, ◌++◌, length, drop, get_or, Some, None, refl, ap, sym, ◌∙◌, subst, arith}
use Rattle.std.specs.Prelude.{Contains, ◌==◌}
use Rattle.std.specs.Bool.{OnFalse}
use Rattle.std.specs.Cmp.{nat_eq_equiv}
use Rattle.std.specs.List.{AllByRecursion, list_any}
use Rattle.std.proofs.lemmas.List.{append_assoc, drop_more}
use Rattle.std.proofs.lemmas.Map.Views.{list_any-from_Contains}
use Rattle.std.proofs.lemmas.Bool.Decides.{nat_tests}
use Rattle.std.proofs.lemmas.Bool.{leb-true}
use Rattle.bsc_codes.specs.Bytes.{IRS, IGS, ESC, control_bytes}
use Rattle.bsc_codes.specs.declared.block.Block.{Block}
use Rattle.bsc_codes.specs.declared.block.Closing.{Closing}
use Rattle.bsc_codes.specs.declared.block.Closing.TheVariants.{Etb, Etx}
use Rattle.rje_text.specs.declared.mode.Mode.{Mode}
use Rattle.rje_text.specs.declared.mode.Mode.TheVariants.{Normal, Transparent}
use Rattle.rje_text.specs.declared.select.Select.{Select}
use Rattle.rje_text.specs.declared.action.Action.{Action}
use Rattle.rje_text.specs.declared.action.Action.TheVariants.{Plain, Single, Double, Triple, Suppress, Ch1, Ch2, Ch3, Ch4, Ch5, Ch6, Ch7, Ch8, Ch9, Ch10, Ch11, Ch12}
use Rattle.rje_text.specs.declared.record.Record.{Record}
use Rattle.rje_text.specs.Action.{code_of}
use Rattle.rje_text.specs.PackFault.{pack_fault}
use Rattle.rje_text.specs.Spelling.{spelling, compressed, action_escape}
use Rattle.rje_text.specs.Cut.{is_transparent, cut_behind, cut}
use Rattle.rje_text.specs.NextBlock.{front_at, cut_from, blocks_after, IsNextBlock, AreBlocksBefore, AreBlocksTo}
use Rattle.rje_text.proofs.ReadBack.{IsQuiet, AreQuiet, compressed_quiet, data_of}

-- ---- Every byte of a spelling in a normal text may stand there.

abbrev AreNormal : List ℕ → Type 0
AreNormal xs = AllByRecursion (λ byte. Contains control_bytes byte → ⊥) xs

normal-append : (xs ys : List ℕ) → AreNormal xs → AreNormal ys → AreNormal (xs ++ ys)
normal-append [] ys h g = g
normal-append (x ∷ xs) ys h g = (h.0, normal-append xs ys h.1 g)

no_control : (x : ℕ) → list_any (λ c. x == c) control_bytes ≡ false → Contains control_bytes x → ⊥
no_control x e h = let t : list_any (λ c. x == c) control_bytes ≡ true = list_any-from_Contains nat_eq_equiv x control_bytes h in absurd cc

normal_above : (x : ℕ) → 0x40 ≤ x → Contains control_bytes x → ⊥
normal_above x h = no_control x (grind (arith, nat_tests))

quiet_normal : (x : ℕ) → IsQuiet x → Contains control_bytes x → ⊥
quiet_normal x (inl e) = rw e (no_control IGS refl)
quiet_normal x (inr h) = normal_above x h

all_quiet_normal : (xs : List ℕ) → AreQuiet xs → AreNormal xs
all_quiet_normal [] h = tt
all_quiet_normal (x ∷ xs) h = (quiet_normal x h.0, all_quiet_normal xs h.1)

coded : (code : ℕ) → 0x40 ≤ code → AreNormal (action_escape (Some code))
coded code h = (no_control ESC refl, (normal_above code h, tt))

escape_normal : (a : Action) → AreNormal (action_escape (code_of a))
escape_normal Plain = tt
escape_normal Single = coded 0x61 (omega arith)
escape_normal Double = coded 0xE2 (omega arith)
escape_normal Triple = coded 0xE3 (omega arith)
escape_normal Suppress = coded 0xD4 (omega arith)
escape_normal Ch1 = coded 0xC1 (omega arith)
escape_normal Ch2 = coded 0xC2 (omega arith)
escape_normal Ch3 = coded 0xC3 (omega arith)
escape_normal Ch4 = coded 0xC4 (omega arith)
escape_normal Ch5 = coded 0xC5 (omega arith)
escape_normal Ch6 = coded 0xC6 (omega arith)
escape_normal Ch7 = coded 0xC7 (omega arith)
escape_normal Ch8 = coded 0xC8 (omega arith)
escape_normal Ch9 = coded 0xC9 (omega arith)
escape_normal Ch10 = coded 0xD1 (omega arith)
escape_normal Ch11 = coded 0xD2 (omega arith)
escape_normal Ch12 = coded 0xD3 (omega arith)

-- a text in hand that can be sent in this mode
abbrev CanStand : Mode → List ℕ → Type 0
CanStand mode text = OnFalse (is_transparent mode) (AreNormal text)

spelling_normal : (select : Select) (r : Record) → pack_fault select Normal r ≡ None → AreNormal (spelling Normal r)
spelling_normal select r h =
    normal-append (action_escape (code_of r.action)) (compressed r.bytes.items ++ IRS ∷ []) (escape_normal r.action)
    (normal-append (compressed r.bytes.items) (IRS ∷ []) (all_quiet_normal _ (compressed_quiet r.bytes.items (data_of select r h))) (no_control IRS refl, tt))

spelling_stands : (select : Select) (mode : Mode) (r : Record) (text : List ℕ) → pack_fault select mode r ≡ None → CanStand mode text → CanStand mode (text ++ spelling mode r)
spelling_stands select Normal r text h t = normal-append text (spelling Normal r) t (spelling_normal select r h)
spelling_stands select Transparent r text h t = tt

-- ---- The loop.

-- a text with room for the spelling of a record in it, or none
abbrev room_for : Mode → List ℕ → Record → Bool
room_for mode text r = leb (length (text ++ spelling mode r)) 510

-- the records from the first to this place are in hand, and no block was closed
pub record PackedSo (select : Select) (mode : Mode) (text : List ℕ) (records : List Record) (from place : ℕ) : Type 0 where
  pub sent : AllByRecursion (λ r. pack_fault select mode r ≡ None) (drop place records)
  pub ahead : from ≤ place
  pub within : place ≤ length records
  pub begun : (text ≡ front_at select mode from) ⊎ (from < place)
  pub so : cut_behind mode text (drop place records) ≡ cut_from select mode records from
  pub stands : CanStand mode text
  pub room : length text ≤ 510

taken_cut : (mode : Mode) (text : List ℕ) (r : Record) (rs : List Record) → room_for mode text r ≡ true → cut_behind mode text (r ∷ rs) ≡ cut_behind mode (text ++ spelling mode r) rs
taken_cut mode text r rs h = rw h refl

-- the record at a place, and those after it
here_on : (records : List Record) (place : ℕ) (r : Record) → place < length records → r ≡ get_or records place r → drop place records ≡ r ∷ drop (place + 1) records
here_on records place r l e = drop_more records place r l ∙ ap (λ x. x ∷ drop (place + 1) records) (sym e)

pub packed_on : (select : Select) (mode : Mode) (text : List ℕ) (records : List Record) (from place : ℕ) (r : Record) → PackedSo select mode text records from place → place < length records → r ≡ get_or records place r
    → room_for mode text r ≡ true → PackedSo select mode (text ++ spelling mode r) records from (place + 1)
packed_on select mode text records from place r s l e t =
    let cut = here_on records place r l e in
    let sent = subst (λ rs. AllByRecursion (λ x. pack_fault select mode x ≡ None) rs) cut s.sent in
    record {
      sent = sent.1;
      ahead = omega (arith, s.ahead);
      within = omega arith;
      begun = inr (omega (arith, s.ahead));
      so = sym (ap (cut_behind mode text) cut ∙ taken_cut mode text r (drop (place + 1) records) t) ∙ s.so;
      stands = spelling_stands select mode r text sent.0 s.stands;
      room = leb-true (length (text ++ spelling mode r)) 510 t;
    }

-- ---- The block that begins where whole blocks end is the cut's next one.

pub first_of_cut : (select : Select) (mode : Mode) (records : List Record) → AreBlocksBefore select mode records 0 []
unfolding cut
first_of_cut select mode records = refl

goes_on : (select : Select) (mode : Mode) (records : List Record) (to : ℕ) (before : List Block) (b : Block) (c : Closing)
    → cut select mode records ≡ before ++ b ∷ blocks_after select mode records c to → AreBlocksTo select mode records c to (before ++ b ∷ [])
goes_on select mode records to before b Etx e = e
goes_on select mode records to before b Etb e = e ∙ sym (append_assoc before (b ∷ []) (cut_from select mode records to))

pub next_of_cut : (select : Select) (mode : Mode) (records : List Record) (from to : ℕ) (before : List Block) (b : Block) → AreBlocksBefore select mode records from before
    → IsNextBlock select mode records from b to → AreBlocksTo select mode records b.closing to (before ++ b ∷ [])
next_of_cut select mode records from to before b whole next = goes_on select mode records to before b b.closing (whole ∙ ap (λ bs. before ++ bs) next.first)
