-- The first entry that is to be sent and can't be.
use Rattle.std.proofs.Common.{◌≡◌, ℕ, ◌+◌, ◌<◌, List, ◌∷◌, ◌++◌, length, take, drop, get_or, ap, sym, ◌∙◌, arith, length-take}
use Rattle.std.specs.List.{All}
use Rattle.std.proofs.lemmas.List.{take-append-drop, drop_more}
use Rattle.rje_files.specs.declared.entry.Entry.{Entry}
use Rattle.rje_files.specs.Unsent.{CanPass, IsFirstUnsendable}

pub unsendable_at : (entries : List Entry) (i : ℕ) (entry : Entry) → All CanPass (take i entries) → i < length entries
    → entry ≡ get_or entries i entry → (CanPass entry → ⊥) → IsFirstUnsendable entries (i + 1)
unsendable_at entries i entry passed l e stops = record {
  before = take i entries;
  entry = entry;
  after = drop (i + 1) entries;
  whole = sym (take-append-drop i entries)
      ∙ ap (λ es. take i entries ++ es) (drop_more entries i entry l ∙ ap (λ x. x ∷ drop (i + 1) entries) (sym e));
  number_is = omega (arith, length-take i entries);
  passed = passed;
  stops = stops;
}
