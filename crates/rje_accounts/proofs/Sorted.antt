-- Names that are sorted by their kinds.
use Rattle.std.specs.Option.{option_to_list}
use Rattle.std.proofs.Common.{◌≡◌, ℕ, List, [], ◌∷◌, ◌++◌, Option, Some, None, refl, sym, ◌∙◌, ap}
use Rattle.std.specs.List.{filter_map}
use Rattle.std.proofs.lemmas.List.{append_assoc, append-nil}
use Rattle.std.proofs.lemmas.List.Elements.{filter_map-append}
use Rattle.rje_settle.specs.declared.settle_name.SettleName.{SettleName}
use Rattle.rje_accounts.specs.Names.{AreNamesOf, AreSorted, IsRead}
use Rattle.rje_accounts.specs.declared.settle_names.SettleNames.{SettleNames}

-- one more of the kind, and one of another
pub taken : {X Y : Type 0} (h : X → Option Y) (all : List X) (x : X) (y : Y) (ys zs : List Y) → h x ≡ Some y → ys ≡ filter_map h all → zs ≡ ys ++ y ∷ [] → zs ≡ filter_map h (all ++ x ∷ [])
taken h all x y ys zs is had more =
    let one : filter_map h (x ∷ []) ≡ y ∷ [] = rw is refl in
    more ∙ ap (λ l. l ++ y ∷ []) had ∙ ap (λ l. filter_map h all ++ l) (sym one) ∙ sym (filter_map-append h all (x ∷ []))

pub passed : {X Y : Type 0} (h : X → Option Y) (all : List X) (x : X) (ys : List Y) → h x ≡ None → ys ≡ filter_map h all → ys ≡ filter_map h (all ++ x ∷ [])
passed h all x ys is had =
    let none : filter_map h (x ∷ []) ≡ [] = rw is refl in
    had ∙ sym (append-nil (filter_map h all)) ∙ ap (λ l. filter_map h all ++ l) (sym none) ∙ sym (filter_map-append h all (x ∷ []))

-- where nothing changes but how many others there are
pub passed_over : (all : List SettleName) (s t : SettleNames) → (t.sent ≡ s.sent) × (t.kept ≡ s.kept) × (t.promises ≡ s.promises) × (t.come ≡ s.come) → AreSorted all s → AreSorted (all ++ []) t
passed_over all s t (sent, kept, promises, come) sorted = rw (append-nil all) (record {
  sent = ap (λ (v : _). v.items) sent ∙ sorted.sent;
  kept = ap (λ (v : _). v.items) kept ∙ sorted.kept;
  promises = ap (λ (v : _). v.items) promises ∙ sorted.promises;
  come = ap (λ (v : _). v.items) come ∙ sorted.come;
})

-- one text more: its name, where it is one, comes behind the others
pub names_more : (texts : List (List ℕ)) (text : List ℕ) (all : List SettleName) (read : Option SettleName) → AreNamesOf texts all → IsRead text read → AreNamesOf (texts ++ text ∷ []) (all ++ option_to_list read)
names_more [] text all read none is = (read, [], is, refl, ap (λ l. l ++ option_to_list read) none ∙ sym (append-nil (option_to_list read)))
names_more (first ∷ texts) text all read (one, later, is_one, names, joined) is =
    (one, later ++ option_to_list read, is_one, names_more texts text later read names is, ap (λ l. l ++ option_to_list read) joined ∙ append_assoc (option_to_list one) later (option_to_list read))
