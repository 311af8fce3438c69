-- The chosen ones of entries, one after another.
use Rattle.std.proofs.Common.{◌≡◌, ℕ, ◌+◌, ◌<◌, Bool, true, false, List, [], ◌∷◌, ◌++◌, length, map, get_or, drop, if◌then◌else◌, ap, refl, sym, ◌∙◌, subst, arith}
use Rattle.std.proofs.lemmas.List.{append_assoc, append-nil, drop_more}
use Rattle.rje_files.specs.declared.entry.Entry.{Entry}
use Rattle.rje_files.specs.declared.entry.State.{State}
use Rattle.rje_commands.specs.Chosen.{chosen_from, is_chosen, marked_from, taken_entry}

-- the chosen ones, as they are taken, of entries of which the first is at this place
abbrev pub taken_from : ℕ → (numbers : List ℕ) → List Entry → List Entry
taken_from place numbers entries = map taken_entry (chosen_from place numbers entries)

-- one more of them
pub taken_step : (made rest : List Entry) (e : Entry) (place : ℕ) (numbers : List ℕ)
    → (made ++ (if is_chosen numbers place then taken_entry e ∷ [] else [])) ++ taken_from (place + 1) numbers rest
    ≡ made ++ taken_from place numbers (e ∷ rest)
taken_step made rest e place numbers = go (is_chosen numbers place)
  where
    more : List Entry
    more = chosen_from (place + 1) numbers rest

    go : (b : Bool) → (made ++ (if b then taken_entry e ∷ [] else [])) ++ map taken_entry more ≡ made ++ map taken_entry ((if b then e ∷ [] else []) ++ more)
    go true = append_assoc made (taken_entry e ∷ []) (map taken_entry more)
    go false = ap (λ (xs : List Entry). xs ++ map taken_entry more) (append-nil made)

-- one more of those that have marks
pub marked_step : (made rest : List Entry) (e : Entry) (place : ℕ) (numbers : List ℕ) (state : State)
    → (made ++ (if is_chosen numbers place then record e { state = state } else e) ∷ []) ++ marked_from (place + 1) numbers state rest
    ≡ made ++ marked_from place numbers state (e ∷ rest)
marked_step made rest e place numbers state = append_assoc made _ (marked_from (place + 1) numbers state rest)

-- how many are chosen from a place on, where it is known whether the entry there is
pub count_step : (numbers : List ℕ) (entries : List Entry) (place : ℕ) (b : Bool) → place < length entries → is_chosen numbers place ≡ b
    → length (chosen_from place numbers (drop place entries))
    ≡ (if b then 1 else 0) + length (chosen_from (place + 1) numbers (drop (place + 1) entries))
count_step numbers [] place b h is = absurd (omega arith)
count_step numbers (e ∷ es) place b h is =
    ap (λ (xs : List Entry). length (chosen_from place numbers xs)) (drop_more (e ∷ es) place e h)
    ∙ subst (λ (c : Bool). length ((if c then one else []) ++ more) ≡ (if b then 1 else 0) + length more) (sym is) (go b)
  where
    one : List Entry
    one = get_or (e ∷ es) place e ∷ []

    more : List Entry
    more = chosen_from (place + 1) numbers (drop (place + 1) (e ∷ es))

    go : (b : Bool) → length ((if b then one else []) ++ more) ≡ (if b then 1 else 0) + length more
    go true = omega arith
    go false = omega arith

pub none_left : {X : Type 0} (xs : List X) → length xs ≡ 0 → xs ≡ []
none_left [] h = refl
none_left (x ∷ xs) h = absurd (omega arith)
