-- One byte more.
use Rattle.std.proofs.Common.{◌≡◌, ℕ, List, [], ◌∷◌, ◌++◌, refl, ap, sym, ◌∙◌, append_assoc, subst}
use Rattle.std.proofs.lemmas.List.{append-nil}
use Rattle.bsc_adapter.specs.declared.from_adapter.FromAdapter.{FromAdapter}
use Rattle.bsc_adapter.specs.declared.place.Place.TheVariants as place
use Rattle.bsc_adapter.specs.Inside.Making.{Standing, Front, Stands, next, says, reached, made}
use Rattle.bsc_adapter.specs.Made.{Makes, IsBehind, HasMade}
use Rattle.bsc_adapter.specs.Laws.{OneMaking}

-- more bytes behind others
pub reached-append : (s : Standing) (a b : List ℕ) → reached s (a ++ b) ≡ reached (reached s a) b
reached-append s [] b = refl
reached-append s (c ∷ a) b = reached-append (next s c) a b

pub made-append : (s : Standing) (a b : List ℕ) → made s (a ++ b) ≡ made s a ++ made (reached s a) b
made-append s [] b = refl
made-append s (c ∷ a) b = ap (λ l. says s c ++ l) (made-append (next s c) a b) ∙ sym (append_assoc (says s c) (made (next s c) a) (made (reached (next s c) a) b))

-- in front of a body nothing was taken and made
pub nothing_made : (check : ℕ) → HasMade (record { place = place.Front; check = check }) [] []
unfolding Makes IsBehind
nothing_made check = record { is_behind = refl; makes = refl }

-- one byte more
pub one_more : (before after : FromAdapter) (byte : ℕ) (out_of_it : List ℕ)
    → ((s : Standing) → Stands before.place before.check s → out_of_it ≡ says s byte)
    → ((s : Standing) → Stands before.place before.check s → Stands after.place after.check (next s byte))
    → (taken out : List ℕ) → HasMade before taken out → HasMade after (taken ++ byte ∷ []) (out ++ out_of_it)
unfolding Makes IsBehind
one_more before after byte out_of_it says_it goes_on taken out h =
    record {
      is_behind = subst (Stands after.place after.check) (sym (reached-append Front taken (byte ∷ []))) (goes_on (reached Front taken) h.is_behind);
      makes =
          ap (λ l. l ++ out_of_it) h.makes ∙ ap (λ l. made Front taken ++ l) (says_it (reached Front taken) h.is_behind ∙ sym (append-nil (says (reached Front taken) byte)))
          ∙ sym (made-append Front taken (byte ∷ []));
    }

-- the same bytes make the same
pub one_making_lem : OneMaking
unfolding Makes
one_making_lem taken out more h k = h ∙ sym k
